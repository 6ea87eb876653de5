-- What the broker promises: auditors read Says.
pub mod Says
