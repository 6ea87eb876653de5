-- What the trial promises: auditors read Says.
pub mod Says
