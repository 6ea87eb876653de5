-- What the merge promises: auditors read Says. Sets is for the contracts of its own functions.
pub mod Says
pub mod Sets
