-- What the cleaner promises: auditors read Says. Numbers is for the contracts of its own functions.
pub mod Says
pub mod Numbers
