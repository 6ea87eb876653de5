-- What the analysis promises: auditors read Says. Sections is for the contracts of its own functions.
pub mod Says
pub mod Sections
