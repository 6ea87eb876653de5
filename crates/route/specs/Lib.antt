-- What the route promises: auditors read Says. Walks is for the contracts of its own functions.
pub mod Says
pub mod Walks
