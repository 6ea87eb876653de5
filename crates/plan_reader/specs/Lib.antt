-- What a question promises: auditors read Says. Walk is for the contracts of its own functions.
pub mod Says
pub mod Walk
