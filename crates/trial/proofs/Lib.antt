-- The cases of a trial before its bids, and what its loop keeps.
pub mod TrialCases
pub mod Kept
pub mod Trying
