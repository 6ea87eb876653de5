-- The laws of the route.
pub mod LastRank
pub mod Standing
pub mod Walking
pub mod Stepping
pub mod Answers
