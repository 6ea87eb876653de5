-- The laws of the reader. Facts: what its answer tells every caller.
pub mod Found
pub mod Held
pub mod Arrays
pub mod LastTask
pub mod Claims
pub mod FaultLaws
pub mod Steps
pub mod Going
pub mod Ending
pub mod Closing
pub mod Facts
