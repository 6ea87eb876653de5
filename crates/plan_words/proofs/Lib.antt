pub mod Write
pub mod After
pub mod UpTo
pub mod Run
pub mod Back
