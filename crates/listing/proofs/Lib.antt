pub mod Front
pub mod Runs
pub mod Rows
pub mod Digits
pub mod Callers
pub mod Shown
