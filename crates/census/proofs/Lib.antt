-- Counting: counts of the bytes that pass a test.
pub mod Counting
