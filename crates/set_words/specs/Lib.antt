-- The kinds of words by their numbers.
pub mod Kinds
