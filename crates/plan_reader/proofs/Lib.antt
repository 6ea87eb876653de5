-- What the walk's contract rests on: what it has found, and that each word it takes keeps the answer.
pub mod Found
pub mod Ends
