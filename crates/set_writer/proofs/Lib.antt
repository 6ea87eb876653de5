-- Kept: the devices written one after the other. Words: the words of renamed tasks. Run: a loop that writes words.
pub mod Kept
pub mod Words
pub mod Run
