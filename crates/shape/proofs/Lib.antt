-- Padded: arrays that hold a list. Sizes: sizes, weights and ranks task by task. Declared: what a declared set tells of its shape. Read: accepted words declare the set that is read. WereRead: and only those do.
pub mod WereRead
pub mod Padded
pub mod Sizes
pub mod Declared
pub mod Read
