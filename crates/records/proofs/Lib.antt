-- What the shape of a declared set tells of a record.
pub mod Placed
