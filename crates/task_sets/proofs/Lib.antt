pub mod Size
pub mod Order
pub mod Walks
