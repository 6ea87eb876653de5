pub mod Actions
pub mod Named
