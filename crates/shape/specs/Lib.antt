-- A set by value: ShapeOf says which numbers a shape has, Declares how words, shape and set belong together, SetOf which set an accepted one is.
pub mod ShapeOf
pub mod Declares
pub mod SetOf
