pub mod Forests
pub mod Fronts
pub mod Heads
mod Options
mod Grown
mod Turns
mod Decoding
pub mod Taken
mod Begun
mod Coded
pub mod Bytes
mod Extents
mod Reached
pub mod Parts
pub mod Sheets
