mod Lowest
pub mod Sized
mod Taken
mod Bodies
mod Holding
