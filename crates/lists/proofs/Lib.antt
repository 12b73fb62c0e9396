pub mod Fewness
pub mod Room
