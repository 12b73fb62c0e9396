pub mod Three
pub mod Terms
pub mod Windows
pub mod Verdicts
pub mod Wording
pub mod Durations
