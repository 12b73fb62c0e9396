pub mod Places
pub mod Durations
pub mod Wording
