pub mod Input
pub mod Judged
pub mod Lines
pub mod Reports
