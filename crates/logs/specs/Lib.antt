pub mod Events
pub mod Lawful
pub mod Image
pub mod Taken
pub mod Checked
pub mod ImageLaws
pub mod Exact
pub mod ImageSizes
