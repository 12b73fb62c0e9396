pub mod Pushing
pub mod ShortLists
