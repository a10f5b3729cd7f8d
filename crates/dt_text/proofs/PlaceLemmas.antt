pub mod Sites
pub mod Feeds
