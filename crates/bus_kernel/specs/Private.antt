pub mod Search
pub mod Views
