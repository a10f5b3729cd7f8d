pub mod BindingView
pub mod Bindings
pub mod Endpoints
pub mod Interrupts
pub mod LinkNodes
pub mod Mentions
pub mod Private
