pub mod Making
mod MetLemmas
