pub mod Alias
pub mod Said
pub mod ModuleDrivers
