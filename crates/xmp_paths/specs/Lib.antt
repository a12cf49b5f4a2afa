pub mod Parts
pub mod Grammar
pub mod Namespaces
pub mod LinePlaces
pub mod Paths
pub mod Places
pub mod Allowed
