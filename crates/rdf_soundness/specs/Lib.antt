pub mod Formed
pub mod Tree
