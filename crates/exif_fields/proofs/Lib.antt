pub mod Directories
pub mod Names
