mod Writing
pub mod Closing
