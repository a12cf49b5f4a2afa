pub mod Tags
pub mod Values
pub mod Blocks
pub mod Fields
