pub mod Nests
pub mod Reached
pub mod Starts
pub mod Walks
pub mod Documents
pub mod Faults
pub mod Scans
pub mod Naming
pub mod Placing
pub mod Numbering
pub mod InForce
pub mod Tagging
pub mod Stepping
pub mod Hinting
pub mod Advancing
mod Decided
