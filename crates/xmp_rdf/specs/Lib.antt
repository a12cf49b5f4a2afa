pub mod Parting
pub mod Reading
pub mod Gathering
pub mod Modelled
pub mod Meanings
pub mod Merging
pub mod SpaceSets
