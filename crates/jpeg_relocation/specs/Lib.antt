pub mod Relocation
pub mod Roles
pub mod Runs
pub mod Pictures
pub mod NewSegments
pub mod Laws
