pub mod Tiling
pub mod Portions
pub mod Heads
pub mod Joined
pub mod Written
pub mod FromDesk
