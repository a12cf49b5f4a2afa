pub mod Already
pub mod Chars
pub mod Formed
pub mod Items
pub mod Puts
pub mod Stable
pub mod Steps
