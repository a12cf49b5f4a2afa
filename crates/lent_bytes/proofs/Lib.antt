pub mod Lent
pub mod Within
