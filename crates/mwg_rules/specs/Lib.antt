pub mod Properties
pub mod Sources
pub mod Forms
pub mod Reconciled
pub mod Stale
