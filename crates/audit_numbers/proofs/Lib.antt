pub mod LogSmall
pub mod Section
pub mod Explaining
