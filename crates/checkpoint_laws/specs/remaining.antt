pub mod Load
pub mod Left
