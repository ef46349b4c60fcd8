pub mod Behind
pub mod Parents
