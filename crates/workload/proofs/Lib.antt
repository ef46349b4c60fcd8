mod Assembled
pub mod Rules
