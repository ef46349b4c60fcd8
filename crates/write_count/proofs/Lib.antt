pub mod CountLaws
mod Examples
pub mod Prefix
