pub mod Options
pub mod Grammar
pub mod Parsed
pub mod Parts
pub mod Script
pub mod Command
