pub mod Splitting
pub mod Numerals
pub mod Tables
pub mod Parting
pub mod NameTables
pub mod HexTable
pub mod EightDigits
mod HexDigits
mod WordFields
