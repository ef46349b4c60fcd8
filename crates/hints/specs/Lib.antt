pub mod Kinds
pub mod Fields
pub mod Blocks
pub mod Guesses
pub mod Said
pub mod AsmLines
