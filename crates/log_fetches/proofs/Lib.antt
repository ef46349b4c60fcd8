mod Bits
mod Among
pub mod Notes
pub mod Keeping
mod Booting
mod Coming
