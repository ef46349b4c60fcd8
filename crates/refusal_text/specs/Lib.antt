pub mod Lines
pub mod Block
pub mod Shown
pub mod Texts
pub mod Why
