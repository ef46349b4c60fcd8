pub mod Lines
pub mod Form
pub mod Printed
