pub mod Fronts
pub mod Said
pub mod Losing
pub mod Answering
pub mod Asking
