pub mod Begins
pub mod Pageless
pub mod StatedAbove
pub mod EitherWait
