mod Come
mod Asking
mod Keeping
mod OneEnd
mod GoingOn
pub mod AllPages
pub mod OnePage
pub mod Started
