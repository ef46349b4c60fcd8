pub mod Entering
pub mod Later
pub mod Parting
pub mod Seats
pub mod StepsLeft
