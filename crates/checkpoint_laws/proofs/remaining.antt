pub mod ForkSums
pub mod Forked
pub mod StepsLeft
pub mod Pairs
pub mod Rising
pub mod OneStep
pub mod OneEntry
pub mod Born
pub mod Changed
pub mod Due
pub mod Taken
pub mod Synced
pub mod Falling
pub mod PlacedSums
pub mod Bounded
mod WorkedSending
pub mod Renewing
