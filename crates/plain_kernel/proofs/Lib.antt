mod Channels
mod Delivery
mod ElfBooting
mod Examples
pub mod AtBoot
pub mod Entries
pub mod Laws
pub mod Pids
pub mod Roots
mod StartPages
pub mod Starts
mod Falling
mod First
mod Takers
mod Emitting
mod Unsignalled
mod Ready
mod Turns
pub mod Others
pub mod Taking
pub mod TakePids
pub mod Forking
pub mod ForkPids
pub mod NextChild
mod Forked
mod PidRoom
pub mod Spending
mod Ahead
