pub mod absorbing
mod awaiting
mod handing
mod births
mod losses
mod paging
pub mod syncs
mod renewing
mod forks
mod rolling
pub mod here
pub mod working
mod heard
mod boot
mod examples
