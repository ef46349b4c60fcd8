pub mod Since
pub mod Follows
pub mod Modes
pub mod AwaitedFamilies
pub mod Given
pub mod FreshStands
pub mod RenewedMarks
pub mod RenewalStands
pub mod RenewalMarks
mod RenewalBegins
pub mod StandingStands
pub mod Fewer
pub mod SpreadSafe
pub mod ReturnedEmpty
