pub mod Catching
pub mod RollsAgain
pub mod GoingHeld
pub mod FollowsAgain
pub mod OwningAgain
pub mod RolledLoad
pub mod AgainLightens
