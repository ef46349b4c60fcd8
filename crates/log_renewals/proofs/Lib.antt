pub mod Returning
pub mod Nobody
pub mod Ordering
pub mod Unmoved
pub mod Joined
pub mod Families
pub mod Handing
pub mod Renewing
