pub mod RenewalPosts
pub mod Renewing
pub mod StayedRenewing
pub mod OwnRenewal
pub mod BeginRenewal
