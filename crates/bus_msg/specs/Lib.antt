pub mod Places
pub mod PlacedAfter
pub mod NewBackup
pub mod Route
pub mod Text
