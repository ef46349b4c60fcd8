pub mod Marked
pub mod Sending
pub mod Cut
pub mod Paged
pub mod Running
pub mod Batched
