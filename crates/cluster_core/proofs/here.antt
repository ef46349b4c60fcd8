pub mod Here
pub mod Beside
pub mod Owning
pub mod Within
pub mod Hindering
pub mod HeldLoads
