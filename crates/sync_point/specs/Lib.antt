pub mod Due
pub mod Batch
pub mod Laws
