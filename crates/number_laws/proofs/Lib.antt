pub mod Ahead
pub mod Counts
pub mod InOrder
pub mod KernelNumbers
pub mod LogNumbers
pub mod LogPids
pub mod NextPids
