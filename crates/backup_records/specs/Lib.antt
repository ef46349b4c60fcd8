pub mod Records
pub mod ByPid
