pub mod Next
pub mod Waited
pub mod Left
