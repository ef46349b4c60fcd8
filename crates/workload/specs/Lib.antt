pub mod Programs
pub mod Ring
