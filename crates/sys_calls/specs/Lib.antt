pub mod Small
pub mod Calls
pub mod Next
pub mod Steps
pub mod Fork
pub mod Take
pub mod Passing
