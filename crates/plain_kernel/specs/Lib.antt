pub mod Kernel
pub mod Apply
pub mod Still
pub mod Maps
pub mod Starts
pub mod ElfBoot
pub mod Answers
pub mod Candidates
