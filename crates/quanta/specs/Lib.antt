pub mod Limited
pub mod Quantum
