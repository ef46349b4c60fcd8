pub mod ForksAgain
pub mod ForksBorn
pub mod ForksPaged
pub mod CanFork
pub mod BegunChild
pub mod ForkedFamily
pub mod ForkedOn
