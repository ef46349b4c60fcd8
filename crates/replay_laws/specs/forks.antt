pub mod ForkWaits
