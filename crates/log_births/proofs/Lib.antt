pub mod Bearing
