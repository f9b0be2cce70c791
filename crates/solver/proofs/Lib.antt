pub mod Attempting
pub mod Reporting
pub mod Solving
