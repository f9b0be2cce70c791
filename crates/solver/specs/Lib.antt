pub mod Attempt
pub mod Reported
pub mod Solve
