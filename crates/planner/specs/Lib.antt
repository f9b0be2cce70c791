pub mod Findings
pub mod Search
pub mod Stepwise
pub mod Way
pub mod Whole
pub mod Width
pub mod Widths
