pub mod Ask
pub mod Calls
pub mod Charge
pub mod Findings
pub mod History
pub mod Run
