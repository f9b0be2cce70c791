pub mod Counter
pub mod Examples
pub mod Sketches
