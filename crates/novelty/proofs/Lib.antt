mod Examples
pub mod Pascal
pub mod Walks
