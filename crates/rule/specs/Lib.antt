pub mod Round
pub mod Exact
pub mod Settles
