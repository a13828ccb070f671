pub mod Same
pub mod Run
