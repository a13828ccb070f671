pub mod Slices
pub mod Nodes
pub mod Fit
pub mod Same
pub mod Flag
pub mod Lent
