pub mod CaseF
pub mod Cases
pub mod Coincide
