pub mod RunFileLaws
pub mod RunTheorems
pub mod AllowedLaws
