pub mod AreaLaws
pub mod StateLaws
