pub mod MakeLaws
pub mod FileLaws
pub mod WriteLaws
