pub mod StoreLaws
pub mod BigLaws
