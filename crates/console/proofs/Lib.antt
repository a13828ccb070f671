pub mod CountsLaws
pub mod InputLaws
pub mod TextLaws
