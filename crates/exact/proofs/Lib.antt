pub mod ExactFileLaws
