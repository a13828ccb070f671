pub mod Layout
pub mod ParkFile
pub mod Reading
