pub mod Group
pub mod Count
