pub mod Made
pub mod Fields
pub mod Write
