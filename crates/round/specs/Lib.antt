pub mod Keep
pub mod Hear
pub mod Scan
pub mod Table
pub mod Parent
pub mod Run
