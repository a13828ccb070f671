pub mod Nearest
pub mod Offers
pub mod Walk
pub mod Found
