pub mod FollowLaws
pub mod SlicesLaws
pub mod WayLaws
pub mod WayFileLaws
pub mod ExactLaws
