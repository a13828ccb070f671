pub mod MemberLaws
pub mod CountLaws
pub mod WordLaws
