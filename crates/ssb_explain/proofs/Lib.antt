pub mod TextLaws
pub mod SameLaws
pub mod WordLaws
pub mod JoinLaws
