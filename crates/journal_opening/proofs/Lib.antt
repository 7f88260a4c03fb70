pub mod KnownLaws
mod StartLaws
