mod PartLaws
mod WatchedLaws
