mod OwnLaws
mod NewJournalLaws
