-- How the journal of a server starts.
use Rattle.journal_opening.specs.declared.start.JournalStart.{JournalStart as Start}
use Rattle.journal_opening.specs.declared.start.JournalStart.TheVariants.{GoesOn}
use Rattle.store_folder.specs.declared.served.ServedJournal.{ServedJournal}
use Rattle.store_folder.specs.declared.served.ServedJournal.TheVariants.{File, Store}

-- one in a file as that says; a store is gone on with
abbrev pub start_of : {F D O : Type 0} → ServedJournal F D O → Start
start_of (File file) = file.start
start_of (Store store) = GoesOn
