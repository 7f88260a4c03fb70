-- A file that grows, as it was read and synced.
use Rattle.std.specs.Prelude.{◌≡◌, ℕ, List, [], ◌∷◌, ◌++◌, fold}
use Rattle.journal.specs.Groups.{recovered}
use Rattle.journal.specs.Reading.{HasFirst}
use Rattle.journal_file.specs.Watched.{read_more}
use Rattle.store_folder.specs.declared.read_notes.ReadNote.{ReadNote}
use Rattle.store_folder.specs.declared.read_notes.ReadNote.TheVariants.{Read, Synced}

-- what was read of it, front to back, after one call more
abbrev pub seen_more : List ℕ → ReadNote → List ℕ
seen_more seen (Read part) = read_more seen part
seen_more seen Synced = seen

-- after these calls
abbrev pub seen_by : List ReadNote → List ℕ
seen_by notes = fold seen_more [] notes

-- what a crash may leave after these calls: each file that begins with the groups that had been read at each sync
abbrev pub left_by : List ReadNote → List ℕ → Type 0
left_by notes file =
    (before after : List ReadNote) → notes ≡ before ++ Synced ∷ after → HasFirst (recovered (seen_by before)) file
