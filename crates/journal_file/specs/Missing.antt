-- A journal's file that is not there.
use Rattle.std.specs.Prelude.{◌≡◌, ℕ, List, string_bytes}
use Rattle.journal_file.specs.declared.file_disk.OpenError.{OpenError}
use Rattle.journal_file.specs.declared.file_disk.OpenError.TheVariants.{NoJournal}

-- where it tells that a file is not there, it names this path
abbrev pub NamesMissing : List ℕ → OpenError → Type 0
NamesMissing path (NoJournal told) = string_bytes told.path ≡ path
NamesMissing path _ = Unit {0}

-- it tells of a file that is there, or was to be made
abbrev pub IsOfAFile : OpenError → Type 0
IsOfAFile (NoJournal told) = ⊥
IsOfAFile _ = Unit {0}
