-- A file that another process writes, as it was read and synced.
use Rattle.std.specs.Prelude.{◌≡◌, ◌≤◌, ℕ, List, [], ◌++◌, length, take, fold}
use Rattle.journal.specs.Groups.{recovered}
use Rattle.journal_file.specs.declared.watched_file.ReadPart.{ReadPart}

-- what was read of it, front to back, after one read more
abbrev pub read_more : List ℕ → ReadPart → List ℕ
read_more seen part = take part.at seen ++ part.bytes.items

-- after these reads
abbrev pub seen_by : List ReadPart → List ℕ
seen_by parts = fold read_more [] parts

-- after the first of these reads, so many of them
abbrev pub seen_by_first : ℕ → List ReadPart → List ℕ
seen_by_first count parts = seen_by (take count parts)

-- a file begins with all groups that it stood for before
abbrev pub BeginsAlike : List ℕ → List ℕ → Type 0
BeginsAlike old new = take (length (recovered old)) (recovered new) ≡ recovered old

-- so many reads were made, and of these the first were synced; the file has grown since
abbrev pub AreCounted : List ReadPart → ℕ → ℕ → Type 0
AreCounted parts count synced =
    (count ≡ length parts) × (synced ≤ count) × BeginsAlike (seen_by_first synced parts) (seen_by parts)
