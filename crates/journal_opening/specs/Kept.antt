-- The commits that a journal's file has, over loaded tables, and why it has none.
use Rattle.std.specs.Prelude.{◌≡◌, ◌⊎◌, ℕ, List, [], Option, IfSome}
use Rattle.journal.specs.Groups.{recovered}
use Rattle.row_store.specs.History.{CommitRecord}
use Rattle.ssb_journal.specs.Kept.{KeepsCommits}
use Rattle.ssb_journal.specs.declared.head.TableMark.{TableMark}

-- it is the file that is known, where one is
abbrev pub IsKnown : Option (List ℕ) → List ℕ → Type 0
IsKnown known file = IfSome known (λ bytes. file ≡ bytes)

-- a file keeps these commits over tables of these marks, or stands for no groups, and they are none
abbrev pub HasCommits : List TableMark → List CommitRecord → List ℕ → Type 0
HasCommits marks commits file = KeepsCommits marks commits file ⊎ ((recovered file ≡ []) × (commits ≡ []))
