-- How the lines of blocks are put behind those of the text before them.
use Rattle.std.specs.Prelude.{◌⊎◌, ℕ, ◌++◌, List}
use Rattle.std.specs.List.{AllZip}
use Rattle.ssb_schema.specs.Columns.{Value}
use Rattle.ssb_schema.specs.declared.table.Table.TheVariants as table
use Rattle.ssb_text.specs.Blocks.{AreCut, Follows, joined}
use Rattle.ssb_text.specs.Tables.{IsFirstFault, IsReadFault}
use Rattle.ssb_text.specs.declared.error.LoadError.{LoadError}
use Rattle.ssb_text.specs.Lines.{SpellsAll}

-- the lines of the text before these blocks, and of the text with them
abbrev pub Joins : {X : Type 0} → (List ℕ → X → Type 0) → List X → List (List Value) → List (List Value) → Type 0
Joins IsRead read old new = (done rest : List ℕ) (blocks : List (List ℕ)) → Follows done (joined blocks ++ rest)
    → AreCut blocks rest → AllZip IsRead blocks read → SpellsAll done old → SpellsAll (done ++ joined blocks) new

-- the first fault of the text with these blocks, whatever stands behind them
abbrev pub Stops : {X : Type 0} → (List ℕ → X → Type 0) → List X → ℕ → List (List Value) → LoadError → Type 0
Stops IsRead read limit old e = (done rest : List ℕ) (blocks : List (List ℕ)) → Follows done (joined blocks ++ rest)
    → AreCut blocks rest → AllZip IsRead blocks read → SpellsAll done old
    → IsReadFault table.Lineorder e ⊎ IsFirstFault table.Lineorder limit (done ++ (joined blocks ++ rest)) e
