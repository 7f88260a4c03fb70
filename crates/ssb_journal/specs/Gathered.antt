-- Groups that were read together, and what is wrong with them.
use Rattle.std.specs.Prelude.{◌≡◌, ◌⊎◌, ◌+◌, ℕ, Bool, true, false, List, [], ◌∷◌, ◌++◌, length, map}
use Rattle.std.specs.Prelude.{IfOk, MatchOption, Option, Result, Vec}
use Rattle.std.specs.Global.{Global}
use Rattle.std.specs.declared.alloc.AllocError.{AllocError}
use Rattle.row_store.specs.declared.commit.Commit.{Commit}
use Rattle.ssb_journal.specs.Heads.{IsHeadFault}
use Rattle.ssb_journal.specs.Kept.{IsFirstNoBatch, SpellsBatch, SpellsNoBatch}
use Rattle.ssb_journal.specs.Seals.{sealed, IsNotSealed}
use Rattle.ssb_journal.specs.declared.fault.JournalFault.{JournalFault}
use Rattle.ssb_journal.specs.declared.fault.JournalFault.TheVariants.{Damaged}
use Rattle.ssb_journal.specs.declared.head.TableMark.{TableMark}
use Rattle.ssb_journal.specs.declared.opening.JournalOpenFault.{JournalOpenFault}
use Rattle.ssb_journal.specs.declared.opening.JournalOpenFault.TheVariants.{Journal}

-- what was found of a group, if memory sufficed: the text behind the line of its checksum, or that its bytes are not
-- those that were written
abbrev pub IsTextOf : List ℕ → Result (Option (Vec ℕ Global)) AllocError → Type 0
IsTextOf group found = IfOk found (λ text. MatchOption text (IsNotSealed group) (λ bytes. group ≡ sealed bytes.items))

-- the groups that were read more are texts, each behind the line of its checksum, and where that is told, a damaged one
-- behind them, and whatever follows it
pub record AreNext (texts : List (List ℕ)) (damaged : Bool) (old new : List (List ℕ)) : Type 0 where
  pub rest : List (List ℕ)
  pub grown : new ≡ old ++ map sealed texts ++ rest
  pub whole : damaged ≡ false → rest ≡ []
  pub broken : damaged ≡ true → (group : List ℕ) × (later : List (List ℕ)) × (rest ≡ group ∷ later) × IsNotSealed group

-- what was found of a text, if memory sufficed: the commits that it spells, or that it spells none
abbrev pub IsBatchOf : List ℕ → Result (Option (Vec Commit Global)) AllocError → Type 0
IsBatchOf text found =
    IfOk found (λ batch. MatchOption batch (SpellsNoBatch text) (λ commits. SpellsBatch text commits.items))

-- a group that is told to be damaged is the one behind so many texts
abbrev pub IsOfNext : ℕ → JournalOpenFault → Type 0
IsOfNext before (Journal (Damaged number)) = number ≡ before + 1
IsOfNext before _ = Unit {0}

-- the fault of the group behind the first of these texts, so many of them: a text that spells no commits, or where they
-- are all, a damaged group; the texts come behind so many others
abbrev pub IsFaultBehind : ℕ → ℕ → List (List ℕ) → Bool → JournalFault → Type 0
IsFaultBehind before count texts damaged fault =
    (fault ≡ Damaged (before + count + 1))
    × (IsFirstNoBatch texts (Damaged (count + 1)) ⊎ ((damaged ≡ true) × (count ≡ length texts)))

-- what is wrong with the first group: its checksum, or its text is another head
abbrev pub IsFirstGroupFault : List TableMark → List ℕ → JournalFault → Type 0
IsFirstGroupFault marks group fault =
    ((fault ≡ Damaged 0) × IsNotSealed group)
    ⊎ ((head : List ℕ) × (group ≡ sealed head) × IsHeadFault marks head fault)
