-- What a file of groups is to a journal of texts.
use Rattle.std.specs.Prelude.{◌≡◌, ◌⊎◌, ◌≤◌, List, ℕ, [], ◌∷◌, length, map, take, drop, nat_eq, true, slice_index}
use Rattle.std.specs.Prelude.{slice_get, Some}
use Rattle.std.specs.List.{starts_with}
use Rattle.journal.specs.Groups.{recovered, behind, behind_gate}
use Rattle.ssb_journal.specs.Heads.{head_text, IsHeadFault}
use Rattle.ssb_journal.specs.Seals.{sealed, IsNotSealed}
use Rattle.ssb_journal.specs.declared.head.HeadForm.{HeadForm}
use Rattle.ssb_journal.specs.declared.head.TableMark.{TableMark}
use Rattle.ssb_journal.specs.declared.fault.JournalFault.{JournalFault}
use Rattle.ssb_journal.specs.declared.fault.JournalFault.TheVariants.{NotAJournal, NewerForm, OtherTables, Damaged}
use Rattle.ssb_journal.specs.declared.fault.JournalFault.TheVariants.{OutOfMemory}

-- groups are a head of this form, of these tables, and these texts, each behind the line of its checksum
abbrev pub AreSealed : HeadForm → List TableMark → List (List ℕ) → List (List ℕ) → Type 0
AreSealed form marks texts groups = groups ≡ map sealed (head_text form marks ∷ texts)

-- a file stands for a journal of these texts over tables of these marks, in one form or the other
abbrev pub IsJournalOf : List TableMark → List (List ℕ) → List ℕ → Type 0
IsJournalOf marks texts file = (form : HeadForm) × AreSealed form marks texts (recovered file)

-- what stands behind the first gate of a journal that has a head of this form, and no texts yet
abbrev pub behind_first_gate : HeadForm → List TableMark → List ℕ
behind_first_gate form marks = behind_gate (sealed (head_text form marks))

-- bytes that a crash may leave of a journal that is being made with such a head: any gate, or none, with a beginning of
-- what stands behind the first gate; or a closed gate with any bytes, no more than stand there
abbrev pub IsBeginningOf : HeadForm → List TableMark → List ℕ → Type 0
IsBeginningOf form marks bytes =
    (starts_with nat_eq (behind_first_gate form marks) (drop 1 bytes) ≡ true)
    ⊎ ((slice_index bytes 0 ≡ 48) × (length (drop 1 bytes) ≤ length (behind_first_gate form marks)))

-- the same, in one form or the other
abbrev pub IsBeginning : List TableMark → List ℕ → Type 0
IsBeginning marks bytes = (form : HeadForm) × IsBeginningOf form marks bytes

-- a file that is opened as a new journal, or one of the head and no texts
abbrev pub IsNewJournal : List TableMark → List ℕ → Type 0
IsNewJournal marks file =
    ((recovered file ≡ []) × IsBeginning marks (behind file)) ⊎ IsJournalOf marks [] file

-- a group is no text behind the line of its checksum, and those before it are
pub record IsFirstNotSealed (groups : List (List ℕ)) (number : ℕ) : Type 0 where
  pub group : List ℕ
  pub is : slice_get groups number ≡ Some group
  pub damaged : IsNotSealed group
  pub before : List (List ℕ)
  pub sealed_before : take number groups ≡ map sealed before

abbrev pub IsDamaged : List (List ℕ) → JournalFault → Type 0
IsDamaged groups (Damaged number) = IsFirstNotSealed groups number
IsDamaged groups NotAJournal = ⊥
IsDamaged groups (NewerForm number) = ⊥
IsDamaged groups (OtherTables table) = ⊥
IsDamaged groups OutOfMemory = ⊥

-- no group, and bytes that are not the beginning of a journal
abbrev pub IsOtherFile : List TableMark → List (List ℕ) → List ℕ → JournalFault → Type 0
IsOtherFile marks groups rest fault =
    (fault ≡ NotAJournal) × (groups ≡ []) × (IsBeginning marks rest → ⊥)

-- the first group has another head
pub record HasOtherHead (marks : List TableMark) (groups : List (List ℕ)) (fault : JournalFault) : Type 0 where
  pub head : List ℕ
  pub more : List (List ℕ)
  pub are : groups ≡ sealed head ∷ more
  pub told : IsHeadFault marks head fault

-- why groups, with the bytes behind them, are no journal over these tables
abbrev pub IsFileFault : List TableMark → List (List ℕ) → List ℕ → JournalFault → Type 0
IsFileFault marks groups rest fault =
    IsDamaged groups fault ⊎ (IsOtherFile marks groups rest fault ⊎ HasOtherHead marks groups fault)
