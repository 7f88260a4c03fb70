-- What one group of a journal is by itself, where the tables are not known.
use Rattle.std.specs.Prelude.{◌≡◌, ◌⊎◌, ℕ, List, nat_eq, true}
use Rattle.std.specs.List.{starts_with}
use Rattle.ssb_journal.specs.Heads.{title, IsTitleFault}
use Rattle.ssb_journal.specs.Kept.{SpellsNoBatch}
use Rattle.ssb_journal.specs.Seals.{sealed, IsNotSealed}
use Rattle.ssb_journal.specs.declared.fault.JournalFault.{JournalFault}
use Rattle.ssb_journal.specs.declared.fault.JournalFault.TheVariants.{Damaged}
use Rattle.ssb_journal.specs.declared.head.HeadForm.{HeadForm}

-- a group is a text that begins as a head of this form, behind the line of its checksum
pub record IsHeadGroup (form : HeadForm) (group : List ℕ) : Type 0 where
  pub text : List ℕ
  pub is : group ≡ sealed text
  pub begins : starts_with nat_eq text (title form) ≡ true

-- a group is a text that begins as a head of no known form, and this is told of it
pub record HasNoTitle (group : List ℕ) (fault : JournalFault) : Type 0 where
  pub text : List ℕ
  pub is : group ≡ sealed text
  pub told : IsTitleFault text fault

-- why a group is no head: its bytes are not those that were written, or its text begins as no head
abbrev pub IsNoHead : List ℕ → JournalFault → Type 0
IsNoHead group fault = ((fault ≡ Damaged 0) × IsNotSealed group) ⊎ HasNoTitle group fault

-- a group is a text that spells no commits, behind the line of its checksum
pub record HasNoCommits (group : List ℕ) : Type 0 where
  pub text : List ℕ
  pub is : group ≡ sealed text
  pub told : SpellsNoBatch text

-- a group is none of commits: its bytes are not those that were written, or its text spells no commits
abbrev pub IsNoGroup : List ℕ → Type 0
IsNoGroup group = IsNotSealed group ⊎ HasNoCommits group
