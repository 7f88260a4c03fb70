-- The questions that are to stand, as a source asks them, and those that may not.
use Rattle.std.specs.Prelude.{◌≡◌, ℕ, List, Option, Some}
use Rattle.shared_scan.specs.GroupCounts.{IsFirstOfMany}
use Rattle.ssb_base.specs.Base.{Tables}
use Rattle.ssb_base.specs.Limits.{most_commits}
use Rattle.ssb_files.specs.Loaded.{IsLoadedFor}
use Rattle.ssb_files.specs.declared.fault.Fault.{Fault}
use Rattle.ssb_files.specs.declared.fault.Fault.TheVariants as fault
use Rattle.ssb_questions.specs.declared.query.Query.{Query}
use Rattle.ssb_questions.specs.declared.value.Value.{Value}
use Rattle.ssb_schema.specs.declared.table.Table.{Table}
use Rattle.ssb_script.specs.Questions.{AsksAlone, IsQuestionsFault}

-- the bytes that a source had left, where they are known, ask these questions and nothing else
abbrev pub AreAskedAlone : Option (List ℕ) → List (Query × List Value) → Type 0
AreAskedAlone remaining questions = (text : List ℕ) → remaining ≡ Some text → AsksAlone text questions

-- why they do not: their first fault
abbrev pub IsStandingFault : Option (List ℕ) → Fault → Type 0
IsStandingFault remaining (fault.Standing why) = (text : List ℕ) → remaining ≡ Some text → IsQuestionsFault text why
IsStandingFault remaining _ = ⊥

-- one of these questions is the first that may have too many groups over the base
abbrev pub MayHaveTooManyGroups : Tables → List (Query × List Value) → Type 0
MayHaveTooManyGroups base standing = (place : ℕ) × IsFirstOfMany base standing place

-- the five texts spell a base, with up to so many commits, over which one of these questions may have too many groups
pub record MayNotStandFor (commits : ℕ) (texts : Table → List ℕ) (standing : List (Query × List Value)) : Type 0 where
  pub base : Tables
  pub loaded : IsLoadedFor commits texts base
  pub many : MayHaveTooManyGroups base standing

-- the same for one that is served live
abbrev pub MayNotStandToServe : (Table → List ℕ) → List (Query × List Value) → Type 0
MayNotStandToServe texts standing = MayNotStandFor most_commits texts standing
