-- Questions that may not stand.
use Rattle.std.proofs.Common.{◌≡◌, ℕ, List, Result, Err, arith, subst}
use Rattle.std.specs.Prelude.{◌≢◌}
use Rattle.shared_scan.specs.GroupCounts.{IsFirstOfMany}
use Rattle.shared_scan.specs.declared.standing_error.StandingError.{StandingError}
use Rattle.shared_scan.specs.declared.standing_error.StandingError.TheVariants as standing
use Rattle.ssb_base.specs.Base.{Tables}
use Rattle.ssb_files.specs.Loaded.{IsLoadedFor}
use Rattle.ssb_files.specs.Standing.{MayHaveTooManyGroups, MayNotStandFor}
use Rattle.ssb_files.specs.Status.{not_standing_status}
use Rattle.ssb_questions.specs.declared.query.Query.{Query}
use Rattle.ssb_questions.specs.declared.value.Value.{Value}
use Rattle.ssb_schema.specs.declared.table.Table.{Table}

-- why a server does not take a base with these questions, where its error tells of no want of memory
pub may_have_too_many : {X : Type 0} (result : Result X StandingError) (why : StandingError) (base : Tables)
    (questions : List (Query × List Value)) → result ≡ Err why
    → ((place : ℕ) → result ≡ Err (standing.TooManyGroups place) → IsFirstOfMany base questions place)
    → not_standing_status why ≡ 1 → MayHaveTooManyGroups base questions
may_have_too_many result standing.OutOfMemory base questions is first status = absurd (omega (arith, status))
may_have_too_many result (standing.TooManyGroups place) base questions is first status = (place, first place is)

-- which is no wrong word, and nothing of a trace
pub standing_no_words : (why : StandingError) → not_standing_status why ≢ 2
standing_no_words standing.OutOfMemory is = absurd cc
standing_no_words (standing.TooManyGroups place) is = absurd cc

pub standing_no_trace : (why : StandingError) → not_standing_status why ≢ 3
standing_no_trace standing.OutOfMemory is = absurd cc
standing_no_trace (standing.TooManyGroups place) is = absurd cc

-- over the base that the texts spell, which was shared
pub may_not_stand : (commits : ℕ) (texts : Table → List ℕ) (base shared : Tables)
    (questions : List (Query × List Value)) → shared ≡ base → IsLoadedFor commits texts base
    → MayHaveTooManyGroups shared questions → MayNotStandFor commits texts questions
may_not_stand commits texts base shared questions same loaded many = record {
  base = base;
  loaded = loaded;
  many = subst (λ tables. MayHaveTooManyGroups tables questions) same many;
}
