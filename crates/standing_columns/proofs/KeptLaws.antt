-- Standing questions follow the columns' live lines after a commit, and after an error.
use Rattle.std.proofs.Common.{◌≡◌, List, length, Result, Ok, Err, sym, subst, arith}
use Rattle.std.specs.Prelude.{OnOk, OnErr}
use Rattle.std.specs.declared.alloc.AllocError.{AllocError}
use Rattle.ssb_base.specs.Base.{Tables}
use Rattle.fact_columns.specs.declared.scanned_line.ScannedLine.{ScannedLine}
use Rattle.fact_columns.specs.Stored.{Stored}
use Rattle.fact_columns.specs.Watching.{FollowsOn, live_lines}
use Rattle.standing_columns.specs.Standing.{AllFollow}
use Rattle.standing_columns.specs.declared.questions.StandingQuestions.{StandingQuestions}

pub kept_after : (r : Result (Unit {0}) AllocError) (was is : StandingQuestions) (old new : Stored)
    → OnOk r (FollowsOn AllFollow was is old.places new.places) → OnErr r (new ≡ old) → OnErr r (is ≡ was)
    → new.base ≡ old.base → AllFollow was old.base (live_lines old.places)
    → AllFollow is new.base (live_lines new.places)
kept_after (Ok u) was is old new on same still base follows =
    let P : Tables → Type 0 = λ b. AllFollow is b (live_lines new.places) in
    subst P (sym base) (on old.base follows)
kept_after (Err e) was is old new on same still base follows =
    let P : Stored → Type 0 = λ s. AllFollow is s.base (live_lines s.places) in
    let Q : StandingQuestions → Type 0 = λ w. AllFollow w old.base (live_lines old.places) in
    subst P (sym same) (subst Q (sym still) follows)

-- where nothing stands, nothing has to follow
pub none_follow : (standing : StandingQuestions) (base : Tables) (lines : List ScannedLine)
    → length standing.batches.items ≡ 0 → AllFollow standing base lines
none_follow standing base lines none = λ k batch below. absurd (omega (arith, none, below))
