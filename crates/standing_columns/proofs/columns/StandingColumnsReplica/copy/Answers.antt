use Rattle.std.proofs.Common.{sym, subst}
use Rattle.fact_columns.specs.Stored.{Stored}
use Rattle.fact_columns.specs.Watching.{live_lines}
use Rattle.standing_columns.specs.Standing.{AllFollow}
use Rattle.standing_columns.proofs.columns.StandingColumnsReplica.copy.Goals as goal

pub invariant_of-result : goal.invariant_of-result
invariant_of-result c =
    let own = c.self.inside.columns in
    let P : Stored → Type 0 = λ s. AllFollow c.in_ok-copy-2.field-0 s.base (live_lines s.places) in
    record {
      follow = subst P (sym c.in_ok-copy.ensures.same)
          (c.in_ok-copy-2.ensures.follow own.base (live_lines own.places) c.self.invariant.follow);
    }
