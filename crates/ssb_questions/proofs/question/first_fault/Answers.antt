use Rattle.std.proofs.Common.{ℕ, ◌+◌, ◌^◌, ◌<◌, ◌≤◌, max, not, length, sym, refl, arith, subst, Option}
use Rattle.std.specs.Prelude.{IfSome}
use Rattle.ssb_questions.proofs.SomeLaws.{found_before, some_weaker}
use Rattle.ssb_questions.specs.Clauses.{first_bad, may_stand}
use Rattle.ssb_questions.proofs.question.first_fault.Goals as goal

pub bad_at-requires-in-None : goal.bad_at-requires-in-None
bad_at-requires-in-None c =
    let constants = c.args.constants.now in
    let early = found_before (λ place. not (may_stand constants place)) 64 refl (max 1 (length constants)) 0
    (omega arith) in
    subst (λ (place : Option ℕ). IfSome place (λ p. p + 1 < 2 ^ 64)) (sym c.first_bad.ensures)
    (some_weaker (λ p. p ≤ 64) (λ p. p + 1 < 2 ^ 64) (λ p le. omega (arith, le)) (first_bad constants) early)
