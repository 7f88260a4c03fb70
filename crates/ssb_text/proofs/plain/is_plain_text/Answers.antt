use Rattle.std.proofs.Common.{length, refl, sym, subst, arith}
use Rattle.std.specs.Prelude.{◌↔◌}
use Rattle.std.specs.Cmp.Lexicographic.{other_text, same_text}
use Rattle.std.proofs.lemmas.Bool.{false≢true}
use Rattle.std.proofs.Math.Seq.{drop-length}
use Rattle.ssb_text.specs.TextLines.{IsPlainText}
use Rattle.ssb_text.proofs.PlainLaws.{not_plain_at, past_found, past_front}
use Rattle.ssb_text.proofs.plain.is_plain_text.Goals as goal

both : {A B C : Type 0} → A ↔ B → B ↔ C → A ↔ C
both first second = (λ a. second.0 (first.0 a), λ c. first.1 (second.1 c))

pub returns-in_default-strip_prefix : goal.returns-in_default-strip_prefix
returns-in_default-strip_prefix c =
    let rest = c.loop-at.rest.now in
    let found = c.split_at.result.1.now in
    let place = c.in-Some.ensures in
    let front = past_front c.in-Some.at rest (omega (arith, place.0.high))
    (λ k below is. place.0.before k (omega arith) below is) in
    let other = other_text _ c.as_slice.result.now (sym c.in_default-strip_prefix.ensures.cases) in (
      λ is. absurd (false≢true is),
      λ plain. absurd (not_plain_at rest found c.as_slice.result.now c.in-Some.at place.0.high place.1
          c.split_at.ensures.back c.as_slice.ensures other
          (subst IsPlainText (sym c.split_at.ensures.back) (front.1 (c.loop-at.invariant.1 plain)))),
    )

pub loop-at-preserved : goal.loop-at-preserved
loop-at-preserved c =
    let rest = c.loop-at.rest.now in
    let found = c.split_at.result.1.now in
    let place = c.in-Some.ensures in
    let cases = c.in-Some-strip_prefix.ensures.cases in
    let front = past_front c.in-Some.at rest (omega (arith, place.0.high))
    (λ k below is. place.0.before k (omega arith) below is) in
    let behind = past_found found c.in-Some-strip_prefix.behind.now c.as_slice.result.now c.as_slice.ensures
    (same_text _ c.as_slice.result.now (sym cases.0)) cases.1 in
    let shown = subst (λ t. IsPlainText t ↔ IsPlainText rest) (sym c.split_at.ensures.back) front in
    both behind (both shown c.loop-at.invariant)

pub returns : goal.returns
returns c =
    let rest = c.loop-at.rest.now in
    let front = past_front (length rest) rest (omega arith) (λ k within is. c.in_default.ensures k (omega arith) within is) in
    (λ told. c.loop-at.invariant.0 (front.0 (subst IsPlainText (sym (drop-length rest)) (tt, tt))), λ plain. refl)
