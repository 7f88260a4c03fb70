use Rattle.std.proofs.Common.{◌≡◌, ◌++◌, ◌≤◌, ℕ, List, take, drop, length, ap, sym, subst, ◌∙◌, append_assoc, arith}
use Rattle.std.proofs.Common.{length-append}
use Rattle.std.proofs.lemmas.List.{take-append-drop}
use Rattle.ssb_script.proofs.AheadLaws.{whole_at}
use Rattle.ssb_script.proofs.RequestLaws.{line_ends, line_goes_on, open_is_unfinished}
use Rattle.ssb_text.specs.TextLines.{IsLine}
use Rattle.ssb_script.proofs.at_hand.request_length.Goals as goal

-- the bytes before and after the line, joined
rejoined : (n : ℕ) (bytes front rest line behind : List ℕ) → bytes ≡ front ++ rest → line ≡ take n rest
    → behind ≡ drop n rest → bytes ≡ (front ++ line) ++ behind
rejoined n bytes front rest line behind whole first back =
    whole
    ∙ ap (λ r. front ++ r) (sym (take-append-drop n rest) ∙ ap (λ a. a ++ drop n rest) (sym first)
    ∙ ap (λ b. line ++ b) (sym back))
    ∙ sym (append_assoc front line behind)

pub returns-then-ends_request-clause-whole : goal.returns-then-ends_request-clause-whole
returns-then-ends_request-clause-whole c =
    let inv = c.loop-count.invariant in
    let line = c.split_at.result.0.now in
    let behind = c.split_at.result.1.now in
    let is = subst IsLine (sym c.split_at.ensures.front) c.in-Some.ensures.line in
    let joined = rejoined c.in-Some.count _ inv.0 c.loop-count.rest.now line behind inv.1 c.split_at.ensures.front
    c.split_at.ensures.back in
    let fits : length behind ≤ length c.args.bytes.now =
    omega (arith, ap length joined, length-append (inv.0 ++ line) behind) in
    whole_at c.args.bytes.now (inv.0 ++ line) behind _ joined (omega (arith, fits))
    (line_ends c.loop-count.begun inv.0 line inv.2 is (sym c.ends_request.ensures ∙ c.if-ends_request.true))

pub loop-count-preserved : goal.loop-count-preserved
loop-count-preserved c =
    let inv = c.loop-count.invariant in
    let line = c.split_at.result.0.now in
    let is = subst IsLine (sym c.split_at.ensures.front) c.in-Some.ensures.line in (
      inv.0 ++ line,
      rejoined c.in-Some.count _ inv.0 c.loop-count.rest.now line _ inv.1 c.split_at.ensures.front
          c.split_at.ensures.back,
      rw c.begun_behind-begun.ensures (line_goes_on c.loop-count.begun inv.0 line inv.2 is
          (sym c.ends_request.ensures ∙ c.if-ends_request.false)),
    )

pub returns-clause-none : goal.returns-clause-none
returns-clause-none c = λ request more p e.
    let inv = c.loop-count.invariant in
    open_is_unfinished c.loop-count.begun inv.0 c.loop-count.rest.now inv.2 c.in_default.ensures.none request more p
    (sym inv.1 ∙ e)
