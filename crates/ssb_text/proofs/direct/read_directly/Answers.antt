use Rattle.std.proofs.Common.{◌≡◌, ◌∷◌, [], ◌∙◌, true, map, rules, ap}
use Rattle.std.proofs.lemmas.List.{map-append}
use Rattle.std.specs.Result.{is_ok}
use Rattle.ssb_schema.specs.Rows.{line_values}
use Rattle.ssb_text.proofs.DirectLaws.{no_bytes, taken_all, taken_feed, taken_line, taken_nothing}
use Rattle.ssb_text.proofs.direct.read_directly.Goals as goal

pub loop-first-init : goal.loop-first-init
loop-first-init c =
    rw c.clear.ensures.items (record {
      unmarked = c.may_be_marked.ensures c.if-may_be_marked.false;
      taken = taken_nothing c.args.block.now;
    })

pub loop-first-preserved-then-first-eq10 : goal.loop-first-preserved-then-first-eq10
loop-first-preserved-then-first-eq10 c =
    let behind = c.in-Some.behind.now in
    let feed = c.in-Some.ensures.cases.0 ∙ ap (λ b. b ∷ behind) c.if-first-eq10.true in
    record {
      unmarked = c.loop-first.invariant.unmarked;
      taken = taken_feed c.args.block.now c.loop-first.rest.now behind _ feed c.loop-first.invariant.taken;
    }

pub loop-first-preserved : goal.loop-first-preserved
loop-first-preserved c =
    let lines = c.loop-first.lines.items in
    let good : is_ok c.push.result ≡ true = search rules in
    let items = rw good at c.push.ensures.items in
    rw (items, map-append line_values lines (c.in-Some-take_line.line ∷ [])) (record {
      unmarked = c.loop-first.invariant.unmarked;
      taken = taken_line _ _ _ (map line_values lines) _ c.loop-first.invariant.taken c.in-Some-take_line.ensures;
    })

pub returns : goal.returns
returns c =
    let rest = c.loop-first.rest.now in
    λ whole. taken_all c.args.block.now rest _ c.loop-first.invariant.unmarked
    (no_bytes rest c.in_default.ensures.cases) c.loop-first.invariant.taken
