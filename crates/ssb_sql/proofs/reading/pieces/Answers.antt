use Rattle.std.proofs.Common.{◌∙◌, sym, arith}
use Rattle.ssb_sql.proofs.SayLaws as law
use Rattle.ssb_sql.proofs.reading.pieces.Goals as goal

pub returns-in_default-clause-fault : goal.returns-in_default-clause-fault
returns-in_default-clause-fault c =
    law.stops c.args.tokens.now c.loop-token.token-index _ c.loop-token.state c.loop-token.found.items c.loop-token.left
    c.loop-token-test.true (sym c.step.ensures ∙ c.in_default.is) c.loop-token.invariant.told
    c.loop-token.invariant.left

pub loop-token-preserved : goal.loop-token-preserved
loop-token-preserved c = record {
  told = law.goes c.args.tokens.now c.loop-token.token-index _ c.loop-token.state c.in-Some.taken
      c.loop-token.found.items c.note.new.found.items c.loop-token-test.true (sym c.step.ensures ∙ c.in-Some.is)
      c.in_ok-note.ensures c.loop-token.invariant.told;
  left = omega (arith, c.loop-token.invariant.left, c.loop-token-test.true);
}

pub returns-then-may_end-clause-pieces : goal.returns-then-may_end-clause-pieces
returns-then-may_end-clause-pieces c =
    law.ends c.args.tokens.now c.loop-token.token-index c.loop-token.state c.loop-token.found.items
    c.loop-token-test.false (sym c.may_end.ensures ∙ c.if-may_end.true) c.loop-token.invariant.told

pub returns-clause-fault : goal.returns-clause-fault
returns-clause-fault c =
    law.lacks c.args.tokens.now c.loop-token.token-index c.loop-token.state c.loop-token.found.items
    c.loop-token-test.false (sym c.may_end.ensures ∙ c.if-may_end.false) c.loop-token.invariant.told
