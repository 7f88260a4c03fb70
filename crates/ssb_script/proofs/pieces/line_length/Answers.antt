use Rattle.std.proofs.Common.{subst}
use Rattle.std.proofs.lemmas.List.{take_all}
use Rattle.ssb_text.specs.TextLines.{HasNoLineEnd}
use Rattle.ssb_text.proofs.LineLaws.{line-more, no_line_end-more}
use Rattle.ssb_script.proofs.pieces.line_length.Goals as goal

pub returns-then-bytes-at-eq10-clause-line : goal.returns-then-bytes-at-eq10-clause-line
returns-then-bytes-at-eq10-clause-line c =
    line-more c.args.bytes.now c.loop-at.at c.loop-at-test.true c.if-bytes-at-eq10.true c.loop-at.invariant

pub loop-at-preserved : goal.loop-at-preserved
loop-at-preserved c =
    no_line_end-more c.args.bytes.now c.loop-at.at c.loop-at-test.true c.if-bytes-at-eq10.false c.loop-at.invariant

pub returns-clause-none : goal.returns-clause-none
returns-clause-none c =
    subst HasNoLineEnd (take_all c.loop-at.at c.args.bytes.now c.loop-at-test.false) c.loop-at.invariant
