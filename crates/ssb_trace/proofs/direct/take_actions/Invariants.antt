use Rattle.std.proofs.Common.{length}
use Rattle.std.specs.List.{All}
use Rattle.ssb_script.specs.Requests.{IsWholeAction}
use Rattle.ssb_trace.specs.Direct.{BeginsWithLines, lines_in}
use Rattle.ssb_trace.proofs.DirectLaws.{lines_of_actions}
use Rattle.ssb_trace.proofs.direct.take_actions.Given as goal

abbrev pub invariant-loop-behind : goal.invariant-loop-behind
invariant-loop-behind l = record {
  whole : All IsWholeAction l.actions.items;
  begins : BeginsWithLines l.text (lines_in (lines_of_actions l.actions.items)) l.rest;
}

abbrev pub decreases-loop-behind : goal.decreases-loop-behind
decreases-loop-behind l = length l.rest
