use Rattle.std.proofs.Common.{rules, append_assoc, append-nil}
use Rattle.std.proofs.Output.{has_written_append, has_written_of_eq}
use Rattle.server_figures.specs.RefusedText.{refused_metric_text}
use Rattle.server_figures.proofs.refused_text.RefusedMetricDisplay.fmt.Goals as goal

pub returns-clause-writes : goal.returns-clause-writes
unfolding refused_metric_text
returns-clause-writes g c = λ plain ok.
    let first = c.in_ok-writeln.ensures.writes plain (search rules) in
    let second = c.in_ok-writeln-2.ensures.writes first.plain (search rules) in
    let third = c.in_ok-write.ensures.writes second.plain (search rules) in
    let fourth = c.write-2.ensures.writes third.plain ok in
    has_written_of_eq _ _ _ _ _ (simp (append_assoc, append-nil))
    (has_written_append _ _ _ _ _ _ first (has_written_append _ _ _ _ _ _ second
    (has_written_append _ _ _ _ _ _ third fourth)))
