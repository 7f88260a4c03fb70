use Rattle.std.proofs.Common.{rules, append_assoc, append-nil}
use Rattle.std.proofs.Output.{has_written_append, has_written_of_eq}
use Rattle.server_figures.specs.RefusedText.{refused_terms_text}
use Rattle.server_figures.proofs.refused_text.RefusedTermsDisplay.fmt.Goals as goal

pub returns-clause-writes : goal.returns-clause-writes
unfolding refused_terms_text
returns-clause-writes g c = λ plain ok.
    let first = c.in_ok-write.ensures.writes plain (search rules) in
    let second = c.write-2.ensures.writes first.plain ok in
    has_written_of_eq _ _ _ _ _ (simp (append_assoc, append-nil))
    (has_written_append _ _ _ _ _ _ first second)
