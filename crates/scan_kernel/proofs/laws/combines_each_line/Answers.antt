use Rattle.std.proofs.lemmas.List.Elements.{recursion_from_All}
use Rattle.ssb_base.specs.Base.{IsKnown}
use Rattle.scan_kernel.proofs.CombinedLaws.{combines_each_line}
use Rattle.scan_kernel.proofs.laws.combines_each_line.Goals as goal

pub returns : goal.returns
returns c = λ blank plan base lines sound known. combines_each_line blank plan base lines sound
    (recursion_from_All (IsKnown base.dimensions) lines known)
