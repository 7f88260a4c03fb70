use Rattle.std.proofs.lemmas.List.Elements.{recursion_from_All}
use Rattle.ssb_base.specs.Base.{IsKnown}
use Rattle.scan_kernel.proofs.LineLaws.{groups_are_of_lines}
use Rattle.scan_kernel.proofs.laws.groups_are_of_lines.Goals as goal

pub returns : goal.returns
returns c = λ blank plan base lines number g sound known. groups_are_of_lines blank plan base lines number g sound
    (recursion_from_All (IsKnown base.dimensions) lines known)
