use Rattle.std.proofs.lemmas.List.Elements.{recursion_from_All}
use Rattle.ssb_base.specs.Base.{IsKnown}
use Rattle.scan_kernel.proofs.ScanLaws.{scan_makes_totals}
use Rattle.scan_kernel.proofs.laws.scan_makes_totals.Goals as goal

pub returns : goal.returns
returns c = λ blank plan base lines columns count sum sound known apart codes counts sums.
    scan_makes_totals blank plan base lines columns count sum sound
    (recursion_from_All (IsKnown base.dimensions) lines known) apart codes counts sums
