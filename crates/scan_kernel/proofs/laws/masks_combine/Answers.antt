use Rattle.scan_kernel.proofs.MaskLaws.{masks_combine}
use Rattle.scan_kernel.proofs.laws.masks_combine.Goals as goal

pub returns : goal.returns
returns c = λ plans c numbers customers suppliers parts dates n cs ss ps ds. masks_combine plans c numbers customers
    suppliers parts dates n cs ss ps ds
