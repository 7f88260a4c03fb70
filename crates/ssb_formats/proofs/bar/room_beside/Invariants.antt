use Rattle.std.proofs.Common.{◌≡◌, ◌-◌, fold, take}
use Rattle.ssb_formats.proofs.bar.room_beside.Given as goal

abbrev pub invariant-loop-alignment : goal.invariant-loop-alignment
invariant-loop-alignment l =
    l.room ≡ fold (λ room alignment. room - alignment.width - 2) l.width (take l.alignment-index l.alignments)
