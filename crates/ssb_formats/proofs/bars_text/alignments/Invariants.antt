use Rattle.std.proofs.Common.{◌≡◌, take}
use Rattle.ssb_formats.specs.BarsText.{label_alignments}
use Rattle.ssb_formats.proofs.bars_text.alignments.Given as goal

abbrev pub invariant-loop-row : goal.invariant-loop-row
invariant-loop-row l = l.all.items ≡ label_alignments l.plan (take l.row-index l.rows)
