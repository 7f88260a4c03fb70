use Rattle.std.proofs.Common.{◌≡◌, ◌-◌, length}
use denote.Shadow.{shadow}
use denote.Text.{Utf8}
use Rattle.ssb_sql.specs.Parts.{behind_gaps, without_gaps}
use Rattle.ssb_sql.proofs.cutting.behind_gaps.Given as goal

abbrev pub invariant-loop-number : goal.invariant-loop-number
invariant-loop-number l = record {
  text : shadow (Utf8 l.behind);
  told : behind_gaps (length l.text - l._number) l.behind ≡ without_gaps l.text;
}
