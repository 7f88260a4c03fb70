use Rattle.std.proofs.Common.{◌≡◌, take, true, nat_eq}
use Rattle.std.specs.List.{starts_with}
use Rattle.ssb_journal.specs.Heads.{head_text}
use Rattle.ssb_journal.proofs.head.check_lines.Given as goal

abbrev pub invariant-loop-mark : goal.invariant-loop-mark
invariant-loop-mark l = record {
  head : l.head.items ≡ head_text l.form (take l.mark-index l.marks);
  begins : starts_with nat_eq l.text l.head.items ≡ true;
}
