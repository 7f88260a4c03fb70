-- A new journal.
use Rattle.std.proofs.Common.{List, ℕ, [], refl, arith}
use Rattle.ssb_journal.specs.Counts.{KeepsFirst}
use Rattle.ssb_journal.specs.Texts.{IsJournalOf}
use Rattle.ssb_journal.specs.declared.head.TableMark.{TableMark}

pub new_keeps_none : (marks : List TableMark) {file : List ℕ} → IsJournalOf marks [] file → KeepsFirst 0 [] file
new_keeps_none marks made = record {
  marks = marks;
  keeps = record { texts = []; is_journal = made; spelled = record { batches = []; spelled = tt; whole = refl } };
  inside = omega arith;
}
