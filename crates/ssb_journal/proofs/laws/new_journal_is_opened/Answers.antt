use Rattle.std.proofs.Common.{⊎_elim}
use Rattle.journal.specs.Groups.{recovered, behind}
use Rattle.ssb_journal.proofs.NewLaws.{no_fault_new, no_fault_head}
use Rattle.ssb_journal.proofs.laws.new_journal_is_opened.Goals as goal

pub returns : goal.returns
returns c marks file fault new told =
    ⊎_elim
    (λ none. no_fault_new marks (recovered file) (behind file) fault none.0 none.1 told)
    (λ head. no_fault_head marks head.0 (recovered file) (behind file) fault head.1 told)
    new
