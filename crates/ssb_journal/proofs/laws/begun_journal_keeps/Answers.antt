use Rattle.std.proofs.Common.{⊎_elim, [], sym, ◌∙◌, subst}
use Rattle.ssb_journal.specs.Kept.{SpellCommits}
use Rattle.ssb_journal.proofs.KeptLaws.{spell_none}
use Rattle.ssb_journal.proofs.laws.begun_journal_keeps.Goals as goal

pub returns : goal.returns
returns c marks kept old new is same made =
    ⊎_elim
    (λ new_one. record { texts = []; is_journal = made new_one.0; spelled = subst (SpellCommits []) (sym new_one.2) spell_none })
    (λ old_one. record { texts = old_one.1.texts; is_journal = (kept.form, same old_one.0 ∙ old_one.1.sealed); spelled = old_one.1.spelled })
    is
