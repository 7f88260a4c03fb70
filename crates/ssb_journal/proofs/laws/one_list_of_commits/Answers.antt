use Rattle.std.proofs.Common.{ℕ, List, subst}
use Rattle.ssb_journal.specs.Kept.{SpellCommits}
use Rattle.ssb_journal.proofs.KeptLaws.{one_list}
use Rattle.ssb_journal.proofs.laws.one_list_of_commits.Goals as goal

pub returns : goal.returns
returns c marks file commits others one other =
    let texts = c.one_list_of_texts.ensures marks file one.texts other.texts one.is_journal other.is_journal in
    one_list c.one_reading.ensures other.texts commits others (subst (λ (ts : List (List ℕ)). SpellCommits ts commits) texts one.spelled) other.spelled
