use Rattle.std.proofs.Common.{◌≡◌, ℕ, List, sym, subst, length, arith, rules}
use Rattle.std.specs.List.{AllByRecursion}
use Rattle.row_store.specs.History.{CommitRecord}
use Rattle.ssb_trace.specs.Allowed.{IsAllowed, IsAllowedCommit, IsClient, lines_of_trace}
use Rattle.ssb_trace.specs.Traces.{SpellsTrace}
use Rattle.ssb_trace.specs.TraceText.{trace_text}
use Rattle.ssb_journal.specs.Kept.{trace_of}
use Rattle.ssb_journal.proofs.KeptLaws.{all_meet}
use Rattle.ssb_journal.proofs.commits.text_of.Goals as goal

pub returns-in-Ok-clause-spells : goal.returns-in-Ok-clause-spells
returns-in-Ok-clause-spells c =
    let commits = c.args.commits.items in
    let trace = trace_of commits in
    let means = subst (λ (cs : List CommitRecord). AllByRecursion (λ (commit : CommitRecord). IsClient commit.client → IsAllowedCommit commit) cs) c.as_slice.ensures.value c.commits_are_allowed.ensures in
    let allowed : IsAllowed trace = record { commits = all_meet (λ (commit : CommitRecord). IsClient commit.client) IsAllowedCommit commits c.requires means; answers = tt } in
    let written : c.write_trace.new.writer.items ≡ trace_text trace = search rules in
    let most = length (lines_of_trace trace) in
    (most, subst (λ (t : List ℕ). SpellsTrace most t trace) (sym written) (c.text_is_read_back.ensures.spells trace most allowed (omega arith)))
