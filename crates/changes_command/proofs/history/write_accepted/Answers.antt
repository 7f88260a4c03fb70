use Rattle.std.proofs.Common.{◌≡◌, ◌∙◌, ◌+◌, ap, false, length, rules, subst, sym, true}
use Rattle.std.specs.Io.KnownBytes.{Appends}
use Rattle.row_store.specs.History.{lines_after}
use Rattle.ssb_text.proofs.WrittenLaws.{appends_none}
use Rattle.changes_command.specs.Signed.{changes_by_all, is_asked}
use Rattle.changes_command.specs.SignedText.{lines_text}
use Rattle.changes_command.proofs.AskedLaws.{all_of_commit, none_of_commit}
use Rattle.changes_command.proofs.history.write_accepted.Goals as goal

pub returns-then-not-asks-clause-written : goal.returns-then-not-asks-clause-written
returns-then-not-asks-clause-written g c = λ none.
    let a = g.W.Write.contents c.args.out.now in
    let past = c.args.asked.past in
    let start = c.args.asked.start in
    let log = c.args.store.now.log in
    let lines = lines_after c.args.store.now.base log in
    let many : c.with-number.result ≡ past + length log =
    c.with-number.ensures ∙ ap (λ n. past + n) c.len.ensures.count in
    let so_many : is_asked start (c.with-number.result + 1) ≡ false = search rules in
    let unasked : is_asked start (past + length log + 1) ≡ false =
    subst (λ n. is_asked start (n + 1) ≡ false) many so_many in
    subst (λ changed. Appends a a (lines_text c.args.asked.format changed))
    (sym (none_of_commit start (past + length log + 1) lines c.args.refresh.now unasked)) (appends_none a)

pub returns-in-Ok-write_commit-clause-written : goal.returns-in-Ok-write_commit-clause-written
returns-in-Ok-write_commit-clause-written g c = λ none.
    let a = g.W.Write.contents c.args.out.now in
    let b = g.W.Write.contents c.write_commit.new.out in
    let past = c.args.asked.past in
    let start = c.args.asked.start in
    let log = c.args.store.now.log in
    let lines = lines_after c.args.store.now.base log in
    let many : c.with-number.result ≡ past + length log =
    c.with-number.ensures ∙ ap (λ n. past + n) c.len.ensures.count in
    let so_many : is_asked start (c.with-number.result + 1) ≡ true = search rules in
    let asked : is_asked start (past + length log + 1) ≡ true =
    subst (λ n. is_asked start (n + 1) ≡ true) many so_many in
    subst (λ changed. Appends a b (lines_text c.args.asked.format changed))
    (sym (all_of_commit start (past + length log + 1) lines c.args.refresh.now asked))
    (subst (λ n. Appends a b (lines_text c.args.asked.format (changes_by_all (n + 1) lines c.args.refresh.now))) many
    (subst (λ actions. Appends a b (lines_text c.args.asked.format (changes_by_all (c.with-number.result + 1) lines actions)))
    c.actions.ensures.actions c.in-Ok-write_commit.ensures))
