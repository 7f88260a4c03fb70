use Rattle.std.proofs.Common.{◌≡◌, ◌∙◌, ap, false, rules, subst, sym, true}
use Rattle.std.specs.Io.KnownBytes.{Appends}
use Rattle.ssb_files.proofs.FlushedLaws.{appended_kept}
use Rattle.ssb_text.proofs.WrittenLaws.{appends_none}
use Rattle.changes_command.specs.Signed.{asked_of, is_asked, signed}
use Rattle.changes_command.specs.SignedText.{lines_text}
use Rattle.changes_command.specs.declared.signed.Sign.TheVariants.{Came}
use Rattle.changes_command.proofs.AskedLaws.{all_asked, none_asked}
use Rattle.changes_command.proofs.TextLaws.{on_ok, text_of_signed}
use Rattle.changes_command.proofs.history.write_loaded.Goals as goal

pub returns-then-not-asks-clause-written : goal.returns-then-not-asks-clause-written
returns-then-not-asks-clause-written g c =
    let a = g.W.Write.contents c.args.out.now in
    let past = c.args.asked.past in
    let start = c.args.asked.start in
    let unasked : is_asked start past ≡ false = search rules in
    subst (λ lines. Appends a a (lines_text c.args.asked.format lines)) (sym (none_asked start past Came c.args.lines.now unasked))
    (appends_none a)

pub returns-in-Ok-clause-written : goal.returns-in-Ok-clause-written
returns-in-Ok-clause-written g c =
    let a = g.W.Write.contents c.args.out.now in
    let b = g.W.Write.contents c.write_lines.new.out in
    let h = g.W.Write.contents c.hand_on.new.out in
    let past = c.args.asked.past in
    let start = c.args.asked.start in
    let lines = c.args.lines.now in
    let asked : is_asked start past ≡ true = search rules in
    let written : Appends a b (lines_text c.args.asked.format (asked_of start (signed past Came lines))) =
    subst (Appends a b) (sym (ap (lines_text c.args.asked.format) (all_asked start past Came lines asked) ∙ text_of_signed c.args.asked.format past Came lines))
    c.in-Ok.ensures in
    on_ok c.hand_on.result _
    (appended_kept a b h (lines_text c.args.asked.format (asked_of start (signed past Came lines))) written c.hand_on.ensures.kept)
