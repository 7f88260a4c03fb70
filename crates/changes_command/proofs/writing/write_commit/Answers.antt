use Rattle.std.proofs.Common.{◌+◌, ◌++◌, drop, subst, sym, take}
use Rattle.row_store.specs.History.{lines_after}
use Rattle.row_store.specs.Lines.{lines_after_refresh}
use Rattle.ssb_text.proofs.WrittenLaws.{appends_both, appends_part, part_longer, writes_stopped}
use Rattle.ssb_text.specs.Written.{Writes}
use Rattle.std.specs.Io.KnownBytes.{Appends}
use Rattle.changes_command.specs.Signed.{changes_by, changes_by_all}
use Rattle.changes_command.specs.SignedText.{lines_text}
use Rattle.changes_command.proofs.TextLaws.{none_before, none_of, text_in_parts, text_more}
use Rattle.changes_command.proofs.writing.write_commit.Goals as goal

pub write_action-requires : goal.write_action-requires
write_action-requires g c =
    let store = c.args.store.now in
    none_before store.base 1 (lines_after store.base store.log) c.args.actions.now c.loop-place.place
    (none_of store.base store.log c.args.actions.now c.requires)

pub returns-in_err-write_action : goal.returns-in_err-write_action
returns-in_err-write_action g c =
    let contents = g.W.Write.contents in
    let a = contents c.args.out.now in
    let b = contents c.loop-place.out in
    let e = contents c.write_action.new.out in
    let r = c.from_residual.result in
    let lines = lines_after c.args.store.now.base c.args.store.now.log in
    let actions = c.args.actions.now in
    let i = c.loop-place.place in
    let action = c.index-actions-place.result in
    let front = lines_text c.args.format (changes_by_all c.args.commit lines (take i actions)) in
    let own = lines_text c.args.format (changes_by c.args.commit (lines_after_refresh lines (take i actions)) action) in
    let back = lines_text c.args.format (changes_by_all c.args.commit (lines_after_refresh lines (take (i + 1) actions))
    (drop (i + 1) actions)) in
    subst (Writes a e r) (sym (text_in_parts c.args.format c.args.commit lines actions i action c.loop-place-test.true
    c.index-actions-place.is))
    (writes_stopped _ r a e ((front ++ own) ++ back) c.from_residual.ensures.1
    (part_longer a e (front ++ own) back (appends_part a b e front own c.loop-place.invariant
    c.in_err-write_action.ensures)))

pub loop-place-preserved : goal.loop-place-preserved
loop-place-preserved g c =
    let contents = g.W.Write.contents in
    let a = contents c.args.out.now in
    let b = contents c.loop-place.out in
    let e = contents c.write_action.new.out in
    let lines = lines_after c.args.store.now.base c.args.store.now.log in
    let actions = c.args.actions.now in
    let i = c.loop-place.place in
    let action = c.index-actions-place.result in
    let front = lines_text c.args.format (changes_by_all c.args.commit lines (take i actions)) in
    let own = lines_text c.args.format (changes_by c.args.commit (lines_after_refresh lines (take i actions)) action) in
    subst (Appends a e) (sym (text_more c.args.format c.args.commit lines actions i action c.loop-place-test.true
    c.index-actions-place.is))
    (appends_both a b e front own c.loop-place.invariant c.in_ok-write_action.ensures)
