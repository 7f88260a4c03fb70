use Rattle.std.proofs.Common.{[], ◌∷◌, flat_map, length, length-append, map, rules, subst, sym, take}
use Rattle.std.proofs.lemmas.Slice.Zip.{zip_end, zip_turn}
use Rattle.std.specs.Io.KnownBytes.{Appends}
use Rattle.std.specs.List.{zip}
use Rattle.ssb_schema.specs.Columns.{value_of}
use Rattle.ssb_text.proofs.WrittenLaws.{appends_item, part_item, part_longer, writes_next, writes_stopped}
use Rattle.changes_command.specs.JsonText.{member_heads, member_text}
use Rattle.changes_command.proofs.JsonLaws.{member_at, members_ended}
use Rattle.changes_command.proofs.json_text.write_members.Goals as goal

pub returns-in_err-write_member : goal.returns-in_err-write_member
returns-in_err-write_member g c =
    let contents = g.W.Write.contents in
    let a = contents c.args.out.now in
    let b = contents c.loop-head.out in
    let e = contents c.write_member.new.out in
    let heads = c.member_heads.result.now in
    let cells = c.args.cells.now in
    let head = c.in-Some.head.now in
    let cell = c.in-Some.cell.now in
    let i = length c.loop-head.yielded in
    let turn = zip_turn heads cells c.loop-head.yielded c.into_iter-head-iterator.result c.loop-head.head-iterator c.next.new.self c.next.result (search rules)
    (search rules) c.loop-head.yielded_by (c.in-Some.head, c.in-Some.cell) c.in-Some.is c.next.ensures.steps in
    let item = member_at heads cells c.member_heads.ensures i head cell turn.0 turn.1 (turn.2 head)
    (turn.3 cell) in
    let all = zip member_heads (map value_of cells) in
    writes_stopped _ c.from_residual.result a e _ c.from_residual.ensures.1
    (part_longer a e (flat_map member_text all) (125 ∷ 10 ∷ [])
    (part_item member_text all i (head.now, value_of cell) (head.now, value_of cell) a b e item.0 item.1
    c.loop-head.invariant c.in_err-write_member.ensures))

pub loop-head-preserved : goal.loop-head-preserved
loop-head-preserved g c =
    let contents = g.W.Write.contents in
    let a = contents c.args.out.now in
    let b = contents c.loop-head.out in
    let e = contents c.write_member.new.out in
    let heads = c.member_heads.result.now in
    let cells = c.args.cells.now in
    let head = c.in-Some.head.now in
    let cell = c.in-Some.cell.now in
    let i = length c.loop-head.yielded in
    let turn = zip_turn heads cells c.loop-head.yielded c.into_iter-head-iterator.result c.loop-head.head-iterator c.next.new.self c.next.result (search rules)
    (search rules) c.loop-head.yielded_by (c.in-Some.head, c.in-Some.cell) c.in-Some.is c.next.ensures.steps in
    let item = member_at heads cells c.member_heads.ensures i head cell turn.0 turn.1 (turn.2 head)
    (turn.3 cell) in
    let all = zip member_heads (map value_of cells) in
    subst (λ n. Appends a e (flat_map member_text (take n all)))
    (sym (length-append c.loop-head.yielded ((c.in-Some.head, c.in-Some.cell) ∷ [])))
    (appends_item member_text all i (head.now, value_of cell) (head.now, value_of cell) a b e item.0 item.1
    c.loop-head.invariant c.in_ok-write_member.ensures)

pub returns : goal.returns
returns g c =
    let contents = g.W.Write.contents in
    let a = contents c.args.out.now in
    let b = contents c.loop-head.out in
    let e = contents c.write_bytes.new.writer in
    let heads = c.member_heads.result.now in
    let cells = c.args.cells.now in
    let ended = zip_end heads cells c.loop-head.yielded c.into_iter-head-iterator.result c.loop-head.head-iterator c.next.new.self c.next.result (search rules)
    (search rules) c.loop-head.yielded_by c.in-None.is c.next.ensures.steps in
    let all = zip member_heads (map value_of cells) in
    writes_next a b e (flat_map member_text all) (125 ∷ 10 ∷ []) c.write_bytes.result
    (subst (λ members. Appends a b (flat_map member_text members))
    (members_ended heads cells c.member_heads.ensures (length c.loop-head.yielded) ended) c.loop-head.invariant)
    c.write_bytes.ensures
