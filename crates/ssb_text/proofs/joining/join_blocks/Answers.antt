use Rattle.std.proofs.Common.{◌≡◌, ◌∷◌, [], map, Ok, Err, ap, ◌∙◌, arith, rules}
use Rattle.std.specs.Vec.Iter.{into_iter_items}
use Rattle.ssb_schema.specs.Rows.{line_values}
use Rattle.ssb_text.specs.Joining.{Joins, Stops}
use Rattle.ssb_text.specs.Parsing.{IsParsed, IsParsedOk}
use Rattle.ssb_text.proofs.JoiningLaws.{joins_as, joins_more, joins_none, no_items, stops_as, stops_later, stops_now}
use Rattle.ssb_text.proofs.joining.join_blocks.Goals as goal

pub loop-block-preserved : goal.loop-block-preserved
loop-block-preserved c =
    let old = map line_values c.loop-block.lines.items in
    let mid = map line_values c.join_block.new.lines.items in
    let later = into_iter_items c.next.new.self in
    let items : into_iter_items c.loop-block.block-iterator ≡ Ok c.in-Ok.block ∷ later =
    c.in-Some.ensures.steps.0 ∙ ap (λ x. x ∷ later) c.in-Ok.is in
    let one : Joins IsParsedOk (Ok c.in-Ok.block ∷ []) old mid = joins_as IsParsed IsParsedOk c.in-Ok.block
    (Ok c.in-Ok.block) old mid (λ block is. is) c.in_ok-room-in-Ok.ensures.joined in
    record {
      few = c.in_ok-room-in-Ok.ensures.few;
      joins = λ new joins. c.loop-block.invariant.joins new (rw items
          (joins_more IsParsedOk (Ok c.in-Ok.block) later old mid new one joins));
      stops = λ e stops. c.loop-block.invariant.stops e (rw items
          (stops_later IsParsedOk (Ok c.in-Ok.block) later c.args.limit old mid e one stops));
    }

pub returns-in_err-room-in-Ok-clause-stops : goal.returns-in_err-room-in-Ok-clause-stops
returns-in_err-room-in-Ok-clause-stops c =
    let old = map line_values c.loop-block.lines.items in
    let later = into_iter_items c.next.new.self in
    let e = c.in_err-room-in-Ok.field-0.0 in
    let items : into_iter_items c.loop-block.block-iterator ≡ Ok c.in-Ok.block ∷ later =
    c.in-Some.ensures.steps.0 ∙ ap (λ x. x ∷ later) c.in-Ok.is in
    let one : Stops IsParsedOk (Ok c.in-Ok.block ∷ []) c.args.limit old e = stops_as IsParsed IsParsedOk c.in-Ok.block
    (Ok c.in-Ok.block) c.args.limit old e (λ block is. is) c.in_err-room-in-Ok.ensures.stops in
    let here = c.loop-block.invariant.stops e (rw items
    (stops_now IsParsedOk (Ok c.in-Ok.block) later c.args.limit old e one)) in
    let is : c.from_residual.result ≡ Err e = search rules in
    rw is here

pub returns-clause-joined : goal.returns-clause-joined
returns-clause-joined c =
    let old = map line_values c.loop-block.lines.items in
    let none : into_iter_items c.loop-block.block-iterator ≡ [] = no_items (into_iter_items c.loop-block.block-iterator)
    (omega (arith, c.in-None.ensures.steps.0, c.loop-block.block-iterator.rest.ok)) in
    c.loop-block.invariant.joins old (rw none (joins_none IsParsedOk old))
