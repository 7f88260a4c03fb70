use Rattle.std.proofs.Common.{◌≡◌, ◌-◌, ◌<◌, ◌≤◌, length, ap, sym, subst, ◌∙◌, arith}
use Rattle.std.specs.Prelude.{slice_get, remove, Contains}
use Rattle.atomic_table.specs.Table.{rest}
use Rattle.history.specs.Words.{IsRightAt}
use Rattle.history.specs.Plays.{request_at, without_at, served}
use Rattle.history.specs.Seats.{turns}
use Rattle.history.specs.Tokens.{TokenRecord, TableRecord, Answers}
use Rattle.history.specs.TokenParts.{shown_token}
use Rattle.history.proofs.SplittingLaws.{in_front}
use Rattle.history.proofs.PassingLaws.{passed, is_behind, dispatcher_carries, answered_seated}
use Rattle.history.proofs.AnsweringLaws.{places, in_hand, found_of, turned_to, slots_home, back_count, left_places}
use Rattle.history.proofs.AnsweringLaws.{within_hand, answered_token}
use Rattle.history.proofs.shared_table.SharedTable.answer.Goals as goal

pub overflow_sub-place : goal.overflow_sub-place
overflow_sub-place g c = (in_hand c.token.inside c.args.token.now c.args.client c.requires.request.asked c.token.view_is
    c.token.invariant c.requires.request.held).one

pub position-turns-requires : goal.position-turns-requires
position-turns-requires g c = subst (λ l. Contains l (c.args.client - 1)) (sym c.as_slice.ensures.value)
    (in_hand c.token.inside c.args.token.now c.args.client c.requires.request.asked c.token.view_is c.token.invariant
    c.requires.request.held).contains

pub put_answer-requires-clause-table : goal.put_answer-requires-clause-table
put_answer-requires-clause-table g c = let is = c.token.invariant in let few = is.few in let near =
    (in_hand c.token.inside c.args.token.now c.args.client c.requires.request.asked c.token.view_is is
    c.requires.request.held).near in
    let table = ap (λ (t : TokenRecord). t.table) c.token.view_is ∙ (c.requires.table ∙ sym c.self.view_is) in let clients =
    ap (λ (h : TableRecord). h.clients) table in let words = c.self.invariant.words in
    (omega arith, omega arith, c.turn_by.ensures.0 ∙ ap (λ (h : TableRecord). h.id) table)

pub put_answer-requires-clause-token : goal.put_answer-requires-clause-token
put_answer-requires-clause-token g c = let is = c.token.invariant in let place = c.args.client - 1 in let near =
    (in_hand c.token.inside c.args.token.now c.args.client c.requires.request.asked c.token.view_is is
    c.requires.request.held).near in
    let far = is_behind c.token.inside c.args.token.now c.token.view_is is c.requires.dispatcher in
    subst (λ m. ((m.0.role ≡ Rattle.history.specs.declared.view.Role.TheVariants.Token c.token.inside.place)
    × (m.0.terms.clients ≤ c.token.inside.place)) × (place < m.0.terms.clients)) (sym c.turn_by.ensures.2)
    ((is.role, far), near)

pub put_answer-requires-clause-answer : goal.put_answer-requires-clause-answer
put_answer-requires-clause-answer g c = let is = c.token.invariant in let p = c.token.inside in let place =
    c.args.client - 1 in let k = c.position-turns.result in let asked = c.requires.request.asked in
    let hand = in_hand p c.args.token.now c.args.client asked c.token.view_is is c.requires.request.held in let far =
    is_behind p c.args.token.now c.token.view_is is c.requires.dispatcher in
    let found = found_of p place k is (ap (λ l. slice_get l k) (sym c.as_slice.ensures.value)
    ∙ c.position-turns.ensures) in
    let carried = dispatcher_carries p is far (ap (λ (t : TokenRecord). t.has_rows) c.token.view_is ∙ c.requires.free.0)
    (ap (λ (t : TokenRecord). t.has_writer) c.token.view_is ∙ c.requires.free.1) in
    let right = subst (λ (t : TokenRecord). IsRightAt t.table.base t.seen t.version asked c.args.answer) (sym c.token.view_is)
    c.requires.request.serves in (
      asked,
      ap (λ m. request_at place m.0.grabbed) c.turn_by.ensures.2 ∙ hand.has,
      in_front _ _ _ (ap (λ m. m.1) c.turn_by.ensures.2
          ∙ (ap (turns k) carried ∙ turned_to place k p.seat.me.0.grabbed found)),
      subst (λ m. IsRightAt m.0.terms.base m.0.member.seen m.0.member.version asked c.args.answer)
          (sym c.turn_by.ensures.2) right,
    )

pub remove-requires : goal.remove-requires
remove-requires g c = let is = c.token.invariant in let p = c.token.inside in let place = c.args.client - 1 in let k =
    c.position-turns.result in
    let found = found_of p place k is (ap (λ l. slice_get l k) (sym c.as_slice.ensures.value)
    ∙ c.position-turns.ensures) in
    (omega arith, within_hand place k p.seat.me.0.grabbed found p.hand.items is.hand)

pub invariant_of-token : goal.invariant_of-token
invariant_of-token g c = let is = c.token.invariant in let p = c.token.inside in let place = c.args.client - 1 in let k =
    c.position-turns.result in let asked = c.requires.request.asked in
    let hand = in_hand p c.args.token.now c.args.client asked c.token.view_is is c.requires.request.held in let far =
    is_behind p c.args.token.now c.token.view_is is c.requires.dispatcher in
    let rows = ap (λ (t : TokenRecord). t.has_rows) c.token.view_is ∙ c.requires.free.0 in let writer =
    ap (λ (t : TokenRecord). t.has_writer) c.token.view_is ∙ c.requires.free.1 in
    let found = found_of p place k is (ap (λ l. slice_get l k) (sym c.as_slice.ensures.value)
    ∙ c.position-turns.ensures) in
    let left : c.remove.new.self.items ≡ places (without_at place p.seat.me.0.grabbed) =
    c.remove.ensures.items ∙ (ap (λ l. remove l k) is.hand ∙ left_places place k p.seat.me.0.grabbed found) in
    let count = (back_count place k p.seat.me.0.grabbed found c.remove.new.self.items left).1 in let n =
    c.len.result - k in
    let counts : n ≡ length found.back = ap (λ x. x - k) c.len.ensures.value ∙ count in
    answered_seated p c.remove.new.self c.turn_by-2.new.seat place asked c.args.answer is far rows writer hand.has left
    (c.turn_by-2.ensures.2 ∙ (ap (λ m. (m.0, turns n m.1))
    (c.put_answer.ensures.0.2 ∙ ap (λ m. (served m.0 place c.args.answer, rest m.1)) c.turn_by.ensures.2)
    ∙ ap (λ cs. (served p.seat.me.0 place c.args.answer, cs))
    (slots_home p place k n found (dispatcher_carries p is far rows writer) counts)))

pub returns : goal.returns
returns g c = let is = c.token.invariant in let p = c.token.inside in let place = c.args.client - 1 in let asked =
    c.requires.request.asked in
    let hand = in_hand p c.args.token.now c.args.client asked c.token.view_is is c.requires.request.held in let n =
    c.len.result - c.position-turns.result in record {
      answers = subst (λ t. Answers t c.args.client c.args.answer
          (shown_token (passed p c.remove.new.self c.turn_by-2.new.seat p.seen_len))) c.token.view_is
          (answered_token p c.remove.new.self c.turn_by-2.new.seat place c.args.client asked c.args.answer _ hand.number
          hand.has
          (c.put_answer.ensures.1 asked (ap (λ m. request_at place m.0.grabbed) c.turn_by.ensures.2 ∙ hand.has))
          (c.turn_by-2.ensures.0 ∙ (c.put_answer.ensures.0.0 ∙ c.turn_by.ensures.0))
          (c.turn_by-2.ensures.2 ∙ ap (λ m. (m.0, turns n m.1))
          (c.put_answer.ensures.0.2 ∙ ap (λ m. (served m.0 place c.args.answer, rest m.1)) c.turn_by.ensures.2)));
    }
