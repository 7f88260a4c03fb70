use Rattle.std.proofs.Common.{rules, ◌≡◌, ◌<◌, false, length, set, slice_index_or, Some, sym, ap, subst, ◌∙◌, arith}
use Rattle.std.specs.Slots.{slots_filled, slots_len, slots_counts}
use mathlib.Core.Option.{some-injective}
use Rattle.history.specs.declared.view.SlotValue.TheVariants.{Rows}
use Rattle.history.specs.Words.{store}
use Rattle.history.specs.Rule.{terms_of}
use Rattle.history.specs.Seats.{AreAll, members_of, IsClosed}
use Rattle.history.proofs.ClosingLaws.{ends, still_full, one_bare}
use Rattle.history.proofs.steps.finish.Goals.{in_default-via-in-Some+in_default, in_default-via-in_default}
use Rattle.history.proofs.steps.finish.Goals as goal

pub unreachable-requires : goal.unreachable-requires
unreachable-requires g c = let base_of = g.W.Follower.base in let key = terms_of c.args.ruled.shared.key in let v =
    c.args.seat.me.0 in
    let last = ends base_of g.W.Follower.commits key c.args.seat.id c.requires.token.0.0 v _ _
    c.close_with-closed.ensures.values.2 c.requires.token.0.1
    (c.requires.token.1, c.requires.token.2, c.requires.token.3)
    (subst (λ t. AreAll t (members_of v)) c.requires.table.1 c.requires.all) in
    let held : c.take.result ≡ Some (Rows (store key.base last.0)) =
    some-injective _ _ (sym c.take.ensures.value ∙ last.1) in
    elim c.in_default.branch [
      | in_default-via-in-Some+in_default w ↦ search rules
      | in_default-via-in_default w ↦ search rules
    ]

pub returns : goal.returns
returns g c = let base_of = g.W.Follower.base in let key = terms_of c.args.ruled.shared.key in let v =
    c.args.seat.me.0 in
    let last = ends base_of g.W.Follower.commits key c.args.seat.id c.requires.token.0.0 v _ _
    c.close_with-closed.ensures.values.2 c.requires.token.0.1
    (c.requires.token.1, c.requires.token.2, c.requires.token.3)
    (subst (λ t. AreAll t (members_of v)) c.requires.table.1 c.requires.all) in
    let held : c.take.result ≡ Some (Rows (store key.base last.0)) =
    some-injective _ _ (sym c.take.ensures.value ∙ last.1) in
    let same : c.in-Some-Rows.rows ≡ store key.base last.0 = search rules in
    subst (λ r. IsClosed c.args.seat.me.0.terms (members_of v) r) (sym same)
    (subst (λ t. IsClosed t (members_of v) (store key.base last.0)) (sym c.requires.table.1) last.2)

pub loop-slot-init : goal.loop-slot-init
loop-slot-init g c = let base_of = g.W.Follower.base in let key = terms_of c.args.ruled.shared.key in let was =
    c.close_with-closed.ensures in let took = c.take.ensures.others in
    let same : slots_filled c.take.new.self.slots ≡ set (slots_filled c.close_with-closed.result.slots) 0 false =
    took.1 in
    let counts = (slots_counts c.close_with-closed.result.slots).1 in let some_slot :
    0 < slots_len c.close_with-closed.result.slots = search rules in
    let long : slots_len c.take.new.self.slots ≡ slots_len c.close_with-closed.result.slots = took.2 in
    let within : 0 < length (slots_filled c.close_with-closed.result.slots) = omega arith in record {
      full = λ k le lt. ap (λ fs. slice_index_or fs k false) same
          ∙ still_full _ 0 _ within was.values.1 (λ k lt. absurd (omega arith)) k le (omega arith);
      bare = λ k lt. ap (λ fs. slice_index_or fs k false) same
          ∙ one_bare _ 0 _ within was.values.1 (λ k lt. absurd (omega arith)) k lt;
      end = c.slot_count-slot-end.ensures;
    }

pub loop-slot-preserved : goal.loop-slot-preserved
loop-slot-preserved g c = let inv = c.loop-slot.invariant in let took = c.take-in-loop-slot.ensures.others in let i =
    c.loop-slot.slot in
    let same : slots_filled c.take-in-loop-slot.new.self.slots ≡ set (slots_filled c.loop-slot.closed.slots) i false =
    took.1 in
    let counts = (slots_counts c.loop-slot.closed.slots).1 in let test = c.loop-slot-test.true in let end = inv.end in
    let long : slots_len c.take-in-loop-slot.new.self.slots ≡ slots_len c.loop-slot.closed.slots = took.2 in
    let within : i < length (slots_filled c.loop-slot.closed.slots) = omega arith in record {
      full = λ k le lt. ap (λ fs. slice_index_or fs k false) same
          ∙ still_full _ i _ within inv.full inv.bare k le (omega arith);
      bare = λ k lt. ap (λ fs. slice_index_or fs k false) same ∙ one_bare _ i _ within inv.full inv.bare k lt;
      end = end ∙ sym long;
    }
