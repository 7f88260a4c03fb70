use Rattle.std.proofs.Common.{rules, ◌≡◌, ◌+◌, ◌++◌, length, drop, Result, Ok, Err, OnOk, false, ap, ◌∙◌, arith}
use Rattle.std.proofs.Common.{length-append}
use Rattle.std.specs.Result.{is_err}
use Rattle.left_right.specs.Sides.{view as view_of}
use Rattle.twin_cell.specs.Twin.{Writing}
use Rattle.twin_cell.proofs.KeptLaws.{base_after, stands_after}
use Rattle.twin_cell.proofs.writer.TwinWriter.publish.Goals as goal

on_ok : {A E : Type 0} (r : Result A E) (P : Type 0) → OnOk r P → is_err r ≡ false → P
on_ok (Ok a) P h e = h
on_ok (Err b) P h e = absurd (cc)

pub returns-clause-published : goal.returns-clause-published
returns-clause-published g c =
    let state = g.R.Replica.state in
    let copies = c.self.inside.copies in
    let more = drop copies.behind copies.log.items in
    let now = c.publish_pending-copies.result.0 in
    let ok = λ (P : Type 0) (h : OnOk c.publish_pending-copies.result.1 P). on_ok c.publish_pending-copies.result.1 P h
    (search rules) in
    let told = ok _ c.publish_pending-copies.ensures.told in
    let stated = ok _ c.publish_pending-copies.ensures.state in
    let emptied = ok _ c.publish_pending-copies.ensures.emptied in
    let was = c.self.view_is in
    λ i. record {
      base = (base_after (state copies.desk.shown.value.replica) (state now.desk.shown.value.replica) more stated
          ∙ ap (λ (w : Writing). w.base) was) i;
      published = (told.told ∙ ap (λ (w : Writing). w.published ++ w.pending) was) i;
      pending = emptied i;
    }

pub invariant_of-writer-2 : goal.invariant_of-writer-2
invariant_of-writer-2 g c =
    let state = g.R.Replica.state in
    let copies = c.self.inside.copies in
    let more = drop copies.behind copies.log.items in
    let before = (view_of copies.desk.place).told in
    let now = c.publish_pending-copies.result.0 in
    let ok = λ (P : Type 0) (h : OnOk c.publish_pending-copies.result.1 P). on_ok c.publish_pending-copies.result.1 P h
    (search rules) in
    let told = ok _ c.publish_pending-copies.ensures.told in
    let stated = ok _ c.publish_pending-copies.ensures.state in
    let emptied = ok _ c.publish_pending-copies.ensures.emptied in
    let counted : length (view_of now.desk.place).told + length (drop now.behind now.log.items) ≡ length before
    + length more = omega (arith, ap length told.told, length-append before more, ap length emptied) in
    record {
      stands = stands_after (state copies.desk.shown.value.replica) (state now.desk.shown.value.replica) before more
          (view_of now.desk.place).told stated c.self.invariant.stands told.told;
      base = told.base;
      count = omega (arith, counted, c.self.invariant.count);
    }
