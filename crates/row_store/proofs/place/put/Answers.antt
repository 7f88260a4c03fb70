use Rattle.std.proofs.Common.{◌≡◌, ℕ, ◌<◌, ◌≤◌, cond, eqb, List, [], ◌++◌, Result, Ok, Err, Some, nat_eq, ap, sym, ◌∙◌}
use Rattle.std.proofs.Common.{length, subst}
use Rattle.std.specs.Result.{IsOk, OnOk}
use Rattle.std.specs.HashMap.{get}
use Rattle.ssb_schema.specs.declared.line.LineFields.{LineFields}
use Rattle.ssb_schema.specs.Orders.{order_key}
use Rattle.row_store.specs.Lines.{lines_of, lines_without}
use Rattle.row_store.specs.declared.place.OrderPlace.{OrderPlace}
use Rattle.row_store.specs.Keyed.{Located, IsAt, IsWithin, lines_from}
use Rattle.row_store.proofs.CauseLaws.{new_key}
use Rattle.row_store.proofs.CountedLaws.{HaveKey}
use Rattle.row_store.proofs.PlacedLaws.{located_more, located_amended, located_withdrawn}
use Rattle.row_store.proofs.ReplacedLaws.{replaced_added, replaced_after}
use Rattle.row_store.proofs.place.put.Goals as goal

on_ok : {A E : Type 0} (r : Result A E) (P : Type 0) → IsOk r → OnOk r P → P
on_ok (Ok a) P is h = h
on_ok (Err b) P is h = absurd (cc)

pub returns-in-Add-clause-each : goal.returns-in-Add-clause-each
returns-in-Add-clause-each c base sources lines found within each none =
    let order : List LineFields = c.in-Add.order in
    let updates = on_ok c.insert.result _ (c.insert.ensures.succeeds c.requires) c.insert.ensures.updates in
    let there : lines_from sources (length order) c.args.source ≡ order = rw c.in-Add.is at found in
    let inside : IsWithin sources (length order) c.args.source = rw c.in-Add.is at within in
    let count : length c.lines.result.now ≡ length order = ap length c.lines.ensures.lines in
    let place : OrderPlace = record { lines = length c.lines.result.now; source = c.args.source } in
    let at : IsAt sources place order = record {
      found = ap (λ n. lines_from sources n c.args.source) count ∙ there;
      count = count;
      some = subst (λ n. 0 < n) (sym count) c.lines.ensures.order.some;
      few = subst (λ n. n ≤ 7) (sym count) c.lines.ensures.order.few;
      within = subst (λ n. IsWithin sources n c.args.source) (sym count) inside;
    } in
    let key : c.key.result ≡ order_key order = c.key.ensures in
    let alike : HaveKey c.key.result order = λ k d h. c.lines.ensures.order.alike k d h ∙ sym key in
    let absent : lines_of c.key.result lines ≡ [] = ap (λ k. lines_of k lines) key
    ∙ new_key base lines order (rw c.in-Add.is at none) in
    λ q. rw c.in-Add.is (located_more sources (get nat_eq c.args.orders.now) (get nat_eq c.insert.new.self) lines order
    c.key.result place updates.0 at alike absent each q)

pub returns-in-Amend-clause-each : goal.returns-in-Amend-clause-each
returns-in-Amend-clause-each c base sources lines found within each none =
    let order : List LineFields = c.in-Amend.order in
    let updates = on_ok c.insert-in-Amend.result _ (c.insert-in-Amend.ensures.succeeds c.requires)
    c.insert-in-Amend.ensures.updates in
    let adds = replaced_added c.args.action.now order c.in-Amend.is in
    let there : lines_from sources (length order) c.args.source ≡ order =
    subst (λ l. lines_from sources (length l) c.args.source ≡ l) adds found in
    let inside : IsWithin sources (length order) c.args.source =
    subst (λ l. IsWithin sources (length l) c.args.source) adds within in
    let count : length c.lines-in-Amend.result.now ≡ length order = ap length c.lines-in-Amend.ensures.lines in
    let place : OrderPlace = record { lines = length c.lines-in-Amend.result.now; source = c.args.source } in
    let at : IsAt sources place order = record {
      found = ap (λ n. lines_from sources n c.args.source) count ∙ there;
      count = count;
      some = subst (λ n. 0 < n) (sym count) c.lines-in-Amend.ensures.order.some;
      few = subst (λ n. n ≤ 7) (sym count) c.lines-in-Amend.ensures.order.few;
      within = subst (λ n. IsWithin sources n c.args.source) (sym count) inside;
    } in
    let key : c.key-in-Amend.result ≡ order_key order = c.key-in-Amend.ensures in
    let alike : HaveKey c.key-in-Amend.result order = λ k d h. c.lines-in-Amend.ensures.order.alike k d h ∙ sym key in
    let amended : (key : ℕ) → key ≡ order_key order → HaveKey key order
    → ((q : ℕ) → get nat_eq c.insert-in-Amend.new.self q ≡ cond (eqb key q) (Some place)
    (get nat_eq c.args.orders.now q)) → Located sources (get nat_eq c.insert-in-Amend.new.self)
    (lines_without (order_key order) lines ++ order) =
    λ key same alike now. subst (λ k. Located sources (get nat_eq c.insert-in-Amend.new.self)
    (lines_without k lines ++ order)) same (located_amended sources (get nat_eq c.args.orders.now)
    (get nat_eq c.insert-in-Amend.new.self) lines order key place now at alike each) in
    subst (Located sources (get nat_eq c.insert-in-Amend.new.self))
    (sym (replaced_after lines c.args.action.now order c.in-Amend.is))
    (amended c.key-in-Amend.result key alike updates.0)

pub returns-in-Withdraw-clause-each : goal.returns-in-Withdraw-clause-each
returns-in-Withdraw-clause-each c base sources lines found within each none =
    λ q. rw c.in-Withdraw.is (located_withdrawn sources (get nat_eq c.args.orders.now) (get nat_eq c.remove.new.self)
    lines c.in-Withdraw.key c.remove.ensures.updates.0 each q)
