use Rattle.std.proofs.Common.{arith}
-- The tables after a legal history keep what those of a base keep.
use Rattle.std.proofs.Common.{◌≡◌, ℕ, ◌+◌, Bool, true, false, not, ◌&&◌, ◌||◌, nat_eq, List, [], ◌∷◌, ◌++◌}
use Rattle.std.proofs.Common.{length, Option, Some, None, refl, sym, subst, append_assoc}
use Rattle.std.proofs.Common.{append-nil}
use Rattle.std.specs.Prelude.{if◌then◌else◌}
use Rattle.std.specs.List.{AllByRecursion, list_any}
use Rattle.std.specs.Option.{option_map, option_or}
use Rattle.std.proofs.lemmas.List.Elements.{All-from_recursion, recursion_from_All}
use Rattle.row_store.specs.History.{CommitRecord, lines_after}
use Rattle.row_store.specs.Legal.{IsLegal}
use Rattle.row_store.specs.Lines.{is_of, is_present, lines_after_action, lines_after_refresh, lines_without}
use Rattle.row_store.specs.Refusals.{cause_of, first_refusal, lacks_customer, lacks_date, lacks_part, lacks_supplier}
use Rattle.row_store.specs.Refusals.{order_cause, refusal_of}
use Rattle.row_store.specs.declared.refusal.Cause.{Cause}
use Rattle.row_store.proofs.FewLaws.{legal_histories_are_few}
use Rattle.row_store.proofs.StateLaws.{lines_after-push}
use Rattle.ssb_base.specs.Base.{Dimensions, IsKnown, Tables, customer_key, date_key, has_key, is_same_line, part_key}
use Rattle.ssb_base.specs.Base.{supplier_key}
use Rattle.ssb_schema.specs.Orders.{IsOrder, order_key}
use Rattle.ssb_schema.specs.declared.line.LineFields.{LineFields}
use Rattle.ssb_schema.specs.declared.refresh.Action.{Action}
use Rattle.ssb_schema.specs.declared.refresh.Action.TheVariants.{Add, Amend, Put, Withdraw}
use Rattle.export_command.specs.After.{AddsOrder, TablesAfterAreSound, actions_of}
use Rattle.export_command.proofs.ApartLaws.{IsApart, all_append, all_filter, all_more, apart_append, apart_filter}
use Rattle.export_command.proofs.NextLaws.{at_seam, front_of}
use Rattle.export_command.proofs.ApartLaws.{apart_more, apart_of_distinct, distinct_of_apart}

-- lines that may be those of a sound base over these dimensions
record AreGood (dimensions : Dimensions) (lines : List LineFields) : Type 0 where
  apart : IsApart is_same_line lines
  known : AllByRecursion (IsKnown dimensions) lines

-- no line is of the order
abbrev AreOfOthers : ℕ → List LineFields → Type 0
AreOfOthers key lines = AllByRecursion (λ line. is_of key line ≡ false) lines

or-false : (a b : Bool) → (a || b) ≡ false → (a ≡ false) × (b ≡ false)
or-false true b e = absurd cc
or-false false b e = (refl, e)

absent : (key : ℕ) (lines : List LineFields) → is_present key lines ≡ false → AreOfOthers key lines
absent key [] none = tt
absent key (line ∷ lines) none =
    let both = or-false (is_of key line) (is_present key lines) none in
    (both.0, absent key lines both.1)

without-it : (key : ℕ) (lines : List LineFields) → AreOfOthers key (lines_without key lines)
without-it key [] = grind arith
without-it key (line ∷ lines) = grind (arith, without-it key lines)

-- lines of other orders are other lines than those of the order
other-key : (key : ℕ) (line other : LineFields) → is_of key line ≡ false → other.order_key ≡ key
    → is_same_line line other ≡ false
other-key key line other is same =
    let apart : nat_eq line.order_key other.order_key ≡ false = subst (λ k. nat_eq line.order_key k ≡ false) (sym same) is
    in rw apart refl

other-lines : (key : ℕ) (lines order : List LineFields) → AreOfOthers key lines
    → AllByRecursion (λ line. line.order_key ≡ key) order
    → AllByRecursion (λ line. AllByRecursion (λ other. is_same_line line other ≡ false) order) lines
other-lines key lines order others own = grind (arith, all_more, other-key)

and-false : (b : Bool) → (b && false) ≡ false
and-false true = refl
and-false false = refl

-- the lines of an order are apart by their numbers
order-apart : (order : List LineFields) → IsOrder order → IsApart is_same_line order
order-apart order is = grind (arith, apart_more, nat_eq, and-false, apart_of_distinct)

-- the lines of an order whose keys are known
not-false : (b : Bool) → not b ≡ false → b ≡ true
not-false true e = refl
not-false false e = absurd cc

keys-known : (d : Dimensions) (order : List LineFields) → list_any (lacks_customer d) order ≡ false
    → list_any (lacks_supplier d) order ≡ false → list_any (lacks_part d) order ≡ false
    → list_any (lacks_date d) order ≡ false → AllByRecursion (IsKnown d) order
keys-known d [] c s p e = tt
keys-known d (line ∷ order) c s p e =
    let customer = or-false (lacks_customer d line) (list_any (lacks_customer d) order) c in
    let supplier = or-false (lacks_supplier d line) (list_any (lacks_supplier d) order) s in
    let part = or-false (lacks_part d line) (list_any (lacks_part d) order) p in
    let date = or-false (lacks_date d line) (list_any (lacks_date d) order) e in (
      record {
        customer = not-false (has_key customer_key d.customers line.customer_key) customer.0;
        supplier = not-false (has_key supplier_key d.suppliers line.supplier_key) supplier.0;
        part = not-false (has_key part_key d.parts line.part_key) part.0;
        date = not-false (has_key date_key d.dates line.order_date) date.0;
      },
      keys-known d order customer.1 supplier.1 part.1 date.1,
    )

pub none_tested : {X : Type 0} (b : Bool) (found : X) (rest : Option X) → (if b then Some found else rest) ≡ None
    → (b ≡ false) × (rest ≡ None)
none_tested true found rest e = absurd cc
none_tested false found rest e = (refl, e)

first-none : (first second : Option Cause) → option_or first second ≡ None → first ≡ None
first-none None second e = refl
first-none (Some found) second e = absurd cc

order-known : (base : Tables) (lines order : List LineFields) → order_cause base lines order ≡ None
    → AllByRecursion (IsKnown base.dimensions) order
order-known base lines order none = grind (arith, first-none, none_tested, keys-known)

-- an order joins lines of other orders
good-joined : (base : Tables) (lines order : List LineFields) → AreGood base.dimensions lines
    → AreOfOthers (order_key order) lines → IsOrder order → AllByRecursion (IsKnown base.dimensions) order
    → AreGood base.dimensions (lines ++ order)
good-joined base lines order good others is known = record {
  apart = apart_append is_same_line lines order good.apart (order-apart order is)
      (other-lines (order_key order) lines order others
      (recursion_from_All (λ line. line.order_key ≡ order_key order) order is.alike));
  known = all_append (IsKnown base.dimensions) lines order good.known known;
}

good-without : (d : Dimensions) (key : ℕ) (lines : List LineFields) → AreGood d lines
    → AreGood d (lines_without key lines)
good-without d key lines good = grind (arith, apart_filter, all_filter)

good-action : (base : Tables) (lines : List LineFields) (action : Action) → AreGood base.dimensions lines
    → AddsOrder action → cause_of base lines action ≡ None → AreGood base.dimensions (lines_after_action lines action)
good-action base lines (Add order) good is none = grind (arith, none_tested, good-joined, absent, order-known)
good-action base lines (Amend order) good is none = grind (arith, good-joined, good-without, without-it, order-known)
good-action base lines (Put order) good is none = grind (arith, good-joined, good-without, without-it, order-known)
good-action base lines (Withdraw key) good is none = grind (arith, good-without)

both-none : {X Y : Type 0} (f : X → Y) (first : Option X) (second : Option Y)
    → option_or (option_map f first) second ≡ None → (first ≡ None) × (second ≡ None)
both-none f None second e = (refl, e)
both-none f (Some x) second e = absurd cc

good-refresh : (base : Tables) (number : ℕ) (lines : List LineFields) (actions : List Action)
    → AreGood base.dimensions lines → AllByRecursion AddsOrder actions
    → first_refusal base number lines actions ≡ None → AreGood base.dimensions (lines_after_refresh lines actions)
good-refresh base number lines [] good orders none = good
good-refresh base number lines (action ∷ actions) good orders none =
    let both = both-none (λ (why : Cause). record { action = number; cause = why }) (cause_of base lines action)
    (first_refusal base (number + 1) (lines_after_action lines action) actions) none in
    good-refresh base (number + 1) (lines_after_action lines action) actions
    (good-action base lines action good orders.0 both.0) orders.1 both.1

all-front : {X : Type 0} (P : X → Type 0) (xs ys : List X) → AllByRecursion P (xs ++ ys)
    → AllByRecursion P xs × AllByRecursion P ys
all-front P [] ys all = grind arith
all-front P (x ∷ xs) ys all = grind (arith, all-front P xs ys all.1)

-- a commit that is not refused leaves good lines
good-commit : (base : Tables) (front : List CommitRecord) (commit : CommitRecord)
    → AreGood base.dimensions (lines_after base front) → AllByRecursion AddsOrder commit.actions
    → refusal_of base front commit.actions ≡ None → AreGood base.dimensions (lines_after base (front ++ commit ∷ []))
good-commit base front commit good orders none = grind (arith, none_tested, lines_after-push, good-refresh)

-- and so do all commits of a legal history, from the first ones on
good-after : (base : Tables) (front rest : List CommitRecord) → IsLegal base (front ++ rest)
    → AllByRecursion AddsOrder (actions_of rest) → AreGood base.dimensions (lines_after base front)
    → AreGood base.dimensions (lines_after base (front ++ rest))
good-after base front [] legal orders good =
    subst (λ history. AreGood base.dimensions (lines_after base history)) (sym (append-nil front)) good
good-after base front (commit ∷ later) legal orders good =
    let whole : (front ++ commit ∷ []) ++ later ≡ front ++ commit ∷ later = append_assoc front (commit ∷ []) later in
    let parts = all-front AddsOrder commit.actions (actions_of later) orders in
    let accepted : refusal_of base front commit.actions ≡ None =
    subst (λ history. refusal_of base history commit.actions ≡ None) (front_of front (commit ∷ later))
    (legal.accepted (length front) commit (at_seam front commit later)) in
    subst (λ history. AreGood base.dimensions (lines_after base history)) whole
    (good-after base (front ++ commit ∷ []) later (subst (IsLegal base) (sym whole) legal) parts.1
    (good-commit base front commit good parts.0 accepted))

pub tables_after_are_sound : TablesAfterAreSound
tables_after_are_sound base history sound legal orders =
    let loaded : AreGood base.dimensions base.lines = record {
      apart = apart_of_distinct is_same_line base.lines sound.numbered;
      known = recursion_from_All (IsKnown base.dimensions) base.lines sound.known;
    } in
    let good = good-after base [] history legal orders loaded in record {
      customers = sound.customers;
      suppliers = sound.suppliers;
      parts = sound.parts;
      dates = sound.dates;
      few = (legal_histories_are_few base history sound legal).1;
      numbered = distinct_of_apart is_same_line (lines_after base history) good.apart;
      known = All-from_recursion (IsKnown base.dimensions) (lines_after base history) good.known;
    }
