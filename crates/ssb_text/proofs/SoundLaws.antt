-- Sound tables have no fault.
use Rattle.std.proofs.Common.{◌≡◌, ℕ, zero, suc, ◌<◌, Bool, false, List, [], ◌∷◌, ◌++◌, take, Option, Some, None}
use Rattle.std.proofs.Common.{slice_get, refl, sym, ◌∙◌, subst, arith, append_assoc, append-nil, length-take}
use Rattle.std.specs.List.{list_any}
use Rattle.std.proofs.lemmas.Option.{get_or_from_slice_get, slice_get_within}
use Rattle.ssb_base.specs.Base.{IsDimension, IsKnown, IsSound, Tables, Dimensions, base_fault, customer_key, date_key}
use Rattle.ssb_base.specs.Base.{dimension_fault, is_same_line, line_fault, part_key}
use Rattle.ssb_base.specs.Base.{supplier_key, table_fault, unknown_of}
use Rattle.ssb_base.proofs.BaseLaws.{few_rows, line_good, repeated_absent}
use Rattle.ssb_schema.specs.FirstFault.{AreDistinct, rows_fault}
use Rattle.ssb_schema.specs.declared.fault.SchemaFault.{SchemaFault}
use Rattle.ssb_schema.specs.declared.line.LineFields.{LineFields}
use Rattle.ssb_schema.specs.declared.table.Table.{Table}
use Rattle.ssb_schema.specs.declared.table.Table.TheVariants as table
use Rattle.ssb_base.specs.declared.limits.Limits.{Limits}

-- rows of which none has a fault behind those before it
no-fault : {R : Type 0} (f : List R → R → Option SchemaFault) (earlier rows : List R)
    → ((i : ℕ) (r : R) → slice_get rows i ≡ Some r → f (earlier ++ take i rows) r ≡ None)
    → rows_fault f earlier rows ≡ None
unfolding rows_fault
no-fault f earlier [] each = refl
no-fault f earlier (first ∷ rows) each =
    let here : f earlier first ≡ None = subst (λ e. f e first ≡ None) (append-nil earlier) (each zero first refl) in
    let later : rows_fault f (earlier ++ first ∷ []) rows ≡ None =
    no-fault f (earlier ++ first ∷ []) rows
    (λ i r at. subst (λ e. f e r ≡ None) (sym (append_assoc earlier (first ∷ []) (take i rows))) (each (suc i) r at)) in
    rw (here, later) refl

-- no element passes where each one does not
none-passes : {X : Type 0} (p : X → Bool) (xs : List X) → ((j : ℕ) (x : X) → slice_get xs j ≡ Some x → p x ≡ false)
    → list_any p xs ≡ false
none-passes p [] each = refl
none-passes p (x ∷ xs) each =
    rw (each zero x refl, none-passes p xs (λ j y at. each (suc j) y at)) refl

-- an element among the first ones stands in the list
from-take : {X : Type 0} (xs : List X) (n j : ℕ) (x : X) → slice_get (take n xs) j ≡ Some x → slice_get xs j ≡ Some x
from-take [] zero j x at = at
from-take [] (suc n) j x at = at
from-take (y ∷ xs) zero j x at = absurd cc
from-take (y ∷ xs) (suc n) zero x at = at
from-take (y ∷ xs) (suc n) (suc j) x at = from-take xs n j x at

before-it : {X : Type 0} (xs : List X) (n j : ℕ) (x : X) → slice_get (take n xs) j ≡ Some x → j < n
before-it xs n j x at = omega (arith, slice_get_within (take n xs) j x at, length-take n xs)

none-earlier : {R : Type 0} (same : R → R → Bool) (rows : List R) → AreDistinct same rows → (i : ℕ) (r : R)
    → slice_get rows i ≡ Some r → list_any (λ e. same e r) (take i rows) ≡ false
none-earlier same rows distinct i r at = grind (arith, none-passes, before-it, from-take)

dimension-none : {R : Type 0} (limits : Limits) (t : Table) (key : R → ℕ) (rows : List R) → IsDimension limits key rows
    → dimension_fault limits t key rows ≡ None
dimension-none limits t key rows is = grind (arith, few_rows, no-fault, repeated_absent, none-earlier)

none-unknown : (dimensions : Dimensions) (line : LineFields) → IsKnown dimensions line
    → unknown_of dimensions line ≡ None
none-unknown dimensions line is = rw (is.customer, is.supplier, is.part, is.date) refl

-- sound tables have none
pub sound_has_no_fault : (base : Tables) → IsSound base → base_fault base ≡ None
sound_has_no_fault base sound =
    let d = base.dimensions in
    let customers = dimension-none base.limits table.Customer customer_key d.customers sound.customers in
    let suppliers = dimension-none base.limits table.Supplier supplier_key d.suppliers sound.suppliers in
    let parts = dimension-none base.limits table.Part part_key d.parts sound.parts in
    let dates = dimension-none base.limits table.Date date_key d.dates sound.dates in
    let known : (i : ℕ) (line : LineFields) → slice_get base.lines i ≡ Some line → IsKnown d line
    = λ i line at. subst (IsKnown d) (get_or_from_slice_get base.lines i line line at)
    (sound.known i line (slice_get_within base.lines i line at)) in
    let lines : table_fault base.limits.lines table.Lineorder (line_fault d) base.lines ≡ None =
    few_rows base.limits.lines table.Lineorder (line_fault d) base.lines sound.few
    ∙ no-fault (line_fault d) [] base.lines
    (λ i line at. line_good d (take i base.lines) line
    (none-earlier is_same_line base.lines sound.numbered i line at)
    (none-unknown d line (known i line at))) in
    rw (customers, suppliers, parts, dates, lines) refl
