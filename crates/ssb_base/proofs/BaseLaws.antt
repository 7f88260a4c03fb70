-- What the tables of a base keep between them.
use Rattle.std.proofs.Common.{◌≡◌, ◌∙◌, ◌≤◌, ℕ, ◌+◌, Bool, true, false, not, cond, nat_lt, nat_eq, ◌||◌}
use Rattle.std.proofs.Common.{List, [], ◌∷◌, Option, Some, None, is_some, length, take, get_or}
use Rattle.std.proofs.Common.{refl, sym, arith}
use Rattle.std.specs.List.{slice_get, list_any, find}
use Rattle.std.specs.Option.{option_map, option_or, option_and_then}
use Rattle.std.proofs.lemmas.Bool.{ltb-false}
use Rattle.std.proofs.lemmas.Bool.Decides.{nat_tests}
use Rattle.std.proofs.lemmas.List.Folds.{list_any-append, find-append}
use Rattle.std.proofs.lemmas.Option.{slice_get-get_or}
use Rattle.ssb_base.specs.Base.{Tables, Dimensions, has_key_of, is_same_line, repeated_fault}
use Rattle.ssb_base.specs.Base.{unknown_of, line_fault, table_fault, dimension_fault, base_fault, customer_key}
use Rattle.ssb_base.specs.Base.{supplier_key, part_key, date_key, IsDimension, IsKnown, IsSound}
use Rattle.ssb_schema.specs.FirstFault.{rows_fault}
use Rattle.ssb_base.specs.Indexed.{IsIndexOf}
use Rattle.ssb_schema.specs.declared.fault.SchemaFault.{SchemaFault}
use Rattle.ssb_schema.specs.declared.fault.SchemaFault.TheVariants as fault
use Rattle.ssb_base.specs.declared.index.Stop.TheVariants as stop
use Rattle.ssb_base.specs.declared.limits.Limits.{Limits}
use Rattle.ssb_schema.specs.declared.line.LineFields.{LineFields}
use Rattle.ssb_schema.specs.declared.table.Table.{Table}
use Rattle.ssb_schema.specs.declared.table.Table.TheVariants as table
use Rattle.ssb_schema.proofs.FirstFaultLaws.{take_with_element, length-take_at, test_none, or_else_none}
use Rattle.ssb_schema.proofs.FirstFaultLaws.{rows_fault_none, distinct_where_none}

-- a table that is small enough has the first fault of its rows
pub few_rows : {R : Type 0} (limit : ℕ) (t : Table) (f : List R → R → Option SchemaFault) (rows : List R)
    → length rows ≤ limit → table_fault limit t f rows ≡ rows_fault f [] rows
few_rows limit t f rows few =
    let room : nat_lt limit (length rows) ≡ false = grind (arith, few, nat_tests) in
    rw room refl

-- a row that is the same as an earlier one, or as none
pub repeated_found : {R : Type 0} (t : Table) (same : R → R → Bool) (rows : List R) (i : ℕ) (r : R)
    → slice_get rows i ≡ Some r → list_any (λ e. same e r) (take i rows) ≡ true
    → repeated_fault t same (take i rows) r ≡ Some (fault.KeyRepeated t (i + 1))
repeated_found t same rows i r at found = rw (found, length-take_at rows i r at) refl

pub repeated_absent : {R : Type 0} (t : Table) (same : R → R → Bool) (earlier : List R) (r : R)
    → list_any (λ e. same e r) earlier ≡ false → repeated_fault t same earlier r ≡ None
repeated_absent t same earlier r absent = rw absent refl

-- a line that an earlier one repeats has that fault, whatever it names
pub line_repeated : (dimensions : Dimensions) (lines : List LineFields) (i : ℕ) (line : LineFields)
    → slice_get lines i ≡ Some line
    → list_any (λ e. is_same_line e line) (take i lines) ≡ true
    → line_fault dimensions (take i lines) line ≡ Some (fault.KeyRepeated table.Lineorder (i + 1))
line_repeated dimensions lines i line at found = rw (found, length-take_at lines i line at) refl

-- a line that repeats no earlier one has the fault of the key that is unknown
pub line_unknown : (dimensions : Dimensions) (lines : List LineFields) (i : ℕ) (line : LineFields) (t : Table)
    → slice_get lines i ≡ Some line
    → list_any (λ e. is_same_line e line) (take i lines) ≡ false → unknown_of dimensions line ≡ Some t
    → line_fault dimensions (take i lines) line ≡ Some (fault.UnknownKey (i + 1) t)
line_unknown dimensions lines i line t at absent unknown = rw (absent, unknown, length-take_at lines i line at) refl

pub line_good : (dimensions : Dimensions) (earlier : List LineFields) (line : LineFields)
    → list_any (λ e. is_same_line e line) earlier ≡ false → unknown_of dimensions line ≡ None
    → line_fault dimensions earlier line ≡ None
line_good dimensions earlier line absent known = rw (absent, known) refl

-- the index, after one more row of a new key
contains_more : (same : Bool) (place : Option ℕ) (i : ℕ)
    → is_some (cond same (Some i) place) ≡ (is_some place || (same || false))
contains_more true None i = refl
contains_more true (Some j) i = refl
contains_more false None i = refl
contains_more false (Some j) i = refl

option_or-none : {X : Type 0} (x : Option X) → option_or x None ≡ x
option_or-none None = refl
option_or-none (Some x) = refl

finds_more : {R : Type 0} (same : Bool) (found : Option R) (rows : List R) (i : ℕ) (r : R) (place : Option ℕ)
    → slice_get rows i ≡ Some r
    → found ≡ option_and_then (slice_get rows) place → (same ≡ true → place ≡ None)
    → option_or found (cond same (Some r) None) ≡ option_and_then (slice_get rows) (cond same (Some i) place)
finds_more true found rows i r place at is new = rw (at, is, new refl) refl
finds_more false found rows i r place at is new = option_or-none found ∙ is

pub index_next : {R : Type 0} (key : R → ℕ) (rows : List R) (i : ℕ) (r : R) (before after : ℕ → Option ℕ)
    → slice_get rows i ≡ Some r → before (key r) ≡ None
    → ((q : ℕ) → after q ≡ cond (nat_eq (key r) q) (Some i) (before q)) → IsIndexOf key (take i rows) rows before
    → IsIndexOf key (take (i + 1) rows) rows after
index_next key rows i r before after at new updated so_far =
    let more = take_with_element rows i r at in
    record {
      contains = λ q. rw (updated q, contains_more (nat_eq (key r) q) (before q) i, so_far.contains q, more)
          (sym (list_any-append (λ row. nat_eq (key row) q) (take i rows) (r ∷ [])));
      finds = λ q.
          let same_key : nat_eq (key r) q ≡ true → before q ≡ None = λ same.
          let is : key r ≡ q = grind (arith, same, nat_tests) in
          rw (← is) new in
          rw (updated q, more, find-append (λ row. nat_eq (key row) q) (take i rows) (r ∷ []))
          (finds_more (nat_eq (key r) q) (find (λ row. nat_eq (key row) q) (take i rows)) rows i r (before q) at
          (so_far.finds q) same_key);
    }

-- what a dimension without a fault keeps
dimension_keeps : {R : Type 0} (limits : Limits) (t : Table) (key : R → ℕ) (rows : List R)
    → dimension_fault limits t key rows ≡ None → IsDimension limits key rows
dimension_keeps limits t key rows none =
    let few = test_none (nat_lt limits.dimension_rows (length rows)) _ _ none in
    record {
      few = ltb-false limits.dimension_rows (length rows) few.0;
      distinct = distinct_where_none (has_key_of key) rows
          (λ i r at. (test_none _ _ _ (rows_fault_none (repeated_fault t (has_key_of key)) [] rows few.1 i r at)).0);
    }

not_false : (b : Bool) → not b ≡ false → b ≡ true
not_false true e = refl
not_false false e = absurd cc

option_map_none : {X Y : Type 0} (f : X → Y) (x : Option X) → option_map f x ≡ None → x ≡ None
option_map_none f None e = refl
option_map_none f (Some x) e = absurd cc

-- what a line with no unknown key keeps
line_known : (dimensions : Dimensions) (line : LineFields) → unknown_of dimensions line ≡ None → IsKnown dimensions line
line_known dimensions line none = grind (arith, test_none, not_false)

-- what a base without a fault keeps
pub base_keeps : (base : Tables) → base_fault base ≡ None → IsSound base
base_keeps base none =
    let d = base.dimensions in
    let customers = or_else_none (dimension_fault base.limits table.Customer customer_key d.customers) _ none in
    let suppliers = or_else_none (dimension_fault base.limits table.Supplier supplier_key d.suppliers) _ customers.1 in
    let parts = or_else_none (dimension_fault base.limits table.Part part_key d.parts) _ suppliers.1 in
    let dates = or_else_none (dimension_fault base.limits table.Date date_key d.dates) _ parts.1 in
    let few = test_none (nat_lt base.limits.lines (length base.lines)) _ _ dates.1 in
    let good : (i : ℕ) (line : LineFields) → slice_get base.lines i ≡ Some line
    → (repeated_fault table.Lineorder is_same_line (take i base.lines) line ≡ None)
    × (option_map (λ t. fault.UnknownKey (length (take i base.lines) + 1) t) (unknown_of d line) ≡ None)
    = λ i line at. or_else_none (repeated_fault table.Lineorder is_same_line (take i base.lines) line) _
    (rows_fault_none (line_fault d) [] base.lines few.1 i line at) in
    record {
      customers = dimension_keeps base.limits table.Customer customer_key d.customers customers.0;
      suppliers = dimension_keeps base.limits table.Supplier supplier_key d.suppliers suppliers.0;
      parts = dimension_keeps base.limits table.Part part_key d.parts parts.0;
      dates = dimension_keeps base.limits table.Date date_key d.dates dates.0;
      few = ltb-false base.limits.lines (length base.lines) few.0;
      numbered = distinct_where_none is_same_line base.lines (λ i line at. (test_none _ _ _ (good i line at).0).0);
      known = λ i line within. line_known d (get_or base.lines i line)
          (option_map_none _ _ (good i (get_or base.lines i line) (slice_get-get_or base.lines i line within)).1);
    }
