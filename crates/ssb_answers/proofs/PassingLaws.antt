use Rattle.std.proofs.Common.{arith}
-- A filter of joined rows is a join of filtered rows, so a combination is left where each of its rows is.
use Rattle.std.proofs.Common.{◌≡◌, List, [], ◌∷◌, ◌++◌, map, Bool, true, false, cond, refl, ap, ◌∙◌}
use Rattle.std.specs.Prelude.{◌&&◌, nat_eq, filter}
use Rattle.std.specs.List.{flat_map}
use Rattle.std.proofs.lemmas.List.Elements.{filter-append}
use Rattle.ssb_base.specs.Base.{Dimensions}
use Rattle.ssb_schema.specs.declared.fact.Fact.{Fact}
use Rattle.ssb_schema.specs.declared.customer.CustomerFields.{CustomerFields}
use Rattle.ssb_schema.specs.declared.supplier.SupplierFields.{SupplierFields}
use Rattle.ssb_schema.specs.declared.part.PartFields.{PartFields}
use Rattle.ssb_schema.specs.declared.date.DateFields.{DateFields}
use Rattle.ssb_questions.specs.declared.plan.Plan.{Plan}
use Rattle.ssb_answers.specs.RowValues.{customer_value, supplier_value, part_value, date_value, pass}
use Rattle.ssb_answers.specs.Combination.{Combination, joined_with, is_in_ranges, passes}

-- a filter by a test that is `b` and a test of what was mapped
filter_map : {X A : Type 0} (b : Bool) (p : A → Bool) (q : X → Bool) (f : X → A) → ((x : X) → p (f x) ≡ (b && q x))
    → (xs : List X) → filter p (map f xs) ≡ cond b (map f (filter q xs)) []
filter_map true p q f same [] = grind arith
filter_map true p q f same (x ∷ xs) = grind (arith, filter_map true p q f same xs)
filter_map false p q f same [] = grind arith
filter_map false p q f same (x ∷ xs) = grind (arith, filter_map false p q f same xs)

-- the same for lists that are joined end to end
filter_flat_map : {X A : Type 0} (b : Bool) (p : A → Bool) (q : X → Bool) (f g : X → List A)
    → ((x : X) → filter p (f x) ≡ cond (b && q x) (g x) []) → (xs : List X)
    → filter p (flat_map f xs) ≡ cond b (flat_map g (filter q xs)) []
filter_flat_map true p q f g same [] = grind arith
filter_flat_map true p q f g same (x ∷ xs) = grind (arith, filter-append, filter_flat_map true p q f g same xs)
filter_flat_map false p q f g same [] = grind arith
filter_flat_map false p q f g same (x ∷ xs) = grind (arith, filter-append, filter_flat_map false p q f g same xs)

flat_map_empty : {X A : Type 0} (f : X → List A) → ((x : X) → f x ≡ []) → (xs : List X) → flat_map f xs ≡ []
flat_map_empty f empty [] = refl
flat_map_empty f empty (x ∷ xs) = ap (λ t. t ++ flat_map f xs) (empty x) ∙ flat_map_empty f empty xs

-- every combination of a line with rows of four lists
abbrev pub combined : Fact → List CustomerFields → List SupplierFields → List PartFields → List DateFields
    → List Combination
combined fact customers suppliers parts dates =
    flat_map (λ customer.
    flat_map (λ supplier.
    flat_map (λ part.
    map (λ date. record { fact = fact; customer = customer; supplier = supplier; part = part; date = date }) dates)
    parts) suppliers) customers

module _ (plan : Plan) (dimensions : Dimensions) (fact : Fact) where
  abbrev pub customers_left : List CustomerFields
  customers_left = filter (λ row. pass plan.customers (λ place. customer_value place row))
      (filter (λ row. nat_eq row.key fact.customer) dimensions.customers)

  abbrev pub suppliers_left : List SupplierFields
  suppliers_left = filter (λ row. pass plan.suppliers (λ place. supplier_value place row))
      (filter (λ row. nat_eq row.key fact.supplier) dimensions.suppliers)

  abbrev pub parts_left : List PartFields
  parts_left = filter (λ row. pass plan.parts (λ place. part_value place row))
      (filter (λ row. nat_eq row.key fact.part) dimensions.parts)

  abbrev pub dates_left : List DateFields
  dates_left = filter (λ row. pass plan.dates (λ place. date_value place row))
      (filter (λ row. nat_eq row.key fact.date) dimensions.dates)

  -- the combinations of a line that pass are those of the rows that pass
  pub passing_combined : filter (passes plan) (joined_with dimensions fact)
      ≡ cond (is_in_ranges plan fact) (combined fact customers_left suppliers_left parts_left dates_left) []
  passing_combined =
      filter_flat_map (is_in_ranges plan fact) (passes plan)
      (λ customer. pass plan.customers (λ place. customer_value place customer)) _ _ (λ customer.
      filter_flat_map (is_in_ranges plan fact && pass plan.customers (λ place. customer_value place customer))
      (passes plan) (λ supplier. pass plan.suppliers (λ place. supplier_value place supplier)) _ _ (λ supplier.
      filter_flat_map
      (is_in_ranges plan fact && pass plan.customers (λ place. customer_value place customer)
      && pass plan.suppliers (λ place. supplier_value place supplier)) (passes plan)
      (λ part. pass plan.parts (λ place. part_value place part)) _ _ (λ part.
      filter_map
      (is_in_ranges plan fact && pass plan.customers (λ place. customer_value place customer)
      && pass plan.suppliers (λ place. supplier_value place supplier)
      && pass plan.parts (λ place. part_value place part)) (passes plan)
      (λ date. pass plan.dates (λ place. date_value place date)) _ (λ date. refl) _) _) _) _

  pub none_outside : is_in_ranges plan fact ≡ false → filter (passes plan) (joined_with dimensions fact) ≡ []
  none_outside outside = passing_combined
      ∙ ap (λ (b : Bool). cond b (combined fact customers_left suppliers_left parts_left dates_left) []) outside

  none_left : combined fact customers_left suppliers_left parts_left dates_left ≡ []
      → filter (passes plan) (joined_with dimensions fact) ≡ []
  none_left none = passing_combined
      ∙ elim (is_in_ranges plan fact) as
      (λ b. cond b (combined fact customers_left suppliers_left parts_left dates_left) []
      ≡ []) [ true ↦ none | false ↦ refl ]

  pub none_without_customer : customers_left ≡ [] → filter (passes plan) (joined_with dimensions fact) ≡ []
  none_without_customer none = none_left
      (ap (λ customers. combined fact customers suppliers_left parts_left dates_left) none)

  pub none_without_supplier : suppliers_left ≡ [] → filter (passes plan) (joined_with dimensions fact) ≡ []
  none_without_supplier none = none_left
      (ap (λ suppliers. combined fact customers_left suppliers parts_left dates_left) none
      ∙ flat_map_empty _ (λ customer. refl) customers_left)

  pub none_without_part : parts_left ≡ [] → filter (passes plan) (joined_with dimensions fact) ≡ []
  none_without_part none =
      none_left (ap (λ parts. combined fact customers_left suppliers_left parts dates_left) none
      ∙ flat_map_empty _ (λ customer. flat_map_empty _ (λ supplier. refl) suppliers_left) customers_left)

  pub none_without_date : dates_left ≡ [] → filter (passes plan) (joined_with dimensions fact) ≡ []
  none_without_date none =
      none_left (ap (λ dates. combined fact customers_left suppliers_left parts_left dates) none
      ∙ flat_map_empty _
      (λ customer. flat_map_empty _
      (λ supplier. flat_map_empty _ (λ part. refl) parts_left) suppliers_left) customers_left)

  pub one_left : (customer : CustomerFields) (supplier : SupplierFields) (part : PartFields) (date : DateFields)
      → is_in_ranges plan fact ≡ true → customers_left ≡ customer ∷ [] → suppliers_left ≡ supplier ∷ []
      → parts_left ≡ part ∷ [] → dates_left ≡ date ∷ []
      → filter (passes plan) (joined_with dimensions fact)
      ≡ record { fact = fact; customer = customer; supplier = supplier; part = part; date = date } ∷ []
  one_left customer supplier part date within c s p d =
      passing_combined
      ∙ ap (λ (b : Bool). cond b (combined fact customers_left suppliers_left parts_left dates_left) []) within
      ∙ (λ i. combined fact (c i) (s i) (p i) (d i))
