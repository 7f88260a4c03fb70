use Rattle.std.proofs.Common.{arith}
-- An answer depends on rows through the columns that queries read alone.
use Rattle.std.proofs.Common.{◌≡◌, ℕ, Bool, List, [], ◌∷◌, map, refl, ap, ◌∙◌}
use Rattle.std.specs.Prelude.{ℤ, pos, ◌+ℤ◌, ◌-ℤ◌, ◌*◌, ◌&&◌, Some}
use Rattle.std.specs.List.{filter, fold}
use Rattle.ssb_schema.specs.declared.column.Column.{Column}
use Rattle.ssb_schema.specs.declared.table.Table.{Table}
use Rattle.ssb_schema.specs.declared.table.Table.TheVariants as table
use Rattle.ssb_questions.specs.declared.plan.Measure.{Measure}
use Rattle.ssb_questions.specs.declared.plan.Measure.TheVariants.{PriceTimesDiscount, Revenue, Profit, Quantity}
use Rattle.ssb_questions.specs.declared.plan.Measure.TheVariants.{ExtendedPrice, SupplyCost, Lines}
use Rattle.ssb_questions.specs.declared.plan.Plan.{Plan}
use Rattle.ssb_answers.specs.RowValues.{customer_value, supplier_value, part_value, date_value}
use Rattle.ssb_answers.specs.Combination.{Combination, value_in, passes}
use Rattle.ssb_answers.specs.Answer.{group_of, amount, sum_over, groups_among}
use Rattle.ssb_answers.specs.Answer.{rows_over}

-- the same numbers of the line, and rows with the same values in every column
pub record Alike (c e : Combination) : Type 0 where
  pub quantity : c.fact.quantity ≡ e.fact.quantity
  pub discount : c.fact.discount ≡ e.fact.discount
  pub price : c.fact.price ≡ e.fact.price
  pub revenue : c.fact.revenue ≡ e.fact.revenue
  pub cost : c.fact.cost ≡ e.fact.cost
  pub customer : (place : ℕ) → customer_value place c.customer ≡ customer_value place e.customer
  pub supplier : (place : ℕ) → supplier_value place c.supplier ≡ supplier_value place e.supplier
  pub part : (place : ℕ) → part_value place c.part ≡ part_value place e.part
  pub date : (place : ℕ) → date_value place c.date ≡ date_value place e.date

value_alike : (t : Table) (place : ℕ) (c e : Combination) → Alike c e → value_in t place c ≡ value_in t place e
value_alike table.Customer place c e alike = alike.customer place
value_alike table.Supplier place c e alike = alike.supplier place
value_alike table.Part place c e alike = alike.part place
value_alike table.Date place c e alike = alike.date place
value_alike table.Lineorder place c e alike = refl

pub passes_alike : (plan : Plan) (c e : Combination) → Alike c e → passes plan c ≡ passes plan e
passes_alike plan c e alike = grind arith

group_alike : (plan : Plan) (c e : Combination) → Alike c e → group_of plan c ≡ group_of plan e
group_alike plan c e alike = λ i. map (λ (column : Column). value_alike column.table column.place c e alike i)
    plan.groups

amount_alike : (measure : Measure) (c e : Combination) → Alike c e → amount measure c.fact ≡ amount measure e.fact
amount_alike PriceTimesDiscount c e alike = λ i. pos (alike.price i * alike.discount i)
amount_alike Revenue c e alike = λ i. pos (alike.revenue i)
amount_alike Profit c e alike = λ i. pos (alike.revenue i) -ℤ pos (alike.cost i)
amount_alike Quantity c e alike = λ i. pos (alike.quantity i)
amount_alike ExtendedPrice c e alike = λ i. pos (alike.price i)
amount_alike SupplyCost c e alike = λ i. pos (alike.cost i)
amount_alike Lines c e alike = refl

-- combinations that are alike, one by one
abbrev pub AllAlike : List Combination → List Combination → Type 0
AllAlike [] [] = Unit {0}
AllAlike [] (e ∷ es) = ⊥
AllAlike (c ∷ cs) [] = ⊥
AllAlike (c ∷ cs) (e ∷ es) = Alike c e × AllAlike cs es

filter_alike : (test : Combination → Bool) → ((c e : Combination) → Alike c e → test c ≡ test e)
    → (cs es : List Combination) → AllAlike cs es → AllAlike (filter test cs) (filter test es)
filter_alike test same [] [] all = grind arith
filter_alike test same [] (e ∷ es) all = grind arith
filter_alike test same (c ∷ cs) [] all = grind arith
filter_alike test same (c ∷ cs) (e ∷ es) all = grind (arith, filter_alike test same cs es all.1)

map_alike : {X : Type 0} (f : Combination → X) → ((c e : Combination) → Alike c e → f c ≡ f e)
    → (cs es : List Combination) → AllAlike cs es → map f cs ≡ map f es
map_alike f same [] [] all = refl
map_alike f same [] (e ∷ es) all = absurd all
map_alike f same (c ∷ cs) [] all = absurd all
map_alike f same (c ∷ cs) (e ∷ es) all = λ i. same c e all.0 i ∷ map_alike f same cs es all.1 i

fold_alike : (measure : Measure) (sum : ℤ) (cs es : List Combination) → AllAlike cs es
    → fold (λ total combination. total +ℤ amount measure combination.fact) sum cs ≡ fold
    (λ total combination. total +ℤ amount measure combination.fact) sum es
fold_alike measure sum [] [] all = grind arith
fold_alike measure sum [] (e ∷ es) all = grind arith
fold_alike measure sum (c ∷ cs) [] all = grind arith
fold_alike measure sum (c ∷ cs) (e ∷ es) all = grind (arith, amount_alike, fold_alike measure (sum +ℤ amount measure c.fact) cs es all.1)

sum_alike : (measure : Measure) (cs es : List Combination) → AllAlike cs es → sum_over measure cs ≡ sum_over measure es
sum_alike measure [] [] all = refl
sum_alike measure [] (e ∷ es) all = absurd all
sum_alike measure (c ∷ cs) [] all = absurd all
sum_alike measure (c ∷ cs) (e ∷ es) all = ap Some (fold_alike measure (pos 0) (c ∷ cs) (e ∷ es) all)

groups_alike : (plan : Plan) (columns : List Column) (cs es : List Combination) → AllAlike cs es
    → groups_among columns (group_of plan) cs ≡ groups_among columns (group_of plan) es
groups_alike plan [] cs es all = refl
groups_alike plan (column ∷ columns) cs es all = map_alike (group_of plan) (group_alike plan) cs es all

-- rows over combinations that are alike are the same
pub rows_alike : (plan : Plan) (cs es : List Combination) → AllAlike cs es → rows_over plan cs ≡ rows_over plan es
rows_alike plan cs es all = grind (arith, groups_alike, sum_alike, filter_alike, group_alike)
