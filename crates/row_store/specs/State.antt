-- What a replica stands for, whatever its form: the base, the number of commits, and how often each fact is live.
use Rattle.std.specs.Prelude.{◌≡◌, ℕ, ◌+◌, Bool, not, ◌==◌, List, [], ◌∷◌, length, fold, unwrap_or, get_or, refl}
use Rattle.std.specs.List.{count_by}
use Rattle.std.specs.Ordering.{nat_cmp, on, eq_by_cmp}
use Rattle.std.specs.declared.cmp.Ordering.{Ordering}
use Rattle.std.specs.Cmp.Lexicographic.{slice_cmp}
use Rattle.std.specs.FinMap as map
use Rattle.std.specs.Coded.{Coded, code_by, coded_list, coded_ℕ}
use Rattle.ssb_schema.specs.declared.fact.Fact.{Fact}
use Rattle.ssb_schema.specs.declared.refresh.Action.{Action}
use Rattle.ssb_schema.specs.declared.refresh.Action.TheVariants.{Add, Amend, Put, Withdraw}
use Rattle.ssb_base.specs.Base.{Tables}
use Rattle.ssb_schema.specs.Facts.{facts_of}
use Rattle.ssb_schema.specs.Orders.{order_key}
use Rattle.row_store.specs.History.{CommitRecord, lines_after}

-- the ten values of a fact
abbrev pub fact_values : Fact → List ℕ
fact_values fact = fact.order_key ∷ fact.customer ∷ fact.supplier ∷ fact.part ∷ fact.date ∷ fact.quantity ∷
    fact.discount ∷ fact.price ∷ fact.revenue ∷ fact.cost ∷ []

-- the fact of ten values
abbrev pub fact_from : List ℕ → Fact
fact_from values = record {
  order_key = get_or values 0 0;
  customer = get_or values 1 0;
  supplier = get_or values 2 0;
  part = get_or values 3 0;
  date = get_or values 4 0;
  quantity = get_or values 5 0;
  discount = get_or values 6 0;
  price = get_or values 7 0;
  revenue = get_or values 8 0;
  cost = get_or values 9 0;
}

-- facts are ordered by their values
abbrev pub fact_cmp : Fact → Fact → Ordering
fact_cmp = on fact_values (slice_cmp nat_cmp)

-- whether two facts have the same values
abbrev pub is_same : Fact → Fact → Bool
is_same fact other = eq_by_cmp fact_cmp fact other

-- how often a fact stands in a list
abbrev pub occurrences : Fact → List Fact → ℕ
occurrences fact facts = count_by (is_same fact) facts

-- from facts to how often each is live; a fact that is not live has no entry
abbrev pub Counts : Type 0
Counts = map.FinMap fact_cmp ℕ

-- how a model's value stores them
abbrev pub counts_code : Coded Counts
counts_code = map.code (code_by (List ℕ) (coded_list coded_ℕ) fact_values fact_from (λ _. refl)) coded_ℕ

-- how often a fact is live
abbrev pub count_of : Counts → Fact → ℕ
count_of counts fact = unwrap_or (map.get counts fact) 0

-- the fact once more
abbrev pub with_fact : Counts → Fact → Counts
with_fact counts fact = map.insert counts fact (count_of counts fact + 1)

-- without every fact of an order
abbrev pub counts_without : ℕ → Counts → Counts
counts_without key counts = map.retain_keys counts (λ fact. not (fact.order_key == key))

-- how often each fact stands in a list
abbrev pub fact_counts : List Fact → Counts
fact_counts facts = fold with_fact map.empty facts

-- the counts after an action, as `lines_after_action` has the lines
abbrev pub counts_after_action : Counts → Action → Counts
counts_after_action counts (Add order) = fold with_fact counts (facts_of order)
counts_after_action counts (Amend order) = fold with_fact (counts_without (order_key order) counts) (facts_of order)
counts_after_action counts (Put order) = fold with_fact (counts_without (order_key order) counts) (facts_of order)
counts_after_action counts (Withdraw key) = counts_without key counts

-- a replica's state
pub record State : Type 0 where
  pub base : Tables
  pub commits : ℕ
  pub counts : Counts

-- the state after one commit more
abbrev pub state_after : State → CommitRecord → State
state_after state commit = record {
  base = state.base;
  commits = state.commits + 1;
  counts = fold counts_after_action state.counts commit.actions;
}

-- the state of the lines that a history leaves
abbrev pub state_of : Tables → List CommitRecord → State
state_of base history = record {
  base = base;
  commits = length history;
  counts = fact_counts (facts_of (lines_after base history));
}

-- the state is that of the history over its base
abbrev pub StandsFor : State → List CommitRecord → Type 0
StandsFor state history = state ≡ state_of state.base history
