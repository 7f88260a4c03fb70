-- What stays of counted facts without an order.
use Rattle.std.proofs.Common.{◌≡◌, ℕ, Bool, true, false, cond, not, eqb, List, [], ◌∷◌, map, sym, refl, ap, ◌∙◌}
use Rattle.std.specs.List.{filter}
use Rattle.ssb_schema.specs.declared.fact.Fact.{Fact}
use Rattle.ssb_schema.specs.declared.line.LineFields.{LineFields}
use Rattle.ssb_schema.specs.Facts.{facts_of}
use Rattle.ssb_schema.specs.Texts.{texts_of}
use Rattle.row_store.specs.Lines.{lines_without}
use Rattle.row_store.specs.State.{counts_without, fact_counts}
use Rattle.row_store.proofs.StateLaws.{counts_without-fact_counts}

-- a line that has these facts
abbrev pub line_of : Fact → LineFields
line_of fact = record {
  order_key = fact.order_key;
  line_number = 0;
  customer_key = fact.customer;
  part_key = fact.part;
  supplier_key = fact.supplier;
  order_date = fact.date;
  quantity = fact.quantity;
  extended_price = fact.price;
  order_total_price = 0;
  discount = fact.discount;
  revenue = fact.revenue;
  supply_cost = fact.cost;
  tax = 0;
  commit_date = 0;
  texts = texts_of [] [] [];
}

abbrev others : ℕ → Fact → Bool
others key fact = not (eqb fact.order_key key)

pub facts_of_lines : (facts : List Fact) → facts_of (map line_of facts) ≡ facts
facts_of_lines [] = refl
facts_of_lines (fact ∷ facts) = ap (λ l. fact ∷ l) (facts_of_lines facts)

step : (b : Bool) (fact : Fact) (lines : List LineFields) (facts : List Fact) → facts_of lines ≡ facts
    → facts_of (cond b (line_of fact ∷ lines) lines) ≡ cond b (fact ∷ facts) facts
step true fact lines facts is = ap (λ l. fact ∷ l) is
step false fact lines facts is = is

facts_without : (key : ℕ) (facts : List Fact) → facts_of (lines_without key (map line_of facts)) ≡ filter (others key)
    facts
facts_without key [] = refl
facts_without key (fact ∷ facts) = step (others key fact) fact (lines_without key (map line_of facts))
    (filter (others key) facts) (facts_without key facts)

-- the counts without an order are those of the facts of the others
pub counts_without_order : (key : ℕ) (facts : List Fact)
    → counts_without key (fact_counts facts) ≡ fact_counts (filter (others key) facts)
counts_without_order key facts =
    ap (λ l. counts_without key (fact_counts l)) (sym (facts_of_lines facts))
    ∙ counts_without-fact_counts key (map line_of facts) ∙ ap fact_counts (facts_without key facts)
