-- What an order keeps.
use Rattle.std.proofs.Common.{◌≡◌, ℕ, Bool, true, false, not, nat_eq, nat_lt, List, []}
use Rattle.std.proofs.Common.{None, length, refl, arith}
use Rattle.std.specs.List.{list_all, All}
use Rattle.std.proofs.lemmas.List.Sums.{AllPass-from_list_all}
use Rattle.std.proofs.lemmas.List.Elements.{All-weaker}
use Rattle.std.proofs.lemmas.Bool.{ltb-false}
use Rattle.std.proofs.lemmas.Bool.Decides.{nat_tests}
use Rattle.ssb_schema.specs.Orders.{order_key, order_fault, repeated_number, has_number_of, IsOrder}
use Rattle.ssb_schema.specs.declared.line.LineFields.{LineFields}
use Rattle.ssb_schema.proofs.FirstFaultLaws.{test_none, rows_fault_none, distinct_where_none}

not_false : (b : Bool) → not b ≡ false → b ≡ true
not_false true e = refl
not_false false e = absurd cc

alike : (key : ℕ) (lines : List LineFields) → list_all (λ line. nat_eq line.order_key key) lines ≡ true
    → All (λ line. line.order_key ≡ key) lines
alike key lines all = All-weaker (λ line. nat_eq line.order_key key ≡ true) (λ line. line.order_key ≡ key)
    (λ line same. grind (arith, same, nat_tests)) lines
    (AllPass-from_list_all (λ line. nat_eq line.order_key key) lines all)

-- the lines of an order without a fault
pub order_keeps : (lines : List LineFields) → order_fault lines ≡ None → IsOrder lines
order_keeps lines none =
    let not_empty = test_none (nat_eq (length lines) 0) _ _ none in
    let few = test_none (nat_lt 7 (length lines)) _ _ not_empty.1 in
    let same = test_none (not (list_all (λ line. nat_eq line.order_key (order_key lines)) lines)) _ _ few.1 in
    record {
      some = grind (arith, not_empty.0, nat_tests);
      few = ltb-false 7 (length lines) few.0;
      alike = alike (order_key lines) lines (not_false _ same.0);
      numbered = distinct_where_none has_number_of lines
          (λ i line at. (test_none _ _ _ (rows_fault_none repeated_number [] lines same.1 i line at)).0);
    }
