-- A commit's action on lines, told apart: the earlier lines that stay, and what comes behind them.
use Rattle.std.proofs.Common.{◌≡◌, ℕ, not, ◌||◌, eqb, List, [], ◌∷◌, ◌++◌, sym, refl, ap, ◌∙◌}
use Rattle.std.proofs.Common.{arith, flat_map, append_assoc, append-nil}
use Rattle.std.proofs.lemmas.Bool.Decides.{nat_tests}
use Rattle.std.proofs.lemmas.List.Elements.{filter-append}
use Rattle.ssb_schema.specs.declared.line.LineFields.{LineFields}
use Rattle.ssb_schema.specs.declared.refresh.Action.{Action}
use Rattle.ssb_schema.specs.declared.refresh.Action.TheVariants.{Add, Amend, Put, Withdraw}
use Rattle.ssb_schema.specs.Orders.{order_key}
use Rattle.row_store.specs.Lines.{is_of, lines_without, lines_after_refresh}
use Rattle.row_store.specs.Absorbing.{gone_by, lines_without_all}

flip : (a b : ℕ) → eqb a b ≡ eqb b a
flip a b = grind (arith, nat_tests)

without_none : (lines : List LineFields) → lines_without_all [] lines ≡ lines
without_none [] = refl
without_none (line ∷ lines) = ap (λ l. line ∷ l) (without_none lines)

-- without one order, and then without others
without_more : (key : ℕ) (keys : List ℕ) (lines : List LineFields)
    → lines_without_all keys (lines_without key lines) ≡ lines_without_all (key ∷ keys) lines
without_more key keys [] = grind arith
without_more key keys (line ∷ lines) = grind (arith, flip, without_more key keys lines)

-- lines in the place of those of their order: the rest, told apart, as the actions behind them tell it
replaced : (lines more order : List LineFields) (actions : List Action) → let key = order_key order in
    let fresh = lines_without key more ++ order in
    lines_after_refresh (lines_without key lines ++ fresh) actions
    ≡ lines_without_all (flat_map gone_by actions) (lines_without key lines) ++ lines_after_refresh fresh actions
    → lines_after_refresh (lines_without key (lines ++ more) ++ order) actions
    ≡ lines_without_all (key ∷ flat_map gone_by actions) lines ++ lines_after_refresh fresh actions
replaced lines more order actions rest =
    let key = order_key order in
    let kept : lines_without key (lines ++ more) ≡ lines_without key lines ++ lines_without key more =
    filter-append (λ line. not (is_of key line)) lines more in
    ap (λ l. lines_after_refresh (l ++ order) actions) kept
    ∙ ap (λ l. lines_after_refresh l actions) (append_assoc (lines_without key lines) (lines_without key more) order)
    ∙ rest
    ∙ ap (λ l. l ++ lines_after_refresh (lines_without key more ++ order) actions)
    (without_more key (flat_map gone_by actions) lines)

split : (lines more : List LineFields) (actions : List Action)
    → lines_after_refresh (lines ++ more) actions ≡ lines_without_all (flat_map gone_by actions) lines
    ++ lines_after_refresh more actions
split lines more [] = ap (λ l. l ++ more) (sym (without_none lines))
split lines more (Add order ∷ actions) =
    ap (λ l. lines_after_refresh l actions) (append_assoc lines more order) ∙ split lines (more ++ order) actions
split lines more (Amend order ∷ actions) = replaced lines more order actions
    (split (lines_without (order_key order) lines) (lines_without (order_key order) more ++ order) actions)
split lines more (Put order ∷ actions) = replaced lines more order actions
    (split (lines_without (order_key order) lines) (lines_without (order_key order) more ++ order) actions)
split lines more (Withdraw key ∷ actions) =
    let kept : lines_without key (lines ++ more) ≡ lines_without key lines ++ lines_without key more =
    filter-append (λ line. not (is_of key line)) lines more in
    ap (λ l. lines_after_refresh l actions) kept
    ∙ split (lines_without key lines) (lines_without key more) actions
    ∙ ap (λ l. l ++ lines_after_refresh (lines_without key more) actions)
    (without_more key (flat_map gone_by actions) lines)

-- the lines of the orders that an action touches go, and what the actions make of no lines comes behind the others
pub absorbed : (lines : List LineFields) (actions : List Action) → lines_without_all (flat_map gone_by actions) lines
    ++ lines_after_refresh [] actions ≡ lines_after_refresh lines actions
absorbed lines actions = sym (ap (λ l. lines_after_refresh l actions) (sym (append-nil lines)) ∙ split lines [] actions)
