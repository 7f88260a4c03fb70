-- What is left of loaded and of added orders after one order that goes or comes.
use Rattle.std.proofs.Common.{◌≡◌, ℕ, ◌+◌, ◌≤◌, Bool, true, false, not, ◌&&◌, ◌||◌, nat_eq, List, [], ◌∷◌, ◌++◌, Option}
use Rattle.std.proofs.Common.{Some, None, filter, flat_map, cond, refl, sym, ap, ◌∙◌, subst, arith, append_assoc}
use Rattle.std.proofs.Common.{append-nil}
use Rattle.std.specs.Prelude.{is_some}
use Rattle.std.specs.HashMap.{get}
use Rattle.std.specs.HashSet.{HashSet, contains}
use Rattle.std.specs.List.{AllByRecursion}
use Rattle.std.proofs.lemmas.List.Concat.{flat_map-append}
use Rattle.std.proofs.lemmas.List.Elements.{filter-append}
use Rattle.std.proofs.lemmas.List.Folds.{list_any-append}
use Rattle.row_store.specs.Lines.{is_of, is_present, lines_without}
use Rattle.ssb_schema.specs.declared.line.LineFields.{LineFields}
use Rattle.export_command.specs.Standing.{AreLeft, IsOneOf, left_of, left_of_added, left_of_loaded, order_lines}
use Rattle.export_command.specs.Standing.{stands_yet}
use Rattle.export_command.specs.declared.standing_orders.AddedOrder.{AddedOrder}
use Rattle.export_command.specs.declared.standing_orders.StandingOrders.{StandingOrders}
use Rattle.export_command.proofs.ApartLaws.{all_append, all_filter, all_more}

or-false : (a b : Bool) → (a || b) ≡ false → (a ≡ false) × (b ≡ false)
or-false true b e = absurd cc
or-false false b e = (refl, e)

and-false : (b : Bool) → (b && false) ≡ false
and-false true = refl
and-false false = refl

and-true : (b : Bool) → (b && true) ≡ b
and-true true = refl
and-true false = refl

-- where no line is of the order, all stay without it
pub none_own : (key : ℕ) (lines : List LineFields) → is_present key lines ≡ false → lines_without key lines ≡ lines
none_own key [] none = refl
none_own key (line ∷ lines) none =
    let both = or-false (is_of key line) (is_present key lines) none in
    rw (both.0, none_own key lines both.1) refl

-- lines of one order, without it and without another
own_gone : (key : ℕ) (lines : List LineFields) → AllByRecursion (λ (line : LineFields). line.order_key ≡ key) lines
    → lines_without key lines ≡ []
own_gone key [] own = refl
own_gone key (line ∷ lines) own = grind (arith, nat_eq, own_gone key lines own.1)

others_stay : (key own : ℕ) (lines : List LineFields) → nat_eq own key ≡ false
    → AllByRecursion (λ (line : LineFields). line.order_key ≡ own) lines → lines_without key lines ≡ lines
others_stay key own [] apart all = refl
others_stay key own (line ∷ lines) apart all = grind (arith, nat_eq, others_stay key own lines apart all.1)

present_filter : (key : ℕ) (p : LineFields → Bool) (lines : List LineFields) → is_present key lines ≡ false
    → is_present key (filter p lines) ≡ false
present_filter key p [] none = refl
present_filter key p (line ∷ lines) none = grind (arith, or-false, present_filter key p lines)

-- one order before others
abbrev before : Bool → List LineFields → List LineFields → List LineFields
before true own rest = own ++ rest
before false own rest = rest

first_left : (numbers : ℕ → Option ℕ) (order : AddedOrder) (orders : List AddedOrder) (b : Bool)
    → stands_yet numbers order ≡ b
    → left_of_added numbers (order ∷ orders) ≡ before b (order_lines order) (left_of_added numbers orders)
first_left numbers order orders true is = rw is refl
first_left numbers order orders false is = rw is refl

one_without : (a b : Bool) (key own : ℕ) (lines rest : List LineFields) → nat_eq own key ≡ b
    → AllByRecursion (λ (line : LineFields). line.order_key ≡ own) lines
    → before (a && not b) lines (lines_without key rest) ≡ lines_without key (before a lines rest)
one_without false b key own lines rest is all = refl
one_without true true key own lines rest is all = grind (arith, nat_eq, filter-append, own_gone)
one_without true false key own lines rest is all =
    sym (filter-append (λ line. not (is_of key line)) lines rest
    ∙ ap (λ l. l ++ lines_without key rest) (others_stay key own lines is all))

-- where of the added orders those of a key stand no more, and each other one as before
orders_without : (old new : ℕ → Option ℕ) (key count : ℕ) (orders : List AddedOrder)
    → AllByRecursion (IsOneOf count) orders
    → ((order : AddedOrder) → order.number ≤ count
    → stands_yet new order ≡ (stands_yet old order && not (nat_eq order.key key)))
    → left_of_added new orders ≡ lines_without key (left_of_added old orders)
orders_without old new key count [] came stand = refl
orders_without old new key count (order ∷ orders) came stand =
    let a = stands_yet old order in
    let b = nat_eq order.key key in
    first_left new order orders (a && not b) (stand order came.0.0)
    ∙ ap (before (a && not b) (order_lines order)) (orders_without old new key count orders came.1 stand)
    ∙ one_without a b key order.key (order_lines order) (left_of_added old orders) refl came.0.1
    ∙ ap (lines_without key) (sym (first_left old order orders a refl))

-- a key that is no more among the numbers, and one that has a number behind all others
removed : (old new : ℕ → Option ℕ) (key : ℕ) → ((q : ℕ) → new q ≡ cond (nat_eq key q) None (old q))
    → (order : AddedOrder) → stands_yet new order ≡ (stands_yet old order && not (nat_eq order.key key))
removed old new key is order = grind (arith, nat_eq, and-false, and-true, is order.key)

set_behind : (old new : ℕ → Option ℕ) (key count : ℕ)
    → ((q : ℕ) → new q ≡ cond (nat_eq key q) (Some (count + 1)) (old q)) → (order : AddedOrder) → order.number ≤ count
    → stands_yet new order ≡ (stands_yet old order && not (nat_eq order.key key))
set_behind old new key count is order few = grind (arith, nat_eq, and-false, and-true, is order.key)

-- the loaded lines, after one key more is gone
pub loaded_without : (old new : ℕ → Bool) (key : ℕ) (loaded : List LineFields)
    → ((q : ℕ) → new q ≡ cond (nat_eq key q) true (old q))
    → left_of_loaded new loaded ≡ lines_without key (left_of_loaded old loaded)
loaded_without old new key [] is = refl
loaded_without old new key (line ∷ loaded) is =
    grind (arith, nat_eq, is line.order_key, loaded_without old new key loaded is)

pub added_both : (numbers : ℕ → Option ℕ) (one other : List AddedOrder) → left_of_added numbers (one ++ other)
    ≡ left_of_added numbers one ++ left_of_added numbers other
added_both numbers one other =
    ap (flat_map order_lines) (filter-append (stands_yet numbers) one other)
    ∙ flat_map-append order_lines (filter (stands_yet numbers) one) (filter (stands_yet numbers) other)

-- where nothing is gone and nothing was added
none_gone : {S : Type 0} (gone : HashSet ℕ S) (loaded : List LineFields) → gone.keys ≡ []
    → left_of_loaded (contains nat_eq gone) loaded ≡ loaded
none_gone gone [] none = refl
none_gone gone (line ∷ loaded) none = grind (arith, none, none_gone gone loaded none)

pub all_stand : (loaded : List LineFields) (orders : StandingOrders) → orders.gone.keys ≡ []
    → orders.numbers.entries ≡ [] → orders.added.items ≡ [] → AreLeft loaded loaded orders
all_stand loaded orders gone numbers added = record {
  lines_are = grind (arith, added, none_gone orders.gone loaded gone, append-nil);
  apart = λ key some. grind (arith, numbers, some);
  came = subst (AllByRecursion (IsOneOf orders.count)) (sym added) tt;
}

-- the order of a key goes
pub order_leaves : (loaded lines : List LineFields) (key : ℕ) (old new : StandingOrders) → new.count ≡ old.count
    → new.added.items ≡ old.added.items
    → ((q : ℕ) → get nat_eq new.numbers q ≡ cond (nat_eq key q) None (get nat_eq old.numbers q))
    → left_of_loaded (contains nat_eq new.gone) loaded
    ≡ lines_without key (left_of_loaded (contains nat_eq old.gone) loaded)
    → AreLeft loaded lines old → AreLeft loaded (lines_without key lines) new
order_leaves loaded lines key old new count added numbers gone left =
    let front = left_of_loaded (contains nat_eq old.gone) loaded in
    let back = left_of_added (get nat_eq old.numbers) old.added.items in
    let others : left_of_added (get nat_eq new.numbers) new.added.items ≡ lines_without key back =
    ap (left_of_added (get nat_eq new.numbers)) added
    ∙ orders_without (get nat_eq old.numbers) (get nat_eq new.numbers) key old.count old.added.items left.came
    (λ order few. removed (get nat_eq old.numbers) (get nat_eq new.numbers) key numbers order) in
    record {
      lines_are = ap (lines_without key) left.lines_are ∙ filter-append (λ line. not (is_of key line)) front back
          ∙ ap (λ l. l ++ lines_without key back) (sym gone)
          ∙ ap (λ l. left_of_loaded (contains nat_eq new.gone) loaded ++ l) (sym others);
      apart = λ q some. subst (λ l. is_present q l ≡ false) (sym gone)
          (present_filter q (λ line. not (is_of key line)) front
          (left.apart q (still (nat_eq key q) (get nat_eq old.numbers q) (ap is_some (sym (numbers q)) ∙ some))));
      came = subst (AllByRecursion (IsOneOf new.count)) (sym added)
          (subst (λ n. AllByRecursion (IsOneOf n) old.added.items) (sym count) left.came);
    }
  where
    still : (b : Bool) (number : Option ℕ) → is_some (cond b None number) ≡ true → is_some number ≡ true
    still true number some = absurd cc
    still false number some = some

-- an order comes of which no line stands
pub order_comes : (loaded lines : List LineFields) (order : AddedOrder) (old new : StandingOrders)
    → is_present order.key lines ≡ false → order.number ≡ old.count + 1 → new.count ≡ order.number
    → new.gone ≡ old.gone → new.added.items ≡ old.added.items ++ order ∷ []
    → ((q : ℕ) → get nat_eq new.numbers q ≡ cond (nat_eq order.key q) (Some order.number) (get nat_eq old.numbers q))
    → AllByRecursion (λ (line : LineFields). line.order_key ≡ order.key) (order_lines order)
    → AreLeft loaded lines old → AreLeft loaded (lines ++ order_lines order) new
order_comes loaded lines order old new absent number count gone added numbers own left =
    let front = left_of_loaded (contains nat_eq old.gone) loaded in
    let back = left_of_added (get nat_eq old.numbers) old.added.items in
    let neither : (is_present order.key front || is_present order.key back) ≡ false =
    sym (list_any-append (is_of order.key) front back) ∙ ap (is_present order.key) (sym left.lines_are) ∙ absent in
    let none = or-false (is_present order.key front) (is_present order.key back) neither in
    let others : left_of_added (get nat_eq new.numbers) old.added.items ≡ back =
    orders_without (get nat_eq old.numbers) (get nat_eq new.numbers) order.key old.count old.added.items left.came
    (set_behind (get nat_eq old.numbers) (get nat_eq new.numbers) order.key old.count
    (λ q. subst (λ n. get nat_eq new.numbers q ≡ cond (nat_eq order.key q) (Some n) (get nat_eq old.numbers q)) number
    (numbers q))) ∙ none_own order.key back none.1 in
    let all : left_of_added (get nat_eq new.numbers) new.added.items ≡ back ++ order_lines order =
    ap (left_of_added (get nat_eq new.numbers)) added
    ∙ added_both (get nat_eq new.numbers) old.added.items (order ∷ [])
    ∙ ap (λ l. l ++ left_of_added (get nat_eq new.numbers) (order ∷ [])) others
    ∙ ap (λ l. back ++ l) (first_left (get nat_eq new.numbers) order [] true
    (is_set order (get nat_eq new.numbers) (get nat_eq old.numbers) numbers)
    ∙ append-nil (order_lines order)) in
    let same : left_of_loaded (contains nat_eq new.gone) loaded ≡ front =
    ap (λ g. left_of_loaded (contains nat_eq g) loaded) gone in
    record {
      lines_are = ap (λ l. l ++ order_lines order) left.lines_are ∙ append_assoc front back (order_lines order)
          ∙ ap (λ l. l ++ (back ++ order_lines order)) (sym same)
          ∙ ap (λ l. left_of_loaded (contains nat_eq new.gone) loaded ++ l) (sym all);
      apart = λ q some. subst (λ l. is_present q l ≡ false) (sym same)
          (one_key order.key q (get nat_eq old.numbers q) front order.number (nat_eq order.key q) refl none.0
          (left.apart q) (ap is_some (sym (numbers q)) ∙ some));
      came = subst (AllByRecursion (IsOneOf new.count)) (sym added)
          (all_append (IsOneOf new.count) old.added.items (order ∷ [])
          (all_more (IsOneOf old.count) (IsOneOf new.count)
          (λ earlier is. (omega (arith, is.0, number, count), is.1)) old.added.items left.came)
          ((omega (arith, count), own), tt));
    }
  where
    is_set : (order : AddedOrder) (new old : ℕ → Option ℕ)
        → ((q : ℕ) → new q ≡ cond (nat_eq order.key q) (Some order.number) (old q)) → stands_yet new order ≡ true
    is_set order new old is = grind (arith, nat_eq, is order.key)

    one_key : (key q : ℕ) (number : Option ℕ) (front : List LineFields) (n : ℕ) (b : Bool) → nat_eq key q ≡ b
        → is_present key front ≡ false → (is_some number ≡ true → is_present q front ≡ false)
        → is_some (cond b (Some n) number) ≡ true → is_present q front ≡ false
    one_key key q number front n true is own other some = grind (arith, nat_eq)
    one_key key q number front n false is own other some = other some

filter_again : {X : Type 0} (p : X → Bool) (xs : List X) → filter p (filter p xs) ≡ filter p xs
filter_again p [] = refl
filter_again p (x ∷ xs) = grind (arith, filter_again p xs)

-- orders that do not stand are forgotten
pub orders_swept : (loaded lines : List LineFields) (old new : StandingOrders) → new.count ≡ old.count
    → new.gone ≡ old.gone → new.numbers ≡ old.numbers
    → new.added.items ≡ filter (stands_yet (get nat_eq old.numbers)) old.added.items → AreLeft loaded lines old
    → AreLeft loaded lines new
orders_swept loaded lines old new count gone numbers added left =
    let same : left_of loaded new ≡ left_of loaded old =
    ap (λ g. left_of_loaded (contains nat_eq g) loaded ++ left_of_added (get nat_eq new.numbers) new.added.items) gone
    ∙ ap (λ m. left_of_loaded (contains nat_eq old.gone) loaded ++ left_of_added (get nat_eq m) new.added.items) numbers
    ∙ ap (λ xs. left_of_loaded (contains nat_eq old.gone) loaded ++ left_of_added (get nat_eq old.numbers) xs) added
    ∙ ap (λ xs. left_of_loaded (contains nat_eq old.gone) loaded ++ flat_map order_lines xs)
    (filter_again (stands_yet (get nat_eq old.numbers)) old.added.items) in
    record {
      lines_are = left.lines_are ∙ sym same;
      apart = λ q some. subst (λ g. is_present q (left_of_loaded (contains nat_eq g) loaded) ≡ false) (sym gone)
          (left.apart q (subst (λ m. is_some (get nat_eq m q) ≡ true) numbers some));
      came = subst (AllByRecursion (IsOneOf new.count)) (sym added)
          (subst (λ n. AllByRecursion (IsOneOf n) (filter (stands_yet (get nat_eq old.numbers)) old.added.items))
          (sym count)
          (all_filter (IsOneOf old.count) (stands_yet (get nat_eq old.numbers)) old.added.items left.came));
    }
