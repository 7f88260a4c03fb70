-- The lines of a key in a list, after an action too.
use Rattle.std.proofs.Common.{◌≡◌, ℕ, ◌+◌, Bool, true, false, cond, not, ◌||◌, ltb, List, [], ◌∷◌, ◌++◌, length, All}
use Rattle.std.proofs.Common.{sym, refl, ap, ◌∙◌, arith, eq-eqb, ne_eqb, length-append}
use Rattle.std.proofs.lemmas.Bool.{eqb-true, lt-ltb}
use Rattle.std.proofs.lemmas.List.{append-nil}
use Rattle.std.specs.List.{filter}
use Rattle.std.proofs.lemmas.List.Elements.{filter-append, All-head, All-tail}
use Rattle.std.proofs.lemmas.List.Filters.{length-filter_both}
use Rattle.ssb_schema.specs.declared.line.LineFields.{LineFields}
use Rattle.ssb_schema.specs.Orders.{order_key, IsOrder}
use Rattle.row_store.specs.Lines.{is_of, is_present, lines_of, lines_without}

-- every line has this key
abbrev pub HaveKey : ℕ → List LineFields → Type 0
HaveKey key lines = All (λ line. line.order_key ≡ key) lines

all_pass : (p : LineFields → Bool) (lines : List LineFields) → All (λ line. p line ≡ true) lines
    → filter p lines ≡ lines
all_pass p [] h = refl
all_pass p (line ∷ lines) h =
    ap (λ b. cond b (line ∷ filter p lines) (filter p lines)) (All-head (λ line. p line ≡ true) line lines h)
    ∙ ap (λ l. line ∷ l) (all_pass p lines (All-tail (λ line. p line ≡ true) line lines h))

none_pass : (p : LineFields → Bool) (lines : List LineFields) → All (λ line. p line ≡ false) lines → filter p lines ≡ []
none_pass p [] h = refl
none_pass p (line ∷ lines) h =
    ap (λ b. cond b (line ∷ filter p lines) (filter p lines)) (All-head (λ line. p line ≡ false) line lines h)
    ∙ none_pass p lines (All-tail (λ line. p line ≡ false) line lines h)

-- lines of one key
pub lines_of-own : (key : ℕ) (order : List LineFields) → HaveKey key order → lines_of key order ≡ order
lines_of-own key order alike = all_pass (is_of key) order (λ k d h. eq-eqb _ key (alike k d h))

pub lines_of-others : (key other : ℕ) (order : List LineFields) → HaveKey other order → (other ≡ key → ⊥)
    → lines_of key order ≡ []
lines_of-others key other order alike apart = grind (arith, none_pass, ne_eqb)

pub lines_of-append : (key : ℕ) (lines order : List LineFields) → lines_of key (lines ++ order) ≡ lines_of key lines
    ++ lines_of key order
lines_of-append key lines order = filter-append (is_of key) lines order

-- a key that had no lines has those of its order
pub lines_more : (key : ℕ) (lines order : List LineFields) → HaveKey key order → lines_of key lines ≡ []
    → lines_of key (lines ++ order) ≡ order
lines_more key lines order alike none = grind (arith, lines_of-append, lines_of-own)

pub lines_other : (key other : ℕ) (lines order : List LineFields) → HaveKey other order → (other ≡ key → ⊥)
    → lines_of key (lines ++ order) ≡ lines_of key lines
lines_other key other lines order alike apart =
    lines_of-append key lines order ∙ ap (λ l. lines_of key lines ++ l) (lines_of-others key other order alike apart)
    ∙ append-nil (lines_of key lines)

module _ (key gone : ℕ) where
  gone_step : (same : gone ≡ key) (line : LineFields) (lines : List LineFields)
      → lines_of key (lines_without gone lines) ≡ [] → (b : Bool) → is_of gone line ≡ b
      → lines_of key (cond (not b) (line ∷ lines_without gone lines) (lines_without gone lines)) ≡ []
  gone_step same line lines h true is = grind arith
  gone_step same line lines h false is = grind arith

  -- a key that is withdrawn has no line
  pub lines_gone : (lines : List LineFields) → gone ≡ key → lines_of key (lines_without gone lines) ≡ []
  lines_gone [] same = refl
  lines_gone (line ∷ lines) same = gone_step same line lines (lines_gone lines same) (is_of gone line) refl

  kept_step : (apart : gone ≡ key → ⊥) (line : LineFields) (lines : List LineFields)
      → lines_of key (lines_without gone lines) ≡ lines_of key lines → (b : Bool) → is_of gone line ≡ b
      → lines_of key (cond (not b) (line ∷ lines_without gone lines) (lines_without gone lines)) ≡ lines_of key
      (line ∷ lines)
  kept_step apart line lines h true is = grind (arith, ne_eqb, eqb-true)
  kept_step apart line lines h false is = grind arith

  -- another key has what it had
  pub lines_kept : (lines : List LineFields) → (gone ≡ key → ⊥)
      → lines_of key (lines_without gone lines) ≡ lines_of key lines
  lines_kept [] apart = refl
  lines_kept (line ∷ lines) apart = kept_step apart line lines (lines_kept lines apart) (is_of gone line) refl

-- how many lines a key has after an order is added
pub count_more : (key : ℕ) (lines order : List LineFields) → IsOrder order → order_key order ≡ key
    → length (lines_of key (lines ++ order)) ≡ length (lines_of key lines) + length order
count_more key lines order is same =
    ap length (lines_of-append key lines order) ∙ length-append (lines_of key lines) (lines_of key order)
    ∙ ap (λ l. length (lines_of key lines) + length l) (lines_of-own key order (λ k d h. is.alike k d h ∙ same))

pub count_other : (key : ℕ) (lines order : List LineFields) → IsOrder order → (order_key order ≡ key → ⊥)
    → length (lines_of key (lines ++ order)) ≡ length (lines_of key lines)
count_other key lines order is apart = ap length (lines_other key (order_key order) lines order is.alike apart)

-- after an order is amended
pub count_replaced : (key : ℕ) (lines order : List LineFields) → IsOrder order → order_key order ≡ key
    → length (lines_of key (lines_without (order_key order) lines ++ order)) ≡ length order
count_replaced key lines order is same = grind (arith, lines_more, lines_gone)

pub count_other_replaced : (key : ℕ) (lines order : List LineFields) → IsOrder order → (order_key order ≡ key → ⊥)
    → length (lines_of key (lines_without (order_key order) lines ++ order)) ≡ length (lines_of key lines)
count_other_replaced key lines order is apart = ap length
    (lines_other key (order_key order) (lines_without (order_key order) lines) order is.alike apart
    ∙ lines_kept key (order_key order) lines apart)

-- after an order is withdrawn
pub count_gone : (key gone : ℕ) (lines : List LineFields) → gone ≡ key
    → length (lines_of key (lines_without gone lines)) ≡ 0
count_gone key gone lines same = ap length (lines_gone key gone lines same)

pub count_kept : (key gone : ℕ) (lines : List LineFields) → (gone ≡ key → ⊥)
    → length (lines_of key (lines_without gone lines)) ≡ length (lines_of key lines)
count_kept key gone lines apart = ap length (lines_kept key gone lines apart)

-- how many lines an order has after an action, by its kind and by whose order it is of
pub ruleset counting = (count_more, count_other, count_replaced, count_other_replaced, count_gone, count_kept)

pub no_lines : (lines : List LineFields) → length lines ≡ 0 → lines ≡ []
no_lines [] e = refl
no_lines (line ∷ lines) e = absurd (omega arith)

present_step : (b old : Bool) (line : LineFields) (found : List LineFields) → old ≡ ltb 0 (length found)
    → (b || old) ≡ ltb 0 (length (cond b (line ∷ found) found))
present_step true old line found h = sym (lt-ltb 0 (length (line ∷ found)) (omega arith))
present_step false old line found h = h

-- an order is present where it has some line
pub present : (key : ℕ) (lines : List LineFields) → is_present key lines ≡ ltb 0 (length (lines_of key lines))
present key [] = grind arith
present key (line ∷ lines) = grind (arith, present_step, present key lines)

-- withdrawing a key drops so many lines
pub length_kept : (key : ℕ) (lines : List LineFields) → length (lines_without key lines)
    + length (lines_of key lines) ≡ length lines
length_kept key lines = grind (arith, length-filter_both)
