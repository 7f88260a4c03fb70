-- The loaded lines in the order of an index.
use Rattle.std.proofs.Common.{◌≡◌, ◌≢◌, ℕ, ◌+◌, ◌-◌, ◌<◌, ◌≤◌, Bool, true, false, cond, not, ◌&&◌, eqb, ltb, ne_eqb}
use Rattle.std.proofs.Common.{List, [], ◌∷◌, ◌++◌, length, take, drop, get_or, slice_get, slice_range, slice_index, All}
use Rattle.std.proofs.Common.{Option, Some, sym, refl, ap, ◌∙◌, subst, arith, zero, suc, length-append, length-drop}
use Rattle.std.proofs.Common.{append_assoc}
use Rattle.std.proofs.Math.Seq.{take-add}
use Rattle.std.specs.Option.{option_map_or}
use Rattle.std.specs.Ordering.{nat_cmp, is_lt}
use Rattle.std.specs.List.{filter, count_by, range_with_len}
use Rattle.std.specs.List.Sorted.{IsPermutation, IsNonDecreasingBy, IsStableByKey, ties}
use Rattle.std.proofs.lemmas.Bool.{eqb-true, eq-eqb, ltb-true, ltb-false}
use Rattle.std.proofs.lemmas.List.{get_or-take, get_or-drop, get_or_default, length-take-le, take-append-drop}
use Rattle.std.proofs.lemmas.List.Elements.{filter_map-append, All-head, All-tail, All-cons, All-take, All-drop}
use Rattle.std.proofs.lemmas.List.Sums.{length-filter}
use Rattle.std.proofs.lemmas.List.Sorted.{All-permutation, sum_by-IsPermutation}
use Rattle.std.proofs.lemmas.List.FromFn.{get_or-range_with_len, length-range_with_len}
use Rattle.ssb_schema.specs.declared.line.LineFields.{LineFields}
use Rattle.row_store.specs.Lines.{is_of, lines_of}
use Rattle.row_store.specs.declared.place.OrderPlace.{OrderPlace}
use Rattle.row_store.specs.declared.place.Source.TheVariants.{Loaded}
use Rattle.row_store.specs.Keyed.{Sources, IsAt, Located, key_at, lines_at}
use Rattle.row_store.proofs.CountedLaws.{HaveKey, lines_of-own, lines_of-append}
use Rattle.row_store.proofs.PlacedLaws.{located_more}

lines_at-cons : (lines : List LineFields) (i : ℕ) (index : List ℕ) (line : LineFields) → slice_get lines i ≡ Some line
    → lines_at lines (i ∷ index) ≡ line ∷ lines_at lines index
lines_at-cons lines i index line is = rw is refl

get-middle : (front : List LineFields) (line : LineFields) (lines : List LineFields)
    → slice_get (front ++ line ∷ lines) (length front) ≡ Some line
get-middle [] line lines = refl
get-middle (x ∷ front) line lines = get-middle front line lines

-- the index in the order of the lines gives the lines
all_in_order-from : (front lines : List LineFields) → lines_at (front ++ lines)
    (range_with_len (length front) (length lines)) ≡ lines
all_in_order-from front [] = grind arith
all_in_order-from front (line ∷ lines) = grind (arith, append_assoc, length-append, lines_at-cons, get-middle, all_in_order-from (front ++ line ∷ []) lines)

pub all_in_order : (lines : List LineFields) → lines_at lines (range_with_len 0 (length lines)) ≡ lines
all_in_order lines = all_in_order-from [] lines

pub all_within : (n : ℕ) → All (λ i. i < n) (range_with_len 0 n)
all_within n k d h = grind (arith, length-range_with_len, get_or-range_with_len)

module _ (lines : List LineFields) where
  abbrev Within : List ℕ → Type 0
  Within index = All (λ i. i < length lines) index

  -- a position within the lines has a line
  line_there : (loaded : List LineFields) (i : ℕ) → i < length loaded → (line : LineFields)
      × (slice_get loaded i ≡ Some line)
  line_there [] i h = absurd (omega (arith, h))
  line_there (line ∷ loaded) zero h = (line, refl)
  line_there (line ∷ loaded) (suc i) h = line_there loaded i (omega (arith, h))

  key_at-is : (i : ℕ) (line : LineFields) → slice_get lines i ≡ Some line → key_at lines i ≡ line.order_key
  key_at-is i line is = ap (λ o. option_map_or (λ (l : LineFields). l.order_key) o 0) is

  pub length-lines_at : (index : List ℕ) → Within index → length (lines_at lines index) ≡ length index
  length-lines_at [] h = refl
  length-lines_at (i ∷ index) h =
      let found = line_there lines i (All-head (λ i. i < length lines) i index h) in
      let rest = length-lines_at index (All-tail (λ i. i < length lines) i index h) in
      ap length (lines_at-cons lines i index found.0 found.1) ∙ omega (arith, rest)

  -- the line at a place
  pub slice_get-lines_at : (index : List ℕ) (k : ℕ) → Within index → k < length index
      → slice_get (lines_at lines index) k ≡ slice_get lines (slice_index index k)
  slice_get-lines_at [] k h here = absurd (omega (arith, here))
  slice_get-lines_at (i ∷ index) zero h here =
      let found = line_there lines i (All-head (λ i. i < length lines) i index h) in
      ap (λ l. slice_get l 0) (lines_at-cons lines i index found.0 found.1) ∙ sym found.1
  slice_get-lines_at (i ∷ index) (suc k) h here =
      let found = line_there lines i (All-head (λ i. i < length lines) i index h) in
      ap (λ l. slice_get l (suc k)) (lines_at-cons lines i index found.0 found.1)
      ∙ slice_get-lines_at index k (All-tail (λ i. i < length lines) i index h) (omega (arith, here))

  -- the lines of a key are those at the positions of the key
  lines_of-lines_at : (key : ℕ) (index : List ℕ) → Within index
      → lines_of key (lines_at lines index) ≡ lines_at lines (filter (λ i. eqb (key_at lines i) key) index)
  lines_of-lines_at key [] h = grind arith
  lines_of-lines_at key (i ∷ index) h = grind (arith, line_there, eqb, key_at-is, lines_at-cons, lines_of-lines_at key index (All-tail (λ i. i < length lines) i index h))

  -- positions of one key
  pub lines_at-HaveKey : (key : ℕ) (index : List ℕ) → Within index → All (λ i. key_at lines i ≡ key) index
      → HaveKey key (lines_at lines index)
  lines_at-HaveKey key [] h alike = λ k d b. absurd (omega (arith, b))
  lines_at-HaveKey key (i ∷ index) h alike =
      let found = line_there lines i (All-head (λ i. i < length lines) i index h) in
      let rest = lines_at-HaveKey key index (All-tail (λ i. i < length lines) i index h)
      (All-tail (λ i. key_at lines i ≡ key) i index alike) in
      let first : found.0.order_key ≡ key = sym (key_at-is i found.0 found.1)
      ∙ All-head (λ i. key_at lines i ≡ key) i index alike in
      subst (HaveKey key) (sym (lines_at-cons lines i index found.0 found.1))
      (All-cons (λ line. line.order_key ≡ key) found.0 (lines_at lines index) first rest)

  -- where no position has the key, no line has
  pub lines_of-none : (key : ℕ) (index : List ℕ) → Within index → All (λ i. key_at lines i ≢ key) index
      → lines_of key (lines_at lines index) ≡ []
  lines_of-none key [] h apart = refl
  lines_of-none key (i ∷ index) h apart =
      let found = line_there lines i (All-head (λ i. i < length lines) i index h) in
      let rest = lines_of-none key index (All-tail (λ i. i < length lines) i index h)
      (All-tail (λ i. key_at lines i ≢ key) i index apart) in
      let other : is_of key found.0 ≡ false = ne_eqb found.0.order_key key
      (λ e. All-head (λ i. key_at lines i ≢ key) i index apart (key_at-is i found.0 found.1 ∙ e)) in
      ap (lines_of key) (lines_at-cons lines i index found.0 found.1)
      ∙ ap (λ b. cond b (found.0 ∷ lines_of key (lines_at lines index)) (lines_of key (lines_at lines index))) other
      ∙ rest

  -- two positions tie where their keys are equal
  ties_is : (a b : ℕ) → (not (is_lt (nat_cmp a b)) && not (is_lt (nat_cmp b a))) ≡ eqb b a
  ties_is a b = grind (arith, eqb, ltb, ltb-true, ltb-false, eqb-true, eq-eqb)

  first_passes : (p : ℕ → Bool) (xs : List ℕ) (x : ℕ) (rest : List ℕ) → filter p xs ≡ x ∷ rest → p x ≡ true
  first_passes p [] x rest e = absurd (cc)
  first_passes p (y ∷ ys) x rest e =
      elim (p y) as (λ b. p y ≡ b → cond b (y ∷ filter p ys) (filter p ys) ≡ x ∷ rest → p x ≡ true) [
        | true ↦ λ is e. ap p (sym (ap (λ l. get_or l 0 x) e)) ∙ is
        | false ↦ λ is e. first_passes p ys x rest e
      ] refl e

  none_left : (xs : List ℕ) → length xs ≡ 0 → xs ≡ []
  none_left [] e = refl
  none_left (x ∷ xs) e = absurd (omega (arith, e))

  abbrev at_key : ℕ → ℕ → Bool
  at_key key i = eqb (key_at lines i) key

  -- a stable sort by the key keeps the positions of each key
  same_filter : (key : ℕ) (old new : List ℕ) → IsPermutation old new → IsStableByKey (key_at lines) nat_cmp old new
      → filter (λ i. eqb (key_at lines i) key) new ≡ filter (λ i. eqb (key_at lines i) key) old
  same_filter key old new moved stable = step (filter (at_key key) old) refl
    where
      step : (found : List ℕ) → filter (at_key key) old ≡ found → filter (at_key key) new ≡ filter (at_key key) old
      step [] e =
          let counts : count_by (at_key key) new ≡ count_by (at_key key) old =
          sum_by-IsPermutation (λ i. cond (at_key key i) 1 0) old new moved in
          none_left (filter (at_key key) new) (length-filter (at_key key) new ∙ counts
          ∙ sym (length-filter (at_key key) old) ∙ ap length e) ∙ sym e
      step (x ∷ rest) e =
          let here : key_at lines x ≡ key = eqb-true (key_at lines x) key (first_passes (at_key key) old x rest e) in
          let alike : (i : ℕ) → ties (λ a b. is_lt (nat_cmp (key_at lines a) (key_at lines b))) x i ≡ at_key key i =
          λ i. ties_is (key_at lines x) (key_at lines i) ∙ ap (eqb (key_at lines i)) here in
          (λ k. filter (λ i. sym (alike i) k) new) ∙ stable x ∙ (λ k. filter (λ i. alike i k) old)

  pub same_lines : (key : ℕ) (old new : List ℕ) → Within old → IsPermutation old new
      → IsStableByKey (key_at lines) nat_cmp old new → lines_of key (lines_at lines new) ≡ lines_of key
      (lines_at lines old)
  same_lines key old new h moved stable =
      lines_of-lines_at key new (All-permutation (λ i. i < length lines) old new moved h)
      ∙ ap (lines_at lines) (same_filter key old new moved stable) ∙ sym (lines_of-lines_at key old h)

-- what the run of a key from first up to end adds to the places
module _ (lines : List LineFields) (index : List ℕ) (inside : All (λ i. i < length lines) index)
    (sorted : IsNonDecreasingBy (key_at lines) index)
    (first end : ℕ) (later : first < end) (within : end ≤ length index)
    (alike : (k : ℕ) → first ≤ k → k < end → key_at lines (slice_index index k) ≡ key_at lines
    (slice_index index first))
    (apart : (i j : ℕ) → i < first → first ≤ j → j < length index
    → key_at lines (slice_index index i) < key_at lines (slice_index index j)) where
  pub next_apart : (end < length index → key_at lines (slice_index index end) ≢ key_at lines (slice_index index first))
      → (i j : ℕ) → i < end → end ≤ j → j < length index
      → key_at lines (slice_index index i) < key_at lines (slice_index index j)
  next_apart ends i j before after here = grind (arith, ltb, slice_index, ltb-true, ltb-false)

  run : List ℕ
  run = slice_range index first end

  length-run : length run ≡ end - first
  unfolding run
  length-run = length-take-le (end - first) (drop first index) (omega (arith, length-drop first index, within))

  run_inside : All (λ i. i < length lines) run
  unfolding run
  run_inside = All-take (λ i. i < length lines) (end - first) (drop first index)
      (All-drop (λ i. i < length lines) first index inside)

  run_alike : All (λ i. key_at lines i ≡ key_at lines (slice_index index first)) run
  unfolding run
  run_alike k d h = grind (arith, length-run, slice_index, get_or-take, get_or-drop, get_or_default)

  front_apart : All (λ i. key_at lines i ≢ key_at lines (slice_index index first)) (take first index)
  front_apart k d h e =
      let small : k < first = omega (arith, h, length-take-le first index (omega (arith, later, within))) in
      let place : get_or (take first index) k d ≡ slice_index index k =
      get_or-take first index k d small ∙ get_or_default index k d 0 (omega (arith, small, later, within)) in
      let below = apart k first small (omega arith) (omega (arith, later, within)) in
      let same : key_at lines (slice_index index k) ≡ key_at lines (slice_index index first) =
      ap (key_at lines) (sym place) ∙ e in
      omega (arith, below, same)

  split : lines_at lines (take end index) ≡ lines_at lines (take first index) ++ lines_at lines run
  unfolding run
  split =
      let longer : first + (end - first) ≡ end = omega (arith, later) in
      ap (λ n. lines_at lines (take n index)) (sym longer) ∙ ap (lines_at lines) (take-add first (end - first) index)
      ∙ filter_map-append (λ i. slice_get lines i) (take first index) (take (end - first) (drop first index))

  -- the run is no longer than its order
  run_few : (key : ℕ) → key ≡ key_at lines (slice_index index first) → length (lines_of key (lines_at lines index)) ≤ 7
      → end - first ≤ 7
  unfolding run
  run_few key same few =
      let front : List LineFields = lines_at lines (take first index) in
      let after : List LineFields = lines_at lines (drop end index) in
      let whole : lines_at lines index ≡ (front ++ lines_at lines run) ++ after =
      ap (lines_at lines) (sym (take-append-drop end index))
      ∙ filter_map-append (λ i. slice_get lines i) (take end index) (drop end index) ∙ ap (λ l. l ++ after) split in
      let own : lines_of key (lines_at lines run) ≡ lines_at lines run =
      lines_of-own key (lines_at lines run) (lines_at-HaveKey lines key run run_inside
      (λ k d h. run_alike k d h ∙ sym same)) in
      let count : length (lines_of key (lines_at lines index)) ≡ length
      (lines_of key ((front ++ lines_at lines run) ++ after)) = ap (λ l. length (lines_of key l)) whole in
      let outer : length (lines_of key ((front ++ lines_at lines run) ++ after)) ≡ length
      (lines_of key (front ++ lines_at lines run)) + length (lines_of key after) =
      ap length (lines_of-append key (front ++ lines_at lines run) after) ∙ length-append _ _ in
      let inner : length (lines_of key (front ++ lines_at lines run)) ≡ length (lines_of key front)
      + length (lines_of key (lines_at lines run)) =
      ap length (lines_of-append key front (lines_at lines run)) ∙ length-append _ _ in
      let long : length (lines_of key (lines_at lines run)) ≡ end - first =
      ap length own ∙ length-lines_at lines run run_inside ∙ length-run in
      omega (arith, few, count, outer, inner, long)

  pub next_located : (f g : ℕ → Option OrderPlace) (key : ℕ)
      → key ≡ key_at lines (slice_index index first) → length (lines_of key (lines_at lines index)) ≤ 7
      → ((q : ℕ) → g q ≡ cond (eqb key q) (Some (record { lines = end - first; source = Loaded first })) (f q))
      → Located (record { loaded = lines; index = index }) f (lines_at lines (take first index))
      → Located (record { loaded = lines; index = index }) g (lines_at lines (take end index))
  unfolding run
  next_located f g key same few now each =
      let sources : Sources = record { loaded = lines; index = index } in
      let place : OrderPlace = record { lines = end - first; source = Loaded first } in
      let at : IsAt sources place (lines_at lines run) = record {
        found = refl;
        count = sym (length-lines_at lines run run_inside ∙ length-run);
        some = omega (arith, later);
        few = run_few key same few;
        within = omega (arith, later, within);
      } in
      let own : HaveKey key (lines_at lines run) = lines_at-HaveKey lines key run run_inside
      (λ k d h. run_alike k d h ∙ sym same) in
      let none : lines_of key (lines_at lines (take first index)) ≡ [] =
      lines_of-none lines key (take first index) (All-take (λ i. i < length lines) first index inside)
      (λ k d h e. front_apart k d h (e ∙ same)) in
      subst (Located sources g) (sym split) (located_more sources f g (lines_at lines (take first index))
      (lines_at lines run) key place now at own none each)
