-- The distinct values of a list, and their codes.
use Rattle.std.proofs.Common.{◌≡◌, ℕ, ◌+◌, ◌<◌, ◌≤◌, Bool, true, false, cond, List, [], ◌∷◌, ◌++◌, length, map}
use Rattle.std.proofs.Common.{take, get_or, Some, None, zero, suc, sym, refl, ap, ◌∙◌, arith, subst, unwrap_or}
use Rattle.std.proofs.Common.{length-append}
use Rattle.std.specs.Prelude.{◌||◌, nat_lt, nat_eq}
use Rattle.std.specs.List.{filter, list_any, position_from, position_or_len, slice_get, All}
use Rattle.std.proofs.lemmas.List.{get_or-map, get_or_append_left, length-map, map-append, append-nil, take_more}
use Rattle.std.proofs.lemmas.List.Elements.{filter-append, All-filter, All-push}
use Rattle.std.proofs.lemmas.List.Sums.{position_or_len_is}
use Rattle.std.proofs.lemmas.Bool.{lt-ltb, eq-eqb, ne_eqb}
use Rattle.std.proofs.lemmas.Iterator.Adapters.{position_from-zero}
use Rattle.std.proofs.lemmas.Option.{get_or_from_slice_get, slice_get_within}
use Rattle.std.proofs.lemmas.Grind.{same_number_lists}
use Rattle.indexmap.specs.IndexSet.{insert_key}
use Rattle.ssb_questions.specs.declared.value.Value.{Value}
use Rattle.ssb_questions.specs.declared.value.Value.TheVariants.{Number}
use Rattle.ssb_questions.proofs.ValueLaws.{value_Decides}
use Rattle.dimension_index.specs.Codes.{is_same, distinct, code_in, codes_of}
use Rattle.dimension_index.specs.CodedColumns.{values_in, IsCoded}

is_itself : (value : Value) → is_same value value ≡ true
is_itself value = (value_Decides value value).1 refl

is_same-flip : (a b : Value) → is_same a b ≡ true → is_same b a ≡ true
is_same-flip a b same = (value_Decides b a).1 (sym ((value_Decides a b).0 same))

flip_false : (a b : Value) → is_same a b ≡ false → is_same b a ≡ false
flip_false a b apart = grind (arith, is_same-flip)

-- every value that is the same as v passes the test, so v is among those that pass where it is among all
any_kept : (v : Value) (test : Value → Bool) (values : List Value)
    → ((other : Value) → is_same v other ≡ true → test other ≡ true)
    → list_any (is_same v) (filter test values) ≡ list_any (is_same v) values
any_kept v test [] passes = grind arith
any_kept v test (first ∷ values) passes = grind (arith, any_kept v test values passes)

-- one value more: it is entered where it is new
pub distinct_push : (values : List Value) (v : Value) → distinct (values ++ v ∷ []) ≡ insert_key is_same
    (distinct values) v
unfolding distinct
distinct_push [] v = grind arith
distinct_push (x ∷ values) v = grind (arith, is_same-flip, flip_false, filter-append, any_kept, value_Decides, append-nil, distinct_push values v)

-- no two of the values are the same
abbrev pub Apart : List Value → Type 0
Apart [] = Unit {0}
Apart (x ∷ values) = All (λ other. is_same x other ≡ false) values × Apart values

passing : (test : Value → Bool) (values : List Value) → All (λ value. test value ≡ true) (filter test values)
passing test [] = grind arith
passing test (first ∷ values) = grind (arith, passing test values)

apart_filter : (test : Value → Bool) (values : List Value) → Apart values → Apart (filter test values)
apart_filter test [] apart = tt
apart_filter test (first ∷ values) apart = step (test first) (apart_filter test values apart.1)
  where
    step : (kept : Bool) → Apart (filter test values) → Apart
        (cond kept (first ∷ filter test values) (filter test values))
    step true rest = (All-filter test (λ other. is_same first other ≡ false) values apart.0, rest)
    step false rest = rest

pub distinct_apart : (values : List Value) → Apart (distinct values)
unfolding distinct
distinct_apart [] = grind arith
distinct_apart (x ∷ values) = grind (arith, passing, apart_filter, distinct_apart values)

apart_at : (values : List Value) (d : Value) (k i : ℕ) → Apart values → k < i → i < length values
    → is_same (get_or values k d) (get_or values i d) ≡ false
apart_at [] d k i apart lt within = grind arith
apart_at (x ∷ values) d k zero apart lt within = grind arith
apart_at (x ∷ values) d zero (suc i) apart lt within = grind arith
apart_at (x ∷ values) d (suc k) (suc i) apart lt within = grind (arith, apart_at values d k i apart.1 (omega (arith, lt)) (omega (arith, within)))

-- a value is found where it stands
pub code_at : (values : List Value) (d : Value) (i : ℕ) → Apart values → i < length values
    → code_in values (get_or values i d) ≡ i
code_at values d i apart within =
    let test : Value → Bool = is_same (get_or values i d) in
    let here : position_or_len test values ≡ i = position_or_len_is test values i d (omega (arith, within))
    (λ k lt. flip_false (get_or values k d) (get_or values i d) (apart_at values d k i apart lt within))
    (λ lt. is_itself (get_or values i d)) in
    ap (λ n. unwrap_or (cond (nat_lt n (length values)) (Some n) None) 0) here
    ∙ ap (λ b. unwrap_or (cond b (Some i) None) 0) (lt-ltb i (length values) within)

-- the codes of a coded column are those of its values
pub codes_read : (dictionary : List Value) (codes : List ℕ) → IsCoded dictionary codes
    → codes ≡ codes_of (values_in dictionary codes)
codes_read dictionary codes coded =
    let values = values_in dictionary codes in
    let value : ℕ → Value = λ code. get_or dictionary code (Number 0) in
    let seen = coded.seen in
    let long : length values ≡ length codes = length-map codes value in
    let apart : Apart dictionary = subst Apart (sym seen) (distinct_apart values) in
    same_number_lists codes (codes_of values) (sym (length-map values (code_in (distinct values)) ∙ long)) (λ i within.
    let code = get_or codes i 0 in
    sym (get_or-map (code_in (distinct values)) values i (Number 0) 0 (omega (arith, within, long))
    ∙ ap (code_in (distinct values)) (get_or-map value codes i 0 (Number 0) within)
    ∙ ap (λ l. code_in l (value code)) (sym seen)
    ∙ code_at dictionary (Number 0) code apart (coded.within i 0 within)))

entered_keeps : (old : List Value) (v d : Value) (code : ℕ) → code < length old
    → get_or (insert_key is_same old v) code d ≡ get_or old code d
entered_keeps old v d code within = grind (arith, get_or_append_left)

entered_len : (old : List Value) (v : Value) → (length old ≤ length (insert_key is_same old v))
    × (length (insert_key is_same old v) ≤ length old + 1)
entered_len old v = grind (arith, length-append)

map_same : {X : Type 0} (f g : ℕ → X) (codes : List ℕ) → All (λ code. f code ≡ g code) codes → map f codes ≡ map g codes
map_same f g [] same = refl
map_same f g (code ∷ codes) same = λ i. same 0 code (omega arith) i ∷ map_same f g codes
    (λ k d within. same (suc k) d (omega (arith, within))) i

-- what holds after so many rows
pub record CodedUpTo (values : List Value) (i : ℕ) (dictionary : List Value) (codes : List ℕ) : Type 0 where
  pub seen : dictionary ≡ distinct (take i values)
  pub read : values_in dictionary codes ≡ take i values
  pub within : All (λ code. code < length dictionary) codes
  pub few : length dictionary ≤ i

-- before the first row
pub coded_none : (values dictionary : List Value) (codes : List ℕ) → dictionary ≡ [] → codes ≡ []
    → CodedUpTo values 0 dictionary codes
unfolding distinct
coded_none values dictionary codes no_values no_codes = grind (arith, CodedUpTo)

pub coded_nothing : (dictionary : List Value) (codes : List ℕ) → dictionary ≡ [] → codes ≡ [] → IsCoded dictionary codes
unfolding distinct
coded_nothing dictionary codes no_values no_codes = grind arith

-- one row more is coded
pub coded_more : (values : List Value) (i : ℕ) (d v : Value) (old new : List Value) (codes : List ℕ) (code : ℕ)
    → i < length values → v ≡ get_or values i d
    → new ≡ insert_key is_same old v → slice_get new code ≡ Some v → CodedUpTo values i old codes
    → CodedUpTo values (i + 1) new (codes ++ code ∷ [])
coded_more values i d v old new codes code inside is entered found so_far =
    let more : take (i + 1) values ≡ take i values ++ v ∷ [] =
    take_more values i d inside ∙ ap (λ x. take i values ++ x ∷ []) (sym is) in
    let lengths = entered_len old v in
    let new_len : length new ≡ length (insert_key is_same old v) = ap length entered in
    record {
      seen = entered ∙ ap (λ l. insert_key is_same l v) so_far.seen ∙ sym (distinct_push (take i values) v)
          ∙ ap distinct (sym more);
      read =
          map-append (λ c. get_or new c (Number 0)) codes (code ∷ [])
          ∙ ap (λ l. l ++ get_or new code (Number 0) ∷ [])
          (map_same (λ c. get_or new c (Number 0)) (λ c. get_or old c (Number 0)) codes (λ k e lt.
          ap (λ l. get_or l (get_or codes k e) (Number 0)) entered
          ∙ entered_keeps old v (Number 0) (get_or codes k e) (so_far.within k e lt)))
          ∙ ap (λ l. l ++ get_or new code (Number 0) ∷ []) so_far.read
          ∙ ap (λ x. take i values ++ x ∷ []) (get_or_from_slice_get new code v (Number 0) found)
          ∙ sym more;
      within = All-push (λ c. c < length new) codes code
          (λ k e lt. omega (arith, so_far.within k e lt, lengths, new_len)) (slice_get_within new code v found);
      few = omega (arith, lengths, new_len, so_far.few);
    }

-- a value of the list is among the distinct ones
among_distinct : (values : List Value) (p : ℕ) (d : Value) → p < length values
    → list_any (is_same (get_or values p d)) (distinct values) ≡ true
unfolding distinct
among_distinct [] p d within = grind arith
among_distinct (x ∷ values) zero d within = grind (arith, is_itself)
among_distinct (x ∷ values) (suc p) d within = grind (arith, any_kept, value_Decides, flip_false, among_distinct values p d (omega (arith, within)))

-- where a test passes somewhere, the first place at which it does
pub first_found : {X : Type 0} (test : X → Bool) (d : X) (a : ℕ) (xs : List X) → list_any test xs ≡ true → (i : ℕ)
    × (position_from test a xs ≡ Some (a + i)) × (test (get_or xs i d) ≡ true)
first_found test d a [] some = absurd (cc)
first_found {X = X} test d a (x ∷ xs) some = step (test x) refl (first_found test d (a + 1) xs)
  where
    step : (b : Bool) → test x ≡ b → (list_any test xs ≡ true → (i : ℕ)
        × (position_from test (a + 1) xs ≡ Some (a + 1 + i)) × (test (get_or xs i d) ≡ true))
        → (i : ℕ) × (cond (test x) (Some a) (position_from test (a + 1) xs) ≡ Some (a + i))
        × (test (get_or (x ∷ xs) i d) ≡ true)
    step true is rest = let here : a ≡ a + 0 = omega arith in
        (0, ap (λ b. cond b (Some a) (position_from test (a + 1) xs)) is ∙ ap Some here, is)
    step false is rest =
        let later = rest (ap (λ b. b || list_any test xs) (sym is) ∙ some) in
        let next : a + 1 + later.0 ≡ a + suc later.0 = omega arith in
        (suc later.0, ap (λ b. cond b (Some a) (position_from test (a + 1) xs)) is ∙ later.1 ∙ ap Some next, later.2)

-- a code read back is the value
pub read_back : (values : List Value) (p : ℕ) → p < length values
    → get_or (distinct values) (get_or (codes_of values) p 0) (Number 0) ≡ get_or values p (Number 0)
read_back values p within =
    let v : Value = get_or values p (Number 0) in
    let found = first_found (is_same v) (Number 0) 0 (distinct values) (among_distinct values p (Number 0) within) in
    let start : 0 + found.0 ≡ found.0 = omega arith in
    let code : get_or (codes_of values) p 0 ≡ found.0 =
    get_or-map (code_in (distinct values)) values p (Number 0) 0 within
    ∙ ap (λ o. unwrap_or o 0) (position_from-zero (is_same v) (distinct values) ∙ found.1) ∙ start in
    ap (λ k. get_or (distinct values) k (Number 0)) code
    ∙ sym ((value_Decides v (get_or (distinct values) found.0 (Number 0))).0 found.2)

-- rows have the same code where they have the same value
pub same_codes : (values : List Value) (p q : ℕ) → p < length values → q < length values
    → nat_eq (get_or (codes_of values) q 0) (get_or (codes_of values) p 0) ≡ is_same (get_or values p (Number 0))
    (get_or values q (Number 0))
same_codes values p q at_p at_q = grind (arith, get_or-map, value_Decides, eq-eqb, ne_eqb, read_back)
