-- What files of groups stand for.
use Rattle.std.proofs.Common.{◌≡◌, ◌≢◌, inl, inr, ℕ, zero, suc, ◌+◌, ◌<◌, ◌≤◌, true, false, nat_eq, nat_le, List, []}
use Rattle.std.proofs.Common.{◌∷◌, ◌++◌, length, take, drop, refl, sym, ◌∙◌, ap, subst, arith, append_assoc}
use Rattle.std.proofs.Common.{length-append, length-drop, take-append-drop, Some, None}
use Rattle.std.specs.List.{starts_with}
use Rattle.std.proofs.lemmas.Bool.{cases_Bool, both_ways, and_parts, and_from, and_left, and_right, leb-true, le-leb}
use Rattle.std.proofs.lemmas.Bool.{lt-leb, ne_eqb, cond-true, cond-false}
use Rattle.std.proofs.lemmas.Bool.Decides.{Decides-eqb}
use Rattle.std.proofs.lemmas.List.{append-nil, take_at, drop_at, drop-drop, length-take-le}
use Rattle.std.proofs.lemmas.Slice.Eq.{starts_is}
use Rattle.journal.specs.Groups.{digits, number_from, head, block, blocks, told, is_whole, whole_length, recovered_in}
use Rattle.journal.specs.Groups.{recovered, IsFirst}
use Rattle.journal.proofs.DigitLaws.{length-digits}

-- fifteen digits tell its length
abbrev pub IsTold : List ℕ → Type 0
IsTold group = number_from 0 (digits 15 (length group)) ≡ length group

abbrev pub AllTold : List (List ℕ) → Type 0
AllTold [] = Unit {0}
AllTold (group ∷ groups) = IsTold group × AllTold groups

pub all_told_push : (groups : List (List ℕ)) (group : List ℕ) → AllTold groups → IsTold group → AllTold (groups ++ group ∷ [])
all_told_push [] group told more = (more, tt)
all_told_push (g ∷ groups) group told more = (told.0, all_told_push groups group told.1 more)

pub length-head : (n : ℕ) → length (head n) ≡ 17
unfolding head
length-head n = omega (arith, length-append (digits 15 n) (10 ∷ []), length-digits 15 n)

pub length-block : (group : List ℕ) → length (block group) ≡ 18 + length group
unfolding block
length-block group = omega (arith, length-append (49 ∷ head (length group)) group, length-head (length group))

-- what a head tells
told_head : (n : ℕ) (rest : List ℕ) → told ((49 ∷ head n) ++ rest) ≡ number_from 0 (digits 15 n)
unfolding told head
told_head n rest =
    ap (λ (l : List ℕ). number_from 0 (take 15 l)) (append_assoc (digits 15 n) (10 ∷ []) rest)
    ∙ ap (number_from 0) (take_at (digits 15 n) (10 ∷ rest) 15 (length-digits 15 n))

eighteen : (n : ℕ) → length (49 ∷ head n) ≡ 18
eighteen n = omega (arith, length-head n)

-- a file that begins with a whole group
pub record Whole (file : List ℕ) : Type 0 where
  pub split : file ≡ block (take (told file) (drop 18 file)) ++ drop (18 + told file) file
  pub is_told : IsTold (take (told file) (drop 18 file))
  pub long : 18 + told file ≤ length file

pub whole_parts : (file : List ℕ) → is_whole file ≡ true → Whole file
unfolding is_whole block
whole_parts file whole =
    let n = told file in
    let both = and_parts (starts_with nat_eq file (49 ∷ head n)) (nat_le (18 + n) (length file)) whole in
    let long : 18 + n ≤ length file = leb-true _ _ both.1 in
    let begins : file ≡ (49 ∷ head n) ++ drop (length (49 ∷ head n)) file = (starts_is Decides-eqb file (49 ∷ head n) _ refl).0 both.0 in
    let headed : file ≡ (49 ∷ head n) ++ drop 18 file = begins ∙ ap (λ (k : ℕ). (49 ∷ head n) ++ drop k file) (eighteen n) in
    let group = take n (drop 18 file) in
    let rest = drop (18 + n) file in
    let enough : n ≤ length (drop 18 file) = omega (arith, length-drop 18 file) in
    let size : length group ≡ n = length-take-le n (drop 18 file) enough in
    let parts : drop 18 file ≡ group ++ rest = sym (take-append-drop n (drop 18 file)) ∙ ap (λ (l : List ℕ). group ++ l) (drop-drop n 18 file) in
    let tells : number_from 0 (digits 15 n) ≡ n = sym (told_head n (drop 18 file)) ∙ ap told (sym headed) in
    record {
      split = headed ∙ ap (λ (l : List ℕ). (49 ∷ head n) ++ l) parts ∙ sym (append_assoc (49 ∷ head n) group rest) ∙ ap (λ (k : ℕ). ((49 ∷ head k) ++ group) ++ rest) (sym size);
      is_told = ap (λ (k : ℕ). number_from 0 (digits 15 k)) size ∙ tells ∙ sym size;
      long = long;
    }

-- a group behind an open gate
pub record Block (group rest : List ℕ) : Type 0 where
  pub whole : is_whole (block group ++ rest) ≡ true
  pub group_is : take (told (block group ++ rest)) (drop 18 (block group ++ rest)) ≡ group
  pub rest_is : drop (18 + told (block group ++ rest)) (block group ++ rest) ≡ rest

pub block_parts : (group rest : List ℕ) → IsTold group → Block group rest
unfolding is_whole block
block_parts group rest is_told =
    let n = length group in
    let file = block group ++ rest in
    let headed : file ≡ (49 ∷ head n) ++ (group ++ rest) = append_assoc (49 ∷ head n) group rest in
    let tells : told file ≡ n = ap told headed ∙ told_head n (group ++ rest) ∙ is_told in
    let begins : file ≡ (49 ∷ head (told file)) ++ (group ++ rest) = headed ∙ ap (λ (k : ℕ). (49 ∷ head k) ++ (group ++ rest)) (sym tells) in
    let long : 18 + told file ≤ length file = omega (arith, tells, length-append (block group) rest, length-block group) in
    let behind : drop 18 file ≡ group ++ rest = ap (drop 18) headed ∙ drop_at (49 ∷ head n) (group ++ rest) 18 (eighteen n) in
    let end : length (block group) ≡ 18 + told file = omega (arith, tells, length-block group) in
    record {
      whole = and_from _ _ ((starts_is Decides-eqb file (49 ∷ head (told file)) _ refl).1 (group ++ rest) begins) (le-leb _ _ long);
      group_is = ap (take (told file)) behind ∙ take_at group rest (told file) (sym tells);
      rest_is = drop_at (block group) rest (18 + told file) end;
    }

pub short_none : (file : List ℕ) → length file < 18 → is_whole file ≡ false
unfolding is_whole
short_none file short = let shorter : length file < 18 + told file = omega arith in and_right _ _ (lt-leb _ _ shorter)

-- nor does a closed gate count
pub closed : (gate : ℕ) (rest : List ℕ) → gate ≢ 49 → is_whole (gate ∷ rest) ≡ false
unfolding is_whole
closed gate rest shut = and_left _ _ (and_left _ _ (ne_eqb 49 gate (λ is. shut (sym is))))

step_whole : (n : ℕ) (file : List ℕ) → is_whole file ≡ true → recovered_in (suc n) file ≡ take (told file) (drop 18 file) ∷ recovered_in n (drop (18 + told file) file)
unfolding recovered_in
step_whole n file whole = cond-true _ _ _ whole

step_none : (n : ℕ) (file : List ℕ) → is_whole file ≡ false → recovered_in n file ≡ []
unfolding recovered_in
step_none zero file none = refl
step_none (suc n) file none = cond-false _ _ _ none

same_fuel : (n m : ℕ) (file : List ℕ) → length file ≤ n → length file ≤ m → recovered_in n file ≡ recovered_in m file
same_fuel zero m file short _ = let none = short_none file (omega arith) in step_none zero file none ∙ sym (step_none m file none)
same_fuel (suc n) zero file _ short = let none = short_none file (omega arith) in step_none (suc n) file none ∙ sym (step_none zero file none)
same_fuel (suc n) (suc m) file in_n in_m = elim (cases_Bool (is_whole file)) [
  | inl whole ↦
      let rest = drop (18 + told file) file in
      let size = length-drop (18 + told file) file in
      step_whole n file whole ∙ ap (λ (l : List (List ℕ)). take (told file) (drop 18 file) ∷ l) (same_fuel n m rest (omega arith) (omega arith)) ∙ sym (step_whole m file whole)
  | inr none ↦ step_none (suc n) file none ∙ sym (step_none (suc m) file none)
]

pub recovered-none : (file : List ℕ) → is_whole file ≡ false → recovered file ≡ []
unfolding recovered
recovered-none file none = step_none (length file) file none

pub recovered-whole : (file : List ℕ) → is_whole file ≡ true → recovered file ≡ take (told file) (drop 18 file) ∷ recovered (drop (18 + told file) file)
unfolding recovered
recovered-whole file whole =
    let rest = drop (18 + told file) file in
    let size = length-drop (18 + told file) file in
    same_fuel (length file) (suc (length file)) file (omega arith) (omega arith) ∙ step_whole (length file) file whole
    ∙ ap (λ (l : List (List ℕ)). take (told file) (drop 18 file) ∷ l) (same_fuel (length file) (length rest) rest (omega arith) (omega arith))

recovered-block : (group rest : List ℕ) → IsTold group → recovered (block group ++ rest) ≡ group ∷ recovered rest
recovered-block group rest is_told =
    let b = block_parts group rest is_told in
    recovered-whole (block group ++ rest) b.whole ∙ ap (λ (l : List ℕ). l ∷ recovered (drop (18 + told (block group ++ rest)) (block group ++ rest))) b.group_is ∙ ap (λ (l : List ℕ). group ∷ recovered l) b.rest_is

-- groups behind open gates, and then whatever the rest stands for
pub recovered-blocks : (groups : List (List ℕ)) (rest : List ℕ) → AllTold groups → recovered (blocks groups ++ rest) ≡ groups ++ recovered rest
recovered-blocks [] rest told = refl
recovered-blocks (group ∷ groups) rest told =
    ap recovered (append_assoc (block group) (blocks groups) rest) ∙ recovered-block group (blocks groups ++ rest) told.0
    ∙ ap (λ (l : List (List ℕ)). group ∷ l) (recovered-blocks groups rest told.1)

pub recovered_then_none : (groups : List (List ℕ)) (rest : List ℕ) → AllTold groups → is_whole rest ≡ false → recovered (blocks groups ++ rest) ≡ groups
recovered_then_none groups rest told none =
    recovered-blocks groups rest told ∙ ap (λ (l : List (List ℕ)). groups ++ l) (recovered-none rest none) ∙ append-nil groups

pub blocks-push : (groups : List (List ℕ)) (group : List ℕ) → blocks (groups ++ group ∷ []) ≡ blocks groups ++ block group
blocks-push [] group = append-nil (block group)
blocks-push (g ∷ groups) group = ap (λ (l : List ℕ). block g ++ l) (blocks-push groups group) ∙ sym (append_assoc (block g) (blocks groups) (block group))

-- a file is its groups' blocks, and an end that stands for nothing
pub record Parts (file : List ℕ) : Type 0 where
  pub end : List ℕ
  pub split : file ≡ blocks (recovered file) ++ end
  pub nothing : is_whole end ≡ false
  pub all_told : AllTold (recovered file)

none_parts : (file : List ℕ) → is_whole file ≡ false → Parts file
none_parts file none =
    let no_groups = sym (recovered-none file none) in
    record { end = file; split = ap (λ (l : List (List ℕ)). blocks l ++ file) no_groups; nothing = none; all_told = subst AllTold no_groups tt }

parts_in : (n : ℕ) (file : List ℕ) → length file ≤ n → Parts file
parts_in zero file short = none_parts file (short_none file (omega arith))
parts_in (suc n) file short = elim (cases_Bool (is_whole file)) [
  | inl whole ↦
      let w = whole_parts file whole in
      let group = take (told file) (drop 18 file) in
      let rest = drop (18 + told file) file in
      let size = length-drop (18 + told file) file in
      let more = parts_in n rest (omega arith) in
      let groups = sym (recovered-whole file whole) in
      record {
        end = more.end;
        split = w.split ∙ ap (λ (l : List ℕ). block group ++ l) more.split ∙ sym (append_assoc (block group) (blocks (recovered rest)) more.end) ∙ ap (λ (l : List (List ℕ)). blocks l ++ more.end) groups;
        nothing = more.nothing;
        all_told = subst AllTold groups (w.is_told, more.all_told);
      }
  | inr none ↦ none_parts file none
]

pub parts : (file : List ℕ) → Parts file
parts file = parts_in (length file) file (omega arith)

-- nor does the front of such an end count
pub front_nothing : (n : ℕ) (end : List ℕ) → is_whole end ≡ false → is_whole (take n end) ≡ false
front_nothing n end none = elim (cases_Bool (is_whole (take n end))) [
  | inl whole ↦
      let w = whole_parts (take n end) whole in
      let group = take (told (take n end)) (drop 18 (take n end)) in
      let rest = drop (18 + told (take n end)) (take n end) in
      let split : end ≡ block group ++ (rest ++ drop n end) = sym (take-append-drop n end) ∙ ap (λ (l : List ℕ). l ++ drop n end) w.split ∙ append_assoc (block group) rest (drop n end) in
      absurd (both_ways _ none (ap is_whole split ∙ (block_parts group (rest ++ drop n end) w.is_told).whole))
  | inr shut ↦ shut
]

none_here : (file : List ℕ) → is_whole file ≡ false → None ≡ whole_length file
unfolding whole_length
none_here file none = sym (cond-false _ _ _ none)

pub no_head : (file : List ℕ) → length file < 18 → None ≡ whole_length file
no_head file short = none_here file (short_none file short)

module _ (file bytes : List ℕ) (len : ℕ) (told_is : len ≡ number_from 0 (take 15 (drop 2 file))) (bytes_are : bytes ≡ 49 ∷ head len) where
  told_len : told file ≡ len
  unfolding told
  told_len = sym told_is

  start : starts_with nat_eq file (49 ∷ head (told file)) ≡ starts_with nat_eq file bytes
  start = ap (λ (k : ℕ). starts_with nat_eq file (49 ∷ head k)) told_len ∙ ap (starts_with nat_eq file) (sym bytes_are)

  pub whole_here : starts_with nat_eq file bytes ≡ true → 18 + len ≤ length file → Some len ≡ whole_length file
  unfolding is_whole whole_length
  whole_here starts long = ap (λ (k : ℕ). Some k) (sym told_len) ∙ sym (cond-true _ _ _ (and_from _ _ (start ∙ starts) (le-leb _ _ (omega (arith, told_len)))))

  pub other_head : starts_with nat_eq file bytes ≡ false → None ≡ whole_length file
  unfolding is_whole
  other_head starts = none_here file (and_left _ _ (start ∙ starts))

  pub cut_short : length file < 18 + len → None ≡ whole_length file
  unfolding is_whole
  cut_short short = let shorter : length file < 18 + told file = omega (arith, told_len) in none_here file (and_right _ _ (lt-leb _ _ shorter))

-- what `whole_length` says of a file
pub some_whole : (file : List ℕ) (len : ℕ) → Some len ≡ whole_length file → (is_whole file ≡ true) × (told file ≡ len)
unfolding whole_length
some_whole file len some = elim (cases_Bool (is_whole file)) [
  | inl whole ↦ let same : Some len ≡ Some (told file) = some ∙ cond-true _ _ _ whole in (whole, cc)
  | inr none ↦ let same : Some len ≡ None = some ∙ cond-false _ _ _ none in absurd cc
]

pub none_whole : (file : List ℕ) → None ≡ whole_length file → is_whole file ≡ false
unfolding whole_length
none_whole file is_none = elim (cases_Bool (is_whole file)) [
  | inl whole ↦ let same : None ≡ Some (told file) = is_none ∙ cond-true _ _ _ whole in absurd cc
  | inr none ↦ none
]

-- a reader takes the first group of a file
pub taken : (file group : List ℕ) (len : ℕ) → Some len ≡ whole_length file → group ≡ take len (drop 18 file) → IsFirst file group
taken file group len some is =
    let w = some_whole file len some in
    let parts = whole_parts file w.0 in
    let long : 18 + len ≤ length file = omega (arith, parts.long, w.1) in
    let enough : len ≤ length (drop 18 file) = omega (arith, length-drop 18 file) in
    let size : length group ≡ len = ap length is ∙ length-take-le len (drop 18 file) enough in
    let same : take (told file) (drop 18 file) ≡ group = ap (λ (n : ℕ). take n (drop 18 file)) w.1 ∙ sym is in
    record {
      long = omega (arith, size);
      bytes = parts.split ∙ ap (λ (g : List ℕ). block g ++ drop (18 + told file) file) same
          ∙ ap (λ (n : ℕ). block group ++ drop (18 + n) file) (w.1 ∙ sym size);
      counts = λ rest. recovered-block group rest (subst IsTold same parts.is_told);
    }

pub none_taken : (file : List ℕ) → None ≡ whole_length file → recovered file ≡ []
none_taken file none = recovered-none file (none_whole file none)
