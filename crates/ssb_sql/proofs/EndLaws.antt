-- Each lexeme has a byte or more, and ends where a text may be cut: behind an ASCII byte, before one, or with the text.
use Rattle.std.proofs.Common.{◌≡◌, refl, sym, subst, arith, ℕ, zero, suc, ◌+◌, ◌-◌, ◌<◌, ◌≤◌, ◌⊎◌, inl, inr}
use Rattle.std.proofs.Common.{Bool, true, false, ◌&&◌, eqb, if◌then◌else◌, List, [], ◌∷◌, length, get_or, drop}
use Rattle.std.proofs.Common.{Option, None, Some, option_map, add-one}
use Rattle.std.proofs.lemmas.Bool.{cond_both, and_parts, cases_eq, eqb-true, not-false, true≢false}
use Rattle.std.proofs.lemmas.Bool.Decides.{nat_tests}
use Rattle.std.proofs.lemmas.Str.{IsCharBoundary-after_ascii}
use Rattle.std.specs.Str.{IsCharBoundary, IsUtf8}
use Rattle.ssb_sql.specs.Lexemes as spec
use Rattle.ssb_sql.specs.declared.lexeme.Class.{Class}
use Rattle.ssb_sql.specs.declared.lexeme.Class.TheVariants as class
use Rattle.ssb_sql.specs.declared.lexeme.Front.{Front}
use Rattle.ssb_sql.specs.declared.lexeme.Lexeme.TheVariants as lexeme

pub record Ends (text : List ℕ) (n : ℕ) : Type 0 where
  pub some : 0 < n
  pub within : n ≤ length text
  pub edge : (n ≡ length text) ⊎ ((get_or text n 0 < 128) ⊎ (get_or text (n - 1) 0 < 128))

pub boundary : (text : List ℕ) (n : ℕ) → IsUtf8 text → Ends text n → IsCharBoundary text n
boundary text n u ends =
    let inside : n ≤ length text = ends.within in
    let some : 0 < n = ends.some in
    elim ends.edge [
      | inl whole ↦ (inside, λ lt big. absurd (omega (arith, lt, whole)))
      | inr near ↦ elim near [
        | inl ahead ↦ (inside, λ lt big. absurd (omega (arith, ahead, big)))
        | inr last ↦
            subst (IsCharBoundary text) (omega arith)
            (IsCharBoundary-after_ascii text (n - 1) u (omega arith) last)
      ]
    ]

abbrev pub Fine : List ℕ → Option Front → Type 0
Fine text None = Unit {0}
Fine text (Some front) = Ends text front.size

-- ---- bytes of a class

within_more : (d : Bool) (n m : ℕ) → n ≤ m → (if d then n + 1 else 0) ≤ m + 1
within_more true n m h = omega arith
within_more false n m h = omega arith

pub run_within : (c : Class) (bytes : List ℕ) → spec.run_len c bytes ≤ length bytes
run_within c [] = omega arith
run_within c (b ∷ bytes) =
    let more = within_more (spec.is_in c b) (spec.run_len c bytes) (length bytes) (run_within c bytes) in omega (arith, more)

first_in : (d : Bool) (n : ℕ) → 0 < (if d then n + 1 else 0) → d ≡ true
first_in true n lt = refl
first_in false n lt = absurd (omega arith)

others_in : (d : Bool) (n k : ℕ) → suc k < (if d then n + 1 else 0) → k < n
others_in true n k lt = omega arith
others_in false n k lt = absurd (omega arith)

run_in : (c : Class) (bytes : List ℕ) (k : ℕ) → k < spec.run_len c bytes → spec.is_in c (get_or bytes k 0) ≡ true
run_in c [] k lt = absurd (omega arith)
run_in c (b ∷ bytes) zero lt = first_in (spec.is_in c b) (spec.run_len c bytes) lt
run_in c (b ∷ bytes) (suc k) lt = run_in c bytes k (others_in (spec.is_in c b) (spec.run_len c bytes) k lt)

stop_at : (c : Class) (b : ℕ) (bytes : List ℕ) (d : Bool) → spec.is_in c b ≡ d
    → (spec.run_len c bytes < length bytes → spec.is_in c (get_or bytes (spec.run_len c bytes) 0) ≡ false)
    → (if d then spec.run_len c bytes + 1 else 0) < length (b ∷ bytes)
    → spec.is_in c (get_or (b ∷ bytes) (if d then spec.run_len c bytes + 1 else 0) 0) ≡ false
stop_at c b bytes true is others lt = rw add-one (others (omega arith))
stop_at c b bytes false is others lt = is

run_stop : (c : Class) (bytes : List ℕ) → spec.run_len c bytes < length bytes
    → spec.is_in c (get_or bytes (spec.run_len c bytes) 0) ≡ false
run_stop c [] lt = absurd (omega arith)
run_stop c (b ∷ bytes) lt = stop_at c b bytes (spec.is_in c b) refl (run_stop c bytes) lt

blank_small : (b : ℕ) → spec.is_in class.Blank b ≡ true → b < 128
blank_small b is = grind (arith, nat_tests)

digit_small : (b : ℕ) → spec.is_in class.Digit b ≡ true → b < 128
digit_small b is = grind (arith, nat_tests)

word_small : (b : ℕ) → spec.is_in class.Word b ≡ true → b < 128
word_small b is = grind (arith, nat_tests)

line_end : (b : ℕ) → spec.is_in class.Line b ≡ false → b ≡ 10
line_end b is = eqb-true b 10 (not-false (eqb b 10) is)

some_in : (d : Bool) (n : ℕ) → d ≡ true → 0 < (if d then n + 1 else 0)
some_in true n is = omega arith
some_in false n is = absurd cc

run_ends : (c : Class) (b : ℕ) (bytes : List ℕ) → ((x : ℕ) → spec.is_in c x ≡ true → x < 128)
    → spec.is_in c b ≡ true → Ends (b ∷ bytes) (spec.run_len c (b ∷ bytes))
run_ends c b bytes small is =
    let some : 0 < spec.run_len c (b ∷ bytes) = some_in (spec.is_in c b) (spec.run_len c bytes) is in
    record {
      some = some;
      within = run_within c (b ∷ bytes);
      edge = inr (inr (small _ (run_in c (b ∷ bytes) (spec.run_len c (b ∷ bytes) - 1) (omega arith))));
    }

-- ---- marks

one_byte : (b : ℕ) (bytes : List ℕ) → b < 128 → Ends (b ∷ bytes) 1
one_byte b bytes small = record { some = omega arith; within = omega arith; edge = inr (inr small) }

two_bytes : (b x : ℕ) (bytes : List ℕ) → x < 128 → spec.begins x bytes ≡ true → Ends (b ∷ bytes) 2
two_bytes b x [] small is = absurd cc
two_bytes b x (y ∷ bytes) small is =
    let same : y ≡ x = eqb-true y x is in
    record { some = omega arith; within = omega arith; edge = inr (inr (omega (arith, same))) }

-- ---- comments and texts

one_more : (o : Option ℕ) (n : ℕ) → option_map (λ k. k + 1) o ≡ Some n → (m : ℕ) × (o ≡ Some m) × (m + 1 ≡ n)
one_more None n is = absurd cc
one_more (Some m) n is = (m, refl, cc)

abbrev EndsBy : ℕ → ℕ → List ℕ → ℕ → Type 0
EndsBy byte prev bytes n = (n ≤ length bytes) × (get_or (prev ∷ bytes) n 0 ≡ byte)

ends_more : (byte prev b : ℕ) (bytes : List ℕ) (m n : ℕ) → m + 1 ≡ n → EndsBy byte b bytes m → EndsBy byte prev (b ∷ bytes) n
ends_more byte prev b bytes m n same ends =
    subst (EndsBy byte prev (b ∷ bytes)) same (omega (arith, ends.0), rw add-one ends.1)

comment_more : (star : Bool) (prev b : ℕ) (bytes : List ℕ) (n : ℕ) (d : Bool) → (star && eqb b 47) ≡ d
    → ((m : ℕ) → spec.comment_len (eqb b 42) bytes ≡ Some m → EndsBy 47 b bytes m)
    → (if d then Some 1 else option_map (λ k. k + 1) (spec.comment_len (eqb b 42) bytes)) ≡ Some n
    → EndsBy 47 prev (b ∷ bytes) n
comment_more star prev b bytes n true d_is others is =
    let last : b ≡ 47 = eqb-true b 47 ((and_parts star (eqb b 47) d_is).1) in
    let one : 1 ≡ n = cc in
    subst (EndsBy 47 prev (b ∷ bytes)) one (omega arith, last)
comment_more star prev b bytes n false d_is others is =
    let more = one_more (spec.comment_len (eqb b 42) bytes) n is in
    ends_more 47 prev b bytes more.0 n more.2 (others more.0 more.1)

comment_ends : (bytes : List ℕ) (star : Bool) (prev n : ℕ) → spec.comment_len star bytes ≡ Some n → EndsBy 47 prev bytes n
comment_ends [] star prev n is = absurd cc
comment_ends (b ∷ bytes) star prev n is =
    comment_more star prev b bytes n (star && eqb b 47) refl (comment_ends bytes (eqb b 42) b) is

quoted_more : (within : Bool) (prev b : ℕ) (bytes : List ℕ) (n : ℕ) (d : Bool) → spec.has_ended within b ≡ d
    → (within ≡ false → prev ≡ 39)
    → ((m : ℕ) → spec.quoted_len (spec.is_within_behind within b) bytes ≡ Some m → EndsBy 39 b bytes m)
    → (if d then Some 0 else option_map (λ k. k + 1) (spec.quoted_len (spec.is_within_behind within b) bytes)) ≡ Some n
    → EndsBy 39 prev (b ∷ bytes) n
quoted_more true prev b bytes n true d_is quote others is = absurd (true≢false (sym d_is))
quoted_more false prev b bytes n true d_is quote others is =
    let none : 0 ≡ n = cc in
    subst (EndsBy 39 prev (b ∷ bytes)) none (omega arith, quote refl)
quoted_more within prev b bytes n false d_is quote others is =
    let more = one_more (spec.quoted_len (spec.is_within_behind within b) bytes) n is in
    ends_more 39 prev b bytes more.0 n more.2 (others more.0 more.1)

behind_quote : (within : Bool) (b : ℕ) → spec.is_within_behind within b ≡ false → b ≡ 39
behind_quote true b is = eqb-true b 39 (not-false (eqb b 39) is)
behind_quote false b is = absurd (true≢false is)

quoted_none : (within : Bool) (prev n : ℕ) → (within ≡ false → prev ≡ 39)
    → (if within then None else Some 0) ≡ Some n → EndsBy 39 prev [] n
quoted_none true prev n quote is = absurd cc
quoted_none false prev n quote is =
    let none : 0 ≡ n = cc in subst (EndsBy 39 prev []) none (omega arith, quote refl)

quoted_ends : (bytes : List ℕ) (within : Bool) (prev n : ℕ) → (within ≡ false → prev ≡ 39)
    → spec.quoted_len within bytes ≡ Some n → EndsBy 39 prev bytes n
quoted_ends [] within prev n quote is = quoted_none within prev n quote is
quoted_ends (b ∷ bytes) within prev n quote is =
    quoted_more within prev b bytes n (spec.has_ended within b) refl quote
    (λ m. quoted_ends bytes (spec.is_within_behind within b) b m (behind_quote within b)) is

-- ---- each lexeme

line_ends : (b : ℕ) (bytes : List ℕ) → Ends (b ∷ bytes) (spec.run_len class.Line bytes + 1)
line_ends b bytes =
    let within = run_within class.Line bytes in
    record {
      some = omega arith;
      within = omega (arith, within);
      edge =
          elim (cases_eq (spec.run_len class.Line bytes) (length bytes)) [
            | inl all ↦ inl (omega (arith, all))
            | inr less ↦
                let stop = line_end _ (run_stop class.Line bytes (omega (arith, within, less))) in
                inr (inl (rw add-one (omega (arith, stop))))
          ];
    }

fine_minus : (b : ℕ) (bytes : List ℕ) → b < 128 → Fine (b ∷ bytes) (spec.minus_at bytes)
fine_minus b bytes small =
    cond_both (spec.begins 45 bytes) _ _ (Fine (b ∷ bytes)) (λ is. line_ends b bytes) (λ is. one_byte b bytes small)

fine_comment : (b c : ℕ) (bytes : List ℕ) (o : Option ℕ) → spec.comment_len false bytes ≡ o
    → Fine (b ∷ c ∷ bytes) (option_map (λ n. record { lexeme = lexeme.Gap; size = n + 2 }) o)
fine_comment b c bytes None is = tt
fine_comment b c bytes (Some n) is =
    let ends = comment_ends bytes false c n is in
    let within : n ≤ length bytes = ends.0 in
    let last : suc n ≡ n + 2 - 1 = omega arith in
    record {
      some = omega arith;
      within = omega arith;
      edge = inr (inr (subst (λ k. get_or (b ∷ c ∷ bytes) k 0 < 128) last (omega (arith, ends.1))));
    }

fine_slash : (b : ℕ) (bytes : List ℕ) → Fine (b ∷ bytes) (spec.slash_at bytes)
fine_slash b [] = tt
fine_slash b (c ∷ bytes) =
    cond_both (eqb c 42) _ _ (Fine (b ∷ c ∷ bytes)) (λ is. fine_comment b c bytes (spec.comment_len false bytes) refl)
    (λ is. tt)

fine_less : (b : ℕ) (bytes : List ℕ) → b < 128 → Fine (b ∷ bytes) (spec.less_at bytes)
fine_less b bytes small =
    cond_both (spec.begins 61 bytes) _ _ (Fine (b ∷ bytes)) (λ is. two_bytes b 61 bytes (omega arith) is)
    (λ other. cond_both (spec.begins 62 bytes) _ _ (Fine (b ∷ bytes)) (λ is. two_bytes b 62 bytes (omega arith) is)
    (λ is. one_byte b bytes small))

fine_greater : (b : ℕ) (bytes : List ℕ) → b < 128 → Fine (b ∷ bytes) (spec.greater_at bytes)
fine_greater b bytes small =
    cond_both (spec.begins 61 bytes) _ _ (Fine (b ∷ bytes)) (λ is. two_bytes b 61 bytes (omega arith) is)
    (λ is. one_byte b bytes small)

fine_not : (b : ℕ) (bytes : List ℕ) → Fine (b ∷ bytes) (spec.not_at bytes)
fine_not b bytes =
    cond_both (spec.begins 61 bytes) _ _ (Fine (b ∷ bytes)) (λ is. two_bytes b 61 bytes (omega arith) is) (λ is. tt)

fine_quoted : (b : ℕ) (bytes : List ℕ) (o : Option ℕ) → spec.quoted_len true bytes ≡ o
    → Fine (b ∷ bytes) (option_map (λ n. record { lexeme = lexeme.Text; size = n + 1 }) o)
fine_quoted b bytes None is = tt
fine_quoted b bytes (Some n) is =
    let ends = quoted_ends bytes true b n (λ e. absurd (true≢false e)) is in
    let within : n ≤ length bytes = ends.0 in
    let last : n ≡ n + 1 - 1 = omega arith in
    record {
      some = omega arith;
      within = omega arith;
      edge = inr (inr (subst (λ k. get_or (b ∷ bytes) k 0 < 128) last (omega (arith, ends.1))));
    }

small_byte : (b c : ℕ) → c < 128 → eqb b c ≡ true → b < 128
small_byte b c small is = omega (arith, eqb-true b c is)

fine_single : (b : ℕ) (bytes : List ℕ) → Fine (b ∷ bytes) (spec.single b)
fine_single b bytes =
    let P = Fine (b ∷ bytes) in
    let one = λ (c : ℕ) (small : c < 128) (is : eqb b c ≡ true). one_byte b bytes (small_byte b c small is) in
    cond_both (eqb b 40) _ _ P (one 40 (omega arith)) (λ other.
    cond_both (eqb b 41) _ _ P (one 41 (omega arith)) (λ other.
    cond_both (eqb b 44) _ _ P (one 44 (omega arith)) (λ other.
    cond_both (eqb b 59) _ _ P (one 59 (omega arith)) (λ other.
    cond_both (eqb b 42) _ _ P (one 42 (omega arith)) (λ other.
    cond_both (eqb b 61) _ _ P (one 61 (omega arith)) (λ other.
    cond_both (eqb b 46) _ _ P (one 46 (omega arith)) (λ other. tt)))))))

fine_mark : (b : ℕ) (bytes : List ℕ) → Fine (b ∷ bytes) (spec.mark_at b bytes)
fine_mark b bytes =
    let P = Fine (b ∷ bytes) in
    cond_both (eqb b 45) _ _ P (λ is. fine_minus b bytes (small_byte b 45 (omega arith) is)) (λ other.
    cond_both (eqb b 47) _ _ P (λ is. fine_slash b bytes) (λ other.
    cond_both (eqb b 60) _ _ P (λ is. fine_less b bytes (small_byte b 60 (omega arith) is)) (λ other.
    cond_both (eqb b 62) _ _ P (λ is. fine_greater b bytes (small_byte b 62 (omega arith) is)) (λ other.
    cond_both (eqb b 33) _ _ P (λ is. fine_not b bytes) (λ other.
    cond_both (eqb b 39) _ _ P (λ is. fine_quoted b bytes (spec.quoted_len true bytes) refl) (λ other.
    fine_single b bytes))))))

fine_number : (b : ℕ) (bytes : List ℕ) → spec.is_in class.Digit b ≡ true → Fine (b ∷ bytes) (spec.number_at (b ∷ bytes))
fine_number b bytes is =
    cond_both (spec.may_follow_number (drop (spec.run_len class.Digit (b ∷ bytes)) (b ∷ bytes))) _ _ (Fine (b ∷ bytes))
    (λ ends. run_ends class.Digit b bytes digit_small is) (λ other. tt)

front_fine : (text : List ℕ) → Fine text (spec.front_of text)
front_fine [] = tt
front_fine (b ∷ bytes) =
    let P = Fine (b ∷ bytes) in
    cond_both (spec.is_in class.Blank b) _ _ P (λ is. run_ends class.Blank b bytes blank_small is) (λ other.
    cond_both (spec.is_in class.Digit b) _ _ P (λ is. fine_number b bytes is) (λ other.
    cond_both (spec.is_in class.Word b) _ _ P (λ is. run_ends class.Word b bytes word_small is) (λ other.
    fine_mark b bytes)))

pub front_ends : (text : List ℕ) (front : Front) → spec.front_of text ≡ Some front → Ends text front.size
front_ends text front is = subst (Fine text) is (front_fine text)
