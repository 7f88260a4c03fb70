-- The number of a newer form is read back from the first line of its head.
use Rattle.std.proofs.Common.{◌≡◌, ◌⊎◌, ℕ, zero, suc, ◌+◌, ◌<◌, ◌^◌, true, false, nat_eq, List, [], ◌∷◌, ◌++◌, length, get_or, take}
use Rattle.std.proofs.Common.{drop, Option, None, Some, inl, inr, refl, sym, ◌∙◌, ap, subst, arith, append_assoc, take-append-drop}
use Rattle.std.specs.Prelude.{codes, decimal}
use Rattle.std.specs.Char.{is_ascii_digit}
use Rattle.std.specs.List.{list_all, starts_with}
use Rattle.std.proofs.lemmas.Bool.{both_ways, cases_order}
use Rattle.std.proofs.lemmas.Bool.Decides.{Decides-eqb}
use Rattle.std.proofs.lemmas.Fmt.{decimal_digit}
use Rattle.std.proofs.lemmas.List.{drop_more, length-append}
use Rattle.std.proofs.lemmas.Slice.Eq.{starts_is}
use Rattle.std.proofs.Math.ListN.{get_or-append}
use Rattle.std.proofs.Math.Seq.{get_or-append_seam, take-append_seam}
use Rattle.memchr.specs.Find.{IsFirstByte, is_byte}
use Rattle.ssb_schema.specs.Numerals.{number_of}
use Rattle.ssb_text.proofs.NumberTextLaws.{all_digits, digit_not, number_read}
use Rattle.ssb_text.proofs.RecordTextLaws.{and-left, and-right}
use Rattle.ssb_journal.specs.Heads.{title, title_of, IsNewer}
use Rattle.ssb_journal.specs.declared.head.HeadForm.{HeadForm}
use Rattle.ssb_journal.specs.declared.head.HeadForm.TheVariants.{Sizes, Checksums}

-- what each title begins with
abbrev pub words : List ℕ
words = codes "ssb_live journal "

abbrev value : Option ℕ → ℕ
value (Some n) = n
value None = 0

pub some_is : (a b : ℕ) → Some a ≡ Some b → a ≡ b
some_is a b same = ap value same

pub none_is : (number : ℕ) → None ≡ Some number → ⊥
none_is number clash = cc

-- a digit ends no line
not_end : (c : ℕ) → is_ascii_digit c ≡ true → is_byte 10 c ≡ true → ⊥
not_end c digit ends = both_ways _ (digit_not c 10 digit (omega arith)) ends

no_end : (ds : List ℕ) (k : ℕ) → list_all is_ascii_digit ds ≡ true → k < length ds → is_byte 10 (get_or ds k 0) ≡ true → ⊥
no_end [] k all inside ends = absurd (omega (arith, inside))
no_end (d ∷ ds) zero all inside ends =
    not_end d (and-left (is_ascii_digit d) (list_all is_ascii_digit ds) all) ends
no_end (d ∷ ds) (suc k) all inside ends =
    no_end ds k (and-right (is_ascii_digit d) (list_all is_ascii_digit ds) all) (omega (arith, inside)) ends

-- the first end of a line stands behind the digits
module _ (ds rest told : List ℕ) (all : list_all is_ascii_digit ds ≡ true) (is : told ≡ ds ++ 10 ∷ rest) where
  end_inside : length ds < length told
  end_inside = omega (arith, ap length is, length-append ds (10 ∷ rest))

  end_here : is_byte 10 (get_or told (length ds) 0) ≡ true
  end_here = ap (λ (l : List ℕ). is_byte 10 (get_or l (length ds) 0)) is ∙ ap (is_byte 10) (get_or-append_seam ds 10 rest 0)

  not_before : (k : ℕ) → k < length ds → is_byte 10 (get_or told k 0) ≡ true → ⊥
  not_before k before ends =
      no_end ds k all before
      (sym (ap (is_byte 10) (ap (λ (l : List ℕ). get_or l k 0) is ∙ get_or-append ds (10 ∷ rest) 0 k before)) ∙ ends)

  end_at : (k : ℕ) → IsFirstByte (is_byte 10) told (Some k)
      → (k ≡ length ds) ⊎ ((k < length ds) ⊎ (length ds < k)) → Some k ≡ Some (length ds)
  end_at k first (inl same) = ap Some same
  end_at k first (inr (inl before)) = absurd (not_before k before first.1)
  end_at k first (inr (inr behind)) = absurd (first.0.before (length ds) (omega arith) behind end_here)

  end_place : (place : Option ℕ) → IsFirstByte (is_byte 10) told place → place ≡ Some (length ds)
  end_place None first = absurd (first (length ds) (omega arith) end_inside end_here)
  end_place (Some k) first = end_at k first (cases_order k (length ds))

-- a line of digits is one, whatever stands behind it
one_line : (ds es rest more : List ℕ) → list_all is_ascii_digit ds ≡ true → list_all is_ascii_digit es ≡ true
    → ds ++ 10 ∷ rest ≡ es ++ 10 ∷ more → ds ≡ es
one_line [] [] rest more all every same = refl
one_line [] (e ∷ es) rest more all every same =
    let head : 10 ≡ e = ap (λ (l : List ℕ). get_or l 0 0) same in
    absurd (not_end e (and-left (is_ascii_digit e) (list_all is_ascii_digit es) every) (ap (is_byte 10) (sym head)))
one_line (d ∷ ds) [] rest more all every same =
    let head : d ≡ 10 = ap (λ (l : List ℕ). get_or l 0 0) same in
    absurd (not_end d (and-left (is_ascii_digit d) (list_all is_ascii_digit ds) all) (ap (is_byte 10) head))
one_line (d ∷ ds) (e ∷ es) rest more all every same =
    let head : d ≡ e = ap (λ (l : List ℕ). get_or l 0 0) same in
    let tail : ds ≡ es = one_line ds es rest more (and-right (is_ascii_digit d) (list_all is_ascii_digit ds) all)
    (and-right (is_ascii_digit e) (list_all is_ascii_digit es) every) (ap (drop 1) same) in
    ap (λ (x : ℕ). x ∷ ds) head ∙ ap (λ (l : List ℕ). e ∷ l) tail

-- what stands behind the words of a newer title
module _ (text : List ℕ) (number : ℕ) (is : IsNewer number text) where
  abbrev behind : List ℕ
  behind = drop (length (title_of number)) text

  parted : text ≡ words ++ (decimal number ++ 10 ∷ behind)
  parted =
      let split : text ≡ title_of number ++ behind = (starts_is Decides-eqb text (title_of number) _ refl).0 is.begins in
      split ∙ append_assoc words (decimal number ++ 10 ∷ []) behind
      ∙ ap (λ (l : List ℕ). words ++ l) (append_assoc (decimal number) (10 ∷ []) behind)

  told_is : (told : List ℕ) → told ≡ drop 17 text → told ≡ decimal number ++ 10 ∷ behind
  told_is told same = same ∙ ap (drop 17) parted

  -- a text that begins with other words has none
  pub no_words : starts_with nat_eq text words ≡ false → ⊥
  no_words not =
      both_ways _ not ((starts_is Decides-eqb text words _ refl).1 (decimal number ++ 10 ∷ behind) parted)

  module _ (told : List ℕ) (same : told ≡ drop 17 text) (place : Option ℕ) (first : IsFirstByte (is_byte 10) told place) where
    placed : place ≡ Some (length (decimal number))
    placed = end_place (decimal number) behind told (all_digits number is.fits) (told_is told same) place first

    -- its line has an end
    pub has_end : place ≡ None → ⊥
    has_end none = none_is (length (decimal number)) (sym none ∙ placed)

    -- and the number before it
    pub digits_are : (digits : List ℕ) (end : ℕ) → place ≡ Some end → digits ≡ take end told → digits ≡ decimal number
    digits_are digits end here cut =
        let far : end ≡ length (decimal number) = ap value (sym here ∙ placed) in
        cut ∙ ap (λ (n : ℕ). take n told) far ∙ ap (take (length (decimal number))) (told_is told same)
        ∙ take-append_seam (decimal number) (10 ∷ behind)

    pub is_read : (digits : List ℕ) (end : ℕ) → place ≡ Some end → digits ≡ take end told → number_of digits ≡ Some number
    is_read digits end here cut = ap number_of (digits_are digits end here cut) ∙ number_read number is.fits

-- a text is of a newer form where its first line has this number
pub newer_text : (text told digits : List ℕ) (place : Option ℕ) (end form : ℕ) → starts_with nat_eq text words ≡ true
    → told ≡ drop 17 text → IsFirstByte (is_byte 10) told place → place ≡ Some end → digits ≡ take end told
    → 2 < form → form < 2 ^ 64 → digits ≡ decimal form → IsNewer form text
newer_text text told digits place end form starts same first here cut newer fits spelled =
    let found = subst (λ (p : Option ℕ). IsFirstByte (is_byte 10) told p) here first in
    let ends : get_or told end 0 ≡ 10 = (Decides-eqb (get_or told end 0) 10).0 found.1 in
    let rest = drop (end + 1) told in
    let cut_at : told ≡ digits ++ 10 ∷ rest =
    sym (take-append-drop end told) ∙ ap (λ (l : List ℕ). take end told ++ l) (drop_more told end 0 found.0.high)
    ∙ ap (λ (c : ℕ). take end told ++ c ∷ rest) ends ∙ ap (λ (l : List ℕ). l ++ 10 ∷ rest) (sym cut) in
    let split : text ≡ words ++ drop 17 text = (starts_is Decides-eqb text words _ refl).0 starts in
    let whole : text ≡ title_of form ++ rest =
    split ∙ ap (λ (l : List ℕ). words ++ l) (sym same ∙ cut_at ∙ ap (λ (l : List ℕ). l ++ 10 ∷ rest) spelled
    ∙ sym (append_assoc (decimal form) (10 ∷ []) rest))
    ∙ sym (append_assoc words (decimal form ++ 10 ∷ []) rest) in
    record {
      newer = newer;
      fits = fits;
      begins = (starts_is Decides-eqb text (title_of form) _ refl).1 rest whole;
    }

-- a known title is that of no newer form
not_newer : (digit c : ℕ) (rest text : List ℕ) (number : ℕ) → digit < 3 → decimal digit ≡ c ∷ []
    → text ≡ words ++ (c ∷ 10 ∷ rest) → IsNewer number text → ⊥
not_newer digit c rest text number low one known is =
    let lines : c ∷ 10 ∷ rest ≡ decimal number ++ 10 ∷ behind text number is =
    ap (drop 17) (sym known ∙ parted text number is) in
    let same : decimal digit ≡ decimal number =
    one_line (decimal digit) (decimal number) rest (behind text number is) (all_digits digit (omega (arith, low)))
    (all_digits number is.fits) (ap (λ (l : List ℕ). l ++ 10 ∷ rest) one ∙ lines) in
    let equal : digit ≡ number =
    ap value (sym (number_read digit (omega (arith, low))) ∙ ap number_of same ∙ number_read number is.fits) in
    omega (arith, equal, low, is.newer)

pub known_is_not_newer : (form : HeadForm) (rest : List ℕ) (number : ℕ) → IsNewer number (title form ++ rest) → ⊥
known_is_not_newer Sizes rest number is = not_newer 1 49 rest _ number (omega arith) (decimal_digit 1 (omega arith)) refl is
known_is_not_newer Checksums rest number is = not_newer 2 50 rest _ number (omega arith) (decimal_digit 2 (omega arith)) refl is
