use Rattle.std.proofs.Common.{arith}
-- How the machine of records reads one line.
use Rattle.std.proofs.Common.{◌≡◌, ℕ, Bool, true, false, List, [], ◌∷◌, ◌++◌, Option, Some, None, refl, sym, ap, subst}
use Rattle.std.proofs.Common.{◌∙◌, append_assoc, inl, inr, ◌⊎◌, if◌then◌else◌}
use Rattle.std.specs.Prelude.{◌==◌}
use Rattle.std.specs.List.{AllByRecursion}
use Rattle.std.proofs.lemmas.Bool.{ne_eqb}
use Rattle.std.proofs.lemmas.Bool.Decides.{eqb_tells}
use Rattle.std.proofs.lemmas.Option.{none-some, same_Some}
use Rattle.csv.specs.Machine.{Read, next_record}
use Rattle.csv.specs.Reading.{AreRecords, Reached}
use Rattle.csv.specs.declared.parser.State.{State}
use Rattle.csv.specs.declared.parser.State.TheVariants as st
use Rattle.ssb_text.specs.Records.{record_config}
use Rattle.ssb_text.specs.TextLines.{HasNoLoneReturn, IsLine}

-- a byte that ends no record
abbrev pub IsPlainByte : ℕ → Type 0
IsPlainByte b = ((b == 13) ≡ false) × ((b == 10) ≡ false)

abbrev pub ArePlain : List ℕ → Type 0
ArePlain bytes = AllByRecursion IsPlainByte bytes

-- the fields of a line's content, where so much of the first was read
abbrev pub fields_from : List ℕ → List ℕ → List (List ℕ)
fields_from field [] = field ∷ []
fields_from field (b ∷ content) =
    if b == 124 then field ∷ fields_from [] content else fields_from (field ++ b ∷ []) content

-- the records of a line of that content: none where it is empty
abbrev pub records_in : List ℕ → List (List (List ℕ))
records_in [] = []
records_in (b ∷ content) = fields_from [] (b ∷ content) ∷ []

abbrev next : State → List (List ℕ) → List ℕ → List ℕ → Option Read
next s fields field bytes = next_record record_config s fields field bytes

true_or_false : (b : Bool) → (b ≡ true) ⊎ (b ≡ false)
true_or_false true = inl refl
true_or_false false = inr refl

-- after a bar a field begins as it goes on
start_field : (fields : List (List ℕ)) (b : ℕ) (u : List ℕ)
    → next st.StartField fields [] (b ∷ u) ≡ next st.InField fields [] (b ∷ u)
unfolding next_record
start_field fields b u = refl

start_record : (b : ℕ) (u : List ℕ) → IsPlainByte b → next st.StartRecord [] [] (b ∷ u) ≡ next st.InField [] [] (b ∷ u)
unfolding next_record
start_record b u plain = rw (plain.0, plain.1) refl

bar : (fields : List (List ℕ)) (field u : List ℕ) (b : ℕ) → (b == 124) ≡ true
    → next st.InField fields field (b ∷ u) ≡ next st.StartField (fields ++ field ∷ []) [] u
unfolding next_record
bar fields field u b is = rw is refl

copied : (fields : List (List ℕ)) (field u : List ℕ) (b : ℕ) → (b == 124) ≡ false → IsPlainByte b
    → next st.InField fields field (b ∷ u) ≡ next st.InField fields (field ++ b ∷ []) u
unfolding next_record
copied fields field u b other plain = rw (other, plain.0, plain.1) refl

-- a byte that ends a record in this state
abbrev EndsIn : ℕ → State → Type 0
EndsIn e s = (fields : List (List ℕ)) (field u : List ℕ)
    → next st.InField fields field (e ∷ u) ≡ Some (fields ++ field ∷ [], s, u)

line_feed_ends : EndsIn 10 st.StartRecord
unfolding next_record
line_feed_ends fields field u = refl

return_ends : EndsIn 13 st.AfterCr
unfolding next_record
return_ends fields field u = refl

-- the byte behind a bar: a field begins there, be it the last byte
started : (fields : List (List ℕ)) (content u : List ℕ) (e : ℕ)
    → next st.StartField fields [] (content ++ e ∷ u) ≡ next st.InField fields [] (content ++ e ∷ u)
started fields [] u e = start_field fields e u
started fields (b ∷ content) u e = start_field fields b (content ++ e ∷ u)

chosen-true : {A : Type 0} (b : Bool) (x y : A) → b ≡ true → (if b then x else y) ≡ x
chosen-true b x y is = rw is refl

chosen-false : {A : Type 0} (b : Bool) (x y : A) → b ≡ false → (if b then x else y) ≡ y
chosen-false b x y is = rw is refl

-- the content of a line is read into its fields
content_read : (e : ℕ) (s : State) → EndsIn e s → (fields : List (List ℕ)) (field content u : List ℕ) → ArePlain content
    → next st.InField fields field (content ++ e ∷ u) ≡ Some (fields ++ fields_from field content, s, u)
content_read e s ends fields field [] u plain = ends fields field u
content_read e s ends fields field (b ∷ content) u plain =
    elim (true_or_false (b == 124)) [
      | inl is ↦ bar fields field (content ++ e ∷ u) b is ∙ started (fields ++ field ∷ []) content u e
          ∙ content_read e s ends (fields ++ field ∷ []) [] content u plain.1
          ∙ ap (λ all. Some (all, s, u)) (append_assoc fields (field ∷ []) (fields_from [] content)
          ∙ ap (λ more. fields ++ more) (sym (chosen-true (b == 124) _ _ is)))
      | inr other ↦ copied fields field (content ++ e ∷ u) b other plain.0
          ∙ content_read e s ends fields (field ++ b ∷ []) content u plain.1
          ∙ ap (λ more. Some (fields ++ more, s, u)) (sym (chosen-false (b == 124) _ _ other))
    ]

pub record_read : (e : ℕ) (s : State) → EndsIn e s → (b : ℕ) (content u : List ℕ) → ArePlain (b ∷ content)
    → next st.StartRecord [] [] ((b ∷ content) ++ e ∷ u) ≡ Some (fields_from [] (b ∷ content), s, u)
record_read e s ends b content u plain =
    start_record b (content ++ e ∷ u) plain.0 ∙ content_read e s ends [] [] (b ∷ content) u plain

-- behind CR the LF is skipped, and so is a line of no bytes
after_return : (u : List ℕ) → next st.AfterCr [] [] (10 ∷ u) ≡ next st.StartRecord [] [] u
unfolding next_record
after_return u = refl

pub empty_line : (u : List ℕ) → next st.StartRecord [] [] (10 ∷ u) ≡ next st.StartRecord [] [] u
unfolding next_record
empty_line u = refl

empty_line_return : (u : List ℕ) → next st.StartRecord [] [] (13 ∷ 10 ∷ u) ≡ next st.StartRecord [] [] u
unfolding next_record
empty_line_return u = refl

-- records from a state and bytes on are those from others whose next record is the same
pub same_records : (s t : State) (xs ys : List ℕ) (records : List (List (List ℕ)))
    → next s [] [] xs ≡ next t [] [] ys → AreRecords record_config s xs records → AreRecords record_config t ys records
unfolding Reached
same_records s t xs ys [] same are = grind arith
same_records s t xs ys (r ∷ records) same are = grind arith

-- a line has these records, whatever stands behind it
pub record LineHas (line content : List ℕ) : Type 0 where
  pub plain : ArePlain content
  pub split : (more : List ℕ) (records : List (List (List ℕ))) → AreRecords record_config st.StartRecord (line ++ more) records
      → (behind : List (List (List ℕ))) × (records ≡ records_in content ++ behind)
      × AreRecords record_config st.StartRecord more behind
  pub join : (more : List ℕ) (behind : List (List (List ℕ))) → AreRecords record_config st.StartRecord more behind
      → AreRecords record_config st.StartRecord (line ++ more) (records_in content ++ behind)

-- one record was read, and then those behind it
first_split : (fields : List (List ℕ)) (s t : State) (xs ys more : List ℕ) (records : List (List (List ℕ)))
    → next st.StartRecord [] [] xs ≡ Some (fields, s, ys) → next s [] [] ys ≡ next t [] [] more
    → AreRecords record_config st.StartRecord xs records
    → (behind : List (List (List ℕ))) × (records ≡ fields ∷ behind) × AreRecords record_config t more behind
unfolding Reached
first_split fields s t xs ys more [] read same are =
    let none : next st.StartRecord [] [] xs ≡ None = rw (are.2.0, are.2.1) are.3 in
    absurd (none-some (fields, s, ys) (sym none ∙ read))
first_split fields s t xs ys more (r ∷ records) read same are =
    let p : are.2.0 ≡ (fields, s, ys) = same_Some _ _ (sym are.2.1 ∙ read) in
    let Rest : Read → Type 0 = λ q. Reached record_config q.1 q.2 records are.0 are.1 in (
      records,
      rw (are.2.2, p) refl,
      same_records s t ys more records same
          (are.0, are.1, subst Rest p are.2.3, are.3),
    )

pub first_join : (fields : List (List ℕ)) (s t : State) (xs ys more : List ℕ) (behind : List (List (List ℕ)))
    → next st.StartRecord [] [] xs ≡ Some (fields, s, ys) → next s [] [] ys ≡ next t [] [] more
    → AreRecords record_config t more behind → AreRecords record_config st.StartRecord xs (fields ∷ behind)
unfolding Reached
first_join fields s t xs ys more behind read same are =
    let rest = same_records t s more ys behind (sym same) are in
    (rest.0, rest.1, ((fields, s, ys), read, refl, rest.2), rest.3)

line_feed_line : (content : List ℕ) → ArePlain content → LineHas (content ++ 10 ∷ []) content
line_feed_line [] plain = record {
  plain = plain;
  split = λ more records are.
      (records, refl, same_records st.StartRecord st.StartRecord (10 ∷ more) more records (empty_line more) are);
  join = λ more behind are.
      same_records st.StartRecord st.StartRecord more (10 ∷ more) behind (sym (empty_line more)) are;
}
line_feed_line (b ∷ content) plain = record {
  plain = plain;
  split = λ more records are.
      first_split (fields_from [] (b ∷ content)) st.StartRecord st.StartRecord _ more more records
      (record_read 10 st.StartRecord line_feed_ends b content more plain) refl
      (subst (λ xs. AreRecords record_config st.StartRecord xs records) (append_assoc (b ∷ content) (10 ∷ []) more) are);
  join = λ more behind are.
      subst (λ xs. AreRecords record_config st.StartRecord xs (records_in (b ∷ content) ++ behind))
      (sym (append_assoc (b ∷ content) (10 ∷ []) more))
      (first_join (fields_from [] (b ∷ content)) st.StartRecord st.StartRecord _ more more behind
      (record_read 10 st.StartRecord line_feed_ends b content more plain) refl are);
}

return_line : (content : List ℕ) → ArePlain content → LineHas (content ++ 13 ∷ 10 ∷ []) content
return_line [] plain = record {
  plain = plain;
  split = λ more records are. (
    records,
    refl,
    same_records st.StartRecord st.StartRecord (13 ∷ 10 ∷ more) more records (empty_line_return more) are,
  );
  join = λ more behind are.
      same_records st.StartRecord st.StartRecord more (13 ∷ 10 ∷ more) behind (sym (empty_line_return more)) are;
}
return_line (b ∷ content) plain = record {
  plain = plain;
  split = λ more records are.
      first_split (fields_from [] (b ∷ content)) st.AfterCr st.StartRecord _ (10 ∷ more) more records
      (record_read 13 st.AfterCr return_ends b content (10 ∷ more) plain) (after_return more)
      (subst (λ xs. AreRecords record_config st.StartRecord xs records)
      (append_assoc (b ∷ content) (13 ∷ 10 ∷ []) more) are);
  join = λ more behind are.
      subst (λ xs. AreRecords record_config st.StartRecord xs (records_in (b ∷ content) ++ behind))
      (sym (append_assoc (b ∷ content) (13 ∷ 10 ∷ []) more))
      (first_join (fields_from [] (b ∷ content)) st.AfterCr st.StartRecord _ (10 ∷ more) more behind
      (record_read 13 st.AfterCr return_ends b content (10 ∷ more) plain) (after_return more) are);
}

-- a line is its content, and LF or CR LF
pub record Ended (line content : List ℕ) : Type 0 where
  pub plain : ArePlain content
  pub ends : (line ≡ content ++ 10 ∷ []) ⊎ (line ≡ content ++ 13 ∷ 10 ∷ [])

pub line_has : (line content : List ℕ) → Ended line content → LineHas line content
line_has line content is = grind (arith, LineHas, line_feed_line, return_line)

ended_more : (b : ℕ) (line content : List ℕ) → IsPlainByte b → Ended line content → Ended (b ∷ line) (b ∷ content)
ended_more b line content plain is = grind arith

return_first : (b c : ℕ) (rest : List ℕ) → b ≡ 13 → c ≡ 10 → IsLine (c ∷ rest) → Ended (b ∷ c ∷ rest) []
return_first b c [] is next line = record { plain = tt; ends = inr cc }
return_first b c (d ∷ rest) is next line = absurd (line.0 next)

-- each line has a content, where no CR stands alone
pub line_ended : (line : List ℕ) → IsLine line → HasNoLoneReturn line → (content : List ℕ) × Ended line content
line_ended [] line none = absurd line
line_ended (b ∷ []) line none = ([], record { plain = tt; ends = inl (ap (λ x. x ∷ []) line) })
line_ended (b ∷ c ∷ rest) line none =
    let later = line_ended (c ∷ rest) line.1 none.1 in
    elim (eqb_tells b 13) [
      | inl is ↦ ([], return_first b c rest is.1 (none.0 is.1) line.1)
      | inr other ↦ (b ∷ later.0, ended_more b (c ∷ rest) later.0 (other.0, ne_eqb b 10 line.0) later.1)
    ]
