-- A clause of a star question is a text that a table file can hold as it is.
use Rattle.std.proofs.Common.{◌≡◌, ◌∙◌, ℕ, suc, ◌-◌, ◌^◌, Bool, true, false, not, ◌&&◌, cond, nat_eq, nat_le, nat_lt, List, []}
use Rattle.std.proofs.Common.{◌∷◌, ◌++◌, length, drop, Option, Some, None, refl, sym, ap, arith}
use Rattle.std.specs.Prelude.{if◌then◌else◌, IfSome, codes, find, is_some, option_and_then, option_map, slice_get}
use Rattle.std.specs.Char.{is_ascii_digit}
use Rattle.std.specs.Cmp.{first_so, second_so}
use Rattle.std.specs.Cmp.Lexicographic.{pointwise}
use Rattle.std.specs.List.{AllByRecursion, list_all, starts_with}
use Rattle.std.proofs.lemmas.Bool.Decides.{Decides-eqb, nat_tests}
use Rattle.std.proofs.lemmas.Slice.Eq.{bytes_eq-Decides, starts_is}
use Rattle.ssb_schema.specs.Columns.{column_name, ends_in_space, is_plain, is_plain_byte, query_columns}
use Rattle.ssb_schema.specs.Numerals.{number_of}
use Rattle.ssb_schema.specs.declared.column.Column.{Column}
use Rattle.ssb_schema.specs.declared.fault.SchemaFault.{SchemaFault}
use Rattle.ssb_questions.proofs.SomeLaws.{some_and_then, some_map, some_or, some_weaker}
use Rattle.ssb_questions.proofs.StarLaws.{says}
use Rattle.ssb_questions.specs.Clause.{Clause, Sums, GroupsBy, Is, IsNot, FromTo, QuantityIn, DiscountIn, BySum}
use Rattle.ssb_questions.specs.Clause.{clause_of, clause_parted, column_exclusion, column_named, column_test}
use Rattle.ssb_questions.specs.Clause.{exclusion_clause, kind_in, measure_name, measure_named, measures, most_in}
use Rattle.ssb_questions.specs.Clause.{named_clause, number_spelled, number_up_to, parted, range_of, range_spelled}
use Rattle.ssb_questions.specs.Clause.{spelled_as, test_clause}
use Rattle.ssb_questions.specs.Clause.{value_for}
use Rattle.ssb_questions.specs.Clause.{word_clause}
use Rattle.ssb_questions.specs.Clauses.{clause_said}
use Rattle.ssb_questions.specs.Kind.{fits}
use Rattle.ssb_questions.specs.Laws.{IsPlainClause}
use Rattle.ssb_questions.specs.Question.{constants_fault}
use Rattle.ssb_questions.specs.Text.{text_eq}
use Rattle.ssb_questions.specs.declared.kind.ConstantKind.{ConstantKind}
use Rattle.ssb_questions.specs.declared.kind.ConstantKind.TheVariants as kind
use Rattle.ssb_questions.specs.declared.plan.NumberRange.{NumberRange}
use Rattle.ssb_questions.specs.declared.query.Query.TheVariants.{Star}
use Rattle.ssb_questions.specs.declared.value.Value.{Value}
use Rattle.ssb_questions.specs.declared.value.Value.TheVariants as value

abbrev IsPlain : List ℕ → Type 0
IsPlain bytes = is_plain bytes ≡ true

both : (a b : Bool) → a ≡ true → b ≡ true → (a && b) ≡ true
both a b p q = rw (p, q) refl

-- a plain text behind a byte that is no space, or behind any text where it is not empty
later : (b c : ℕ) (rest : List ℕ) → ends_in_space (b ∷ c ∷ rest) ≡ ends_in_space (c ∷ rest)
later b c rest =
    let count : length (b ∷ c ∷ rest) - 1 ≡ suc (length (c ∷ rest) - 1) = omega arith in
    ap (λ n. pointwise nat_eq (32 ∷ []) (drop n (b ∷ c ∷ rest))) count

one_plain : (b : ℕ) → is_plain_byte b ≡ true → nat_eq 32 b ≡ false → IsPlain (b ∷ [])
one_plain b byte other = rw (byte, other) refl

two_plain : (b c : ℕ) (rest : List ℕ) → is_plain_byte b ≡ true → IsPlain (c ∷ rest) → IsPlain (b ∷ c ∷ rest)
two_plain b c rest byte plain = grind (arith, both, later)

behind_mark : (b : ℕ) (bytes : List ℕ) → is_plain_byte b ≡ true → nat_eq 32 b ≡ false → IsPlain bytes
    → IsPlain (b ∷ bytes)
behind_mark b [] byte other plain = one_plain b byte other
behind_mark b (c ∷ rest) byte other plain = two_plain b c rest byte plain

behind_text : (a : List ℕ) (b : ℕ) (rest : List ℕ) → list_all is_plain_byte a ≡ true → IsPlain (b ∷ rest)
    → IsPlain (a ++ b ∷ rest)
behind_text [] b rest all plain = grind arith
behind_text (x ∷ []) b rest all plain = grind (arith, two_plain)
behind_text (x ∷ y ∷ a) b rest all plain = grind (arith, two_plain, behind_text (y ∷ a) b rest (second_so (is_plain_byte x) (list_all is_plain_byte (y ∷ a)) all) plain)

bytes_of : (bytes : List ℕ) → IsPlain bytes → list_all is_plain_byte bytes ≡ true
bytes_of bytes plain = first_so (list_all is_plain_byte bytes) (not (ends_in_space bytes)) plain

-- names and values on both sides of `=`, and values on both sides of `..`
with_equals : (name bytes : List ℕ) → IsPlain name → IsPlain bytes → IsPlain (name ++ 61 ∷ bytes)
with_equals name bytes plain_name plain =
    behind_text name 61 bytes (bytes_of name plain_name) (behind_mark 61 bytes refl refl plain)

with_dots : (from to : List ℕ) → IsPlain from → IsPlain to → IsPlain (from ++ 46 ∷ 46 ∷ to)
with_dots from to plain_from plain =
    behind_text from 46 (46 ∷ to) (bytes_of from plain_from)
    (behind_mark 46 (46 ∷ to) refl refl (behind_mark 46 to refl refl plain))

-- numerals
digit_plain : (c : ℕ) → is_ascii_digit c ≡ true → (is_plain_byte c ≡ true) × (nat_eq 32 c ≡ false)
digit_plain c digit = (grind (arith, nat_tests), grind (arith, nat_tests))

digits_plain : (digits : List ℕ) → list_all is_ascii_digit digits ≡ true → IsPlain digits
digits_plain [] all = grind arith
digits_plain (c ∷ digits) all = grind (arith, digit_plain, behind_mark, digits_plain digits (second_so (is_ascii_digit c) (list_all is_ascii_digit digits) all))

-- a value of which something is told only where a test passes
if_there : {X : Type 0} (b : Bool) (x : X) (Q : Type 0) → (b ≡ true → Q) → IfSome (cond b (Some x) None) (λ _. Q)
if_there true x Q h = h refl
if_there false x Q h = tt

number_plain : (bytes : List ℕ) → IfSome (number_of bytes) (λ _. IsPlain bytes)
number_plain bytes = grind (arith, if_there, nat_lt, digits_plain)

spelled_number_plain : (bytes : List ℕ) → IfSome (number_spelled bytes) (λ _. IsPlain bytes)
spelled_number_plain bytes = grind (arith, some_and_then, nat_lt, some_weaker, if_there, number_plain)

number_up_plain : (most : ℕ) (bytes : List ℕ) → IfSome (number_up_to most bytes) (λ _. IsPlain bytes)
number_up_plain most bytes = grind (arith, some_and_then, nat_le, some_weaker, if_there, number_plain)

-- values
text_plain : (long plain : Bool) (fault other : SchemaFault)
    → not (is_some (if long then Some fault else if not plain then Some other else None)) ≡ true → plain ≡ true
text_plain true plain fault other e = absurd cc
text_plain false true fault other e = refl
text_plain false false fault other e = absurd cc

spelled_plain : (k : ConstantKind) (most : ℕ) (bytes : List ℕ) → IfSome (spelled_as k most bytes) (λ _. IsPlain bytes)
spelled_plain (kind.Text column) most bytes =
    if_there (fits (kind.Text column) (value.Text bytes)) (value.Text bytes) (IsPlain bytes)
    (λ fit. text_plain (nat_lt 64 (length bytes)) (is_plain bytes) _ _ fit)
spelled_plain kind.Number most bytes =
    some_map (λ _. IsPlain bytes) value.Number (number_up_to most bytes) (number_up_plain most bytes)

-- a text is what stands before the mark, the mark, and what stands behind it
abbrev IsJoined : List ℕ → List ℕ → List ℕ × List ℕ → Type 0
IsJoined mark bytes parts = bytes ≡ parts.0 ++ (mark ++ parts.1)

joined : (mark bytes : List ℕ) → IfSome (parted mark bytes) (IsJoined mark bytes)
unfolding parted
joined mark [] = tt
joined mark (b ∷ rest) =
    elim (starts_with nat_eq (b ∷ rest) mark) as (λ t. starts_with nat_eq (b ∷ rest) mark ≡ t
    → IfSome (cond t (Some ([], drop (length mark) (b ∷ rest)))
    (option_map (λ parts. (b ∷ parts.0, parts.1)) (parted mark rest)))
    (IsJoined mark (b ∷ rest))) [
      | true ↦ λ begins. (starts_is Decides-eqb (b ∷ rest) mark (starts_with nat_eq (b ∷ rest) mark) refl).0 begins
      | false ↦ λ _. some_map (IsJoined mark (b ∷ rest)) (λ parts. (b ∷ parts.0, parts.1)) (parted mark rest)
          (some_weaker (IsJoined mark rest) (λ parts. IsJoined mark (b ∷ rest) (b ∷ parts.0, parts.1))
          (λ parts is. ap (λ bytes. b ∷ bytes) is) (parted mark rest) (joined mark rest))
    ] refl

-- what both of two values say
both_plain : {X Y Z : Type 0} (f : X → Y → Z) (first : Option X) (second : Option Y) (P Q R : Type 0)
    → (P → Q → R) → IfSome first (λ _. P) → IfSome second (λ _. Q)
    → IfSome (option_and_then (λ x. option_map (f x) second) first) (λ _. R)
both_plain f None second P Q R h p q = tt
both_plain f (Some x) None P Q R h p q = tt
both_plain f (Some x) (Some y) P Q R h p q = h p q

dotted : (from to bytes : List ℕ) → bytes ≡ from ++ (codes ".." ++ to) → IsPlain from → IsPlain to → IsPlain bytes
dotted from to bytes is plain_from plain_to = ap is_plain is ∙ with_dots from to plain_from plain_to

range_plain : (bytes : List ℕ) (ends : Option (List ℕ × List ℕ))
    → IfSome ends (IsJoined (codes "..") bytes) → IfSome (range_of bytes ends) (λ _. IsPlain bytes)
range_plain bytes None is =
    some_map (λ _. IsPlain bytes) (λ n. record { from = n; to = n }) (number_spelled bytes) (spelled_number_plain bytes)
range_plain bytes (Some ends) is =
    both_plain (λ from to. record { from = from; to = to }) (number_spelled ends.0) (number_spelled ends.1)
    (IsPlain ends.0) (IsPlain ends.1) (IsPlain bytes) (dotted ends.0 ends.1 bytes is) (spelled_number_plain ends.0)
    (spelled_number_plain ends.1)

tested_plain : (column : Column) (bytes : List ℕ) (ends : Option (List ℕ × List ℕ))
    → IfSome ends (IsJoined (codes "..") bytes) → IfSome (column_test column bytes ends) (λ _. IsPlain bytes)
tested_plain column bytes None is =
    some_map (λ _. IsPlain bytes) (Is column) (value_for column bytes)
    (spelled_plain (kind_in column) (most_in column) bytes)
tested_plain column bytes (Some ends) is =
    both_plain (FromTo column) (value_for column ends.0) (value_for column ends.1) (IsPlain ends.0) (IsPlain ends.1)
    (IsPlain bytes) (dotted ends.0 ends.1 bytes is) (spelled_plain (kind_in column) (most_in column) ends.0)
    (spelled_plain (kind_in column) (most_in column) ends.1)

excluded_plain : (column : Column) (bytes : List ℕ) (ends : Option (List ℕ × List ℕ))
    → IfSome (column_exclusion column bytes ends) (λ _. IsPlain bytes)
excluded_plain column bytes None =
    some_map (λ _. IsPlain bytes) (IsNot column) (value_for column bytes)
    (spelled_plain (kind_in column) (most_in column) bytes)
excluded_plain column bytes (Some ends) = tt

-- names
same_plain : (a b : List ℕ) → IsPlain a → text_eq a b ≡ true → IsPlain b
same_plain a b plain same = let is : a ≡ b = (bytes_eq-Decides a b).0 same in ap is_plain (sym is) ∙ plain

found_plain : {X : Type 0} (name : X → List ℕ) (word : List ℕ) (xs : List X) → AllByRecursion (λ x. IsPlain (name x)) xs
    → IfSome (find (λ x. text_eq (name x) word) xs) (λ _. IsPlain word)
found_plain name word [] all = grind arith
found_plain name word (x ∷ xs) all = grind (arith, same_plain, found_plain name word xs all.1)

column_plain : (word : List ℕ) → IfSome (column_named word) (λ _. IsPlain word)
column_plain word = found_plain column_name word query_columns
    (refl, (refl, (refl, (refl, (refl, (refl, (refl, (refl, (refl, (refl, (refl, (refl, (refl, (refl, (refl, (refl, (refl, (refl, (refl, tt)))))))))))))))))))

measure_plain : (word : List ℕ) → IfSome (measure_named word) (λ _. IsPlain word)
measure_plain word = found_plain measure_name word measures
    (refl, (refl, (refl, (refl, (refl, (refl, (refl, tt)))))))

word_plain : (word : List ℕ) → IfSome (word_clause word) (λ _. IsPlain word)
word_plain word =
    some_or (λ _. IsPlain word) (option_map Sums (measure_named word)) (option_map GroupsBy (column_named word))
    (some_map (λ _. IsPlain word) Sums (measure_named word) (measure_plain word))
    (some_map (λ _. IsPlain word) GroupsBy (column_named word) (column_plain word))

-- NAME=VALUE
if_named : {X : Type 0} (b : Bool) (o p : Option X) (Q : Type 0) → (b ≡ true → IfSome o (λ _. Q)) → IfSome p (λ _. Q)
    → IfSome (cond b o p) (λ _. Q)
if_named true o p Q first second = first refl
if_named false o p Q first second = second

abbrev BothPlain : List ℕ → List ℕ → Type 0
BothPlain name bytes = IsPlain name × IsPlain bytes

column_clause_plain : (name bytes : List ℕ)
    → IfSome (option_and_then (λ column. column_test column bytes (parted (codes "..") bytes)) (column_named name))
    (λ _. BothPlain name bytes)
column_clause_plain name bytes =
    let ends = parted (codes "..") bytes in
    some_and_then (λ _. BothPlain name bytes) (λ column. column_test column bytes ends) (column_named name)
    (some_weaker (λ _. IsPlain name) (λ column. IfSome (column_test column bytes ends) (λ _. BothPlain name bytes))
    (λ column plain. some_weaker (λ _. IsPlain bytes) (λ _. BothPlain name bytes) (λ _ own. (plain, own))
    (column_test column bytes ends) (tested_plain column bytes ends (joined (codes "..") bytes)))
    (column_named name) (column_plain name))

range_clause_plain : (says : NumberRange → Clause) (own name bytes : List ℕ) → IsPlain own → text_eq name own ≡ true
    → IfSome (option_map says (range_spelled bytes)) (λ _. BothPlain name bytes)
range_clause_plain says own name bytes plain same =
    let is : name ≡ own = (bytes_eq-Decides name own).0 same in
    let named : IsPlain name = ap is_plain is ∙ plain in
    some_map (λ _. BothPlain name bytes) says (range_spelled bytes)
    (some_weaker (λ _. IsPlain bytes) (λ _. BothPlain name bytes) (λ _ value. (named, value)) (range_spelled bytes)
    (range_plain bytes (parted (codes "..") bytes) (joined (codes "..") bytes)))

test_plain : (name bytes : List ℕ) → IfSome (test_clause name bytes) (λ _. BothPlain name bytes)
test_plain name bytes =
    if_named (text_eq name (codes "LO_QUANTITY")) (option_map QuantityIn (range_spelled bytes))
    (if text_eq name (codes "LO_DISCOUNT") then option_map DiscountIn (range_spelled bytes)
    else option_and_then (λ column. column_test column bytes (parted (codes "..") bytes)) (column_named name))
    (BothPlain name bytes) (range_clause_plain QuantityIn (codes "LO_QUANTITY") name bytes refl)
    (if_named (text_eq name (codes "LO_DISCOUNT")) (option_map DiscountIn (range_spelled bytes))
    (option_and_then (λ column. column_test column bytes (parted (codes "..") bytes)) (column_named name))
    (BothPlain name bytes) (range_clause_plain DiscountIn (codes "LO_DISCOUNT") name bytes refl)
    (column_clause_plain name bytes))

exclusion_plain : (name bytes : List ℕ) → IfSome (exclusion_clause name bytes) (λ _. BothPlain name bytes)
exclusion_plain name bytes =
    let ends = parted (codes "..") bytes in
    some_and_then (λ _. BothPlain name bytes) (λ column. column_exclusion column bytes ends) (column_named name)
    (some_weaker (λ _. IsPlain name) (λ column. IfSome (column_exclusion column bytes ends) (λ _. BothPlain name bytes))
    (λ column plain. some_weaker (λ _. IsPlain bytes) (λ _. BothPlain name bytes) (λ _ own. (plain, own))
    (column_exclusion column bytes ends) (excluded_plain column bytes ends))
    (column_named name) (column_plain name))

named_plain : (name bytes : List ℕ) (parts : Option (List ℕ × List ℕ)) → IfSome parts (IsJoined (codes "!") name)
    → IfSome (named_clause name bytes parts) (λ _. BothPlain name bytes)
named_plain name bytes None is = test_plain name bytes
named_plain name bytes (Some (own, [])) is =
    some_weaker (λ _. BothPlain own bytes) (λ _. BothPlain name bytes)
    (λ _ both. (ap is_plain is ∙ behind_text own 33 [] (bytes_of own both.0) (one_plain 33 refl refl), both.1))
    (exclusion_clause own bytes) (exclusion_plain own bytes)
named_plain name bytes (Some (own, b ∷ rest)) is = tt

parted_plain : (bytes : List ℕ) (parts : Option (List ℕ × List ℕ))
    → IfSome parts (IsJoined (codes "=") bytes) → IfSome (clause_parted bytes parts) (λ _. IsPlain bytes)
parted_plain bytes None is = word_plain bytes
parted_plain bytes (Some parts) is =
    some_weaker (λ _. BothPlain parts.0 parts.1) (λ _. IsPlain bytes)
    (λ _ both. ap is_plain is ∙ with_equals parts.0 parts.1 both.0 both.1)
    (named_clause parts.0 parts.1 (parted (codes "!") parts.0))
    (named_plain parts.0 parts.1 (parted (codes "!") parts.0) (joined (codes "!") parts.0))

clause_plain : (bytes : List ℕ) → IfSome (clause_of bytes) (λ _. IsPlain bytes)
clause_plain bytes =
    if_named (text_eq bytes (codes "ORDER=SUM")) (Some BySum) (clause_parted bytes (parted (codes "=") bytes))
    (IsPlain bytes)
    (λ same. let is : bytes ≡ codes "ORDER=SUM" = (bytes_eq-Decides bytes (codes "ORDER=SUM")).0 same in
    let own : IsPlain (codes "ORDER=SUM") = refl in ap is_plain is ∙ own)
    (parted_plain bytes (parted (codes "=") bytes) (joined (codes "=") bytes))

there : {X : Type 0} (o : Option X) (Q : Type 0) (x : X) → o ≡ Some x → IfSome o (λ _. Q) → Q
there None Q x e some = absurd cc
there (Some y) Q x e some = some

said_plain : (v : Value) (clause : Clause) → clause_said v ≡ Some clause → IsPlainClause v
said_plain (value.Text bytes) clause e =
    (bytes, refl, there (clause_of bytes) (IsPlain bytes) clause e (clause_plain bytes))
said_plain (value.Number n) clause e = absurd cc

all_from_places : {X : Type 0} (P : X → Type 0) (xs : List X) → ((i : ℕ) (x : X) → slice_get xs i ≡ Some x → P x)
    → AllByRecursion P xs
all_from_places P [] h = tt
all_from_places P (x ∷ xs) h = (h 0 x refl, all_from_places P xs (λ i y at. h (suc i) y at))

pub plain_clauses : (constants : List Value) → constants_fault Star constants ≡ None
    → AllByRecursion IsPlainClause constants
plain_clauses constants none = all_from_places IsPlainClause constants
    (λ i v at. let found = says constants none i v at in said_plain v found.0 found.1)
