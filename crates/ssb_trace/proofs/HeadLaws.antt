-- The text of an answer's first record spells the answer's head.
use Rattle.std.proofs.Common.{eq-eqb, ne_eqb, ◌≡◌, ℕ, ◌+◌, ◌≤◌, true, false, List, [], ◌∷◌, ◌++◌, length, map, decimal}
use Rattle.std.proofs.Common.{codes, Option, Some, None, refl, subst, sym, ap, ◌∙◌, append_assoc, arith, inl, inr}
use Rattle.std.specs.List.{AllByRecursion, AllZip, flat_map}
use Rattle.std.specs.Option.{option_and_then}
use Rattle.std.proofs.lemmas.Bool.{cases_Bool}
use Rattle.std.proofs.lemmas.List.{append-nil}
use Rattle.ssb_audit.specs.declared.trace.Told.{Told}
use Rattle.ssb_text.specs.Records.{has_columns}
use Rattle.ssb_text.specs.Spelling.{without_spaces}
use Rattle.ssb_questions.proofs.QuestionLaws.{question_Decides}
use Rattle.ssb_questions.specs.Kind.{constant_kinds}
use Rattle.ssb_questions.specs.Queries.{standard_constants}
use Rattle.ssb_questions.specs.Query.{name_of}
use Rattle.ssb_questions.specs.QuestionEq.{question_eq}
use Rattle.ssb_questions.specs.declared.kind.ConstantKind.{ConstantKind}
use Rattle.ssb_questions.specs.declared.query.Query.{Query}
use Rattle.ssb_questions.specs.declared.query.Query.TheVariants.{Q1_1, Q1_2, Q1_3, Q2_1, Q2_2, Q2_3, Q3_1, Q3_2, Q3_3}
use Rattle.ssb_questions.specs.declared.query.Query.TheVariants.{Q3_4}
use Rattle.ssb_questions.specs.declared.query.Query.TheVariants.{Q4_1, Q4_2, Q4_3, Star}
use Rattle.ssb_questions.specs.declared.value.Value.{Value}
use Rattle.ssb_report.specs.AnswerText.{value_text}
use Rattle.ssb_text.specs.Piece.{after_bar}
use Rattle.ssb_text.specs.Numbers.{line_feed}
use Rattle.ssb_script.specs.Lines.{constants_at, constants_from, constants_given, query_named, taken_by, texts_spelled}
use Rattle.ssb_script.specs.Lines.{without_closing}
use Rattle.ssb_trace.specs.TraceText.{head_text, written_constants}
use Rattle.ssb_text.specs.TableText.{fields_text, record_text}
use Rattle.ssb_trace.specs.Entries.{head_of_told}
use Rattle.ssb_trace.specs.Lines.{Answer, Says, word_of}
use Rattle.ssb_trace.specs.Allowed.{HasAllowedHead, IsAllowedQuestion, IsGroup}
use Rattle.ssb_trace.proofs.ClauseLaws.{IsClause, clauses_kept, clauses_plain, clauses_read, no_closing}
use Rattle.ssb_trace.proofs.ClientLaws.{client_read, client_small}
use Rattle.ssb_text.proofs.NumberTextLaws.{number_kept, number_read}
use Rattle.ssb_text.proofs.RecordTextLaws.{IsPlainField, text_of_record}
use Rattle.ssb_trace.proofs.ValueLaws.{as_many_values, constants_fit, values_plain, values_read}
use Rattle.ssb_trace.proofs.WrittenLaws.{Written, written_as, written_one}

-- the number of columns
pub columns_exact : (count : ℕ) (fields : List (List ℕ)) → length fields ≡ count → has_columns count fields ≡ true
columns_exact count fields many = rw (eq-eqb (length fields) count many) refl

columns-more : (count : ℕ) (fields : List (List ℕ)) → count + 2 ≤ length fields → has_columns count fields ≡ false
columns-more count fields many = grind (arith, ne_eqb)

-- the name of a query
name-kept : (query : Query) → without_spaces (name_of query) ≡ name_of query
unfolding without_spaces
name-kept Q1_1 = refl
name-kept Q1_2 = refl
name-kept Q1_3 = refl
name-kept Q2_1 = refl
name-kept Q2_2 = refl
name-kept Q2_3 = refl
name-kept Q3_1 = refl
name-kept Q3_2 = refl
name-kept Q3_3 = refl
name-kept Q3_4 = refl
name-kept Q4_1 = refl
name-kept Q4_2 = refl
name-kept Q4_3 = refl
name-kept Star = refl

name-plain : (query : Query) → IsPlainField (name_of query)
name-plain Q1_1 = refl
name-plain Q1_2 = refl
name-plain Q1_3 = refl
name-plain Q2_1 = refl
name-plain Q2_2 = refl
name-plain Q2_3 = refl
name-plain Q3_1 = refl
name-plain Q3_2 = refl
name-plain Q3_3 = refl
name-plain Q3_4 = refl
name-plain Q4_1 = refl
name-plain Q4_2 = refl
name-plain Q4_3 = refl
name-plain Star = refl

name-read : (query : Query) → query_named (name_of query) ≡ Some query
name-read Q1_1 = refl
name-read Q1_2 = refl
name-read Q1_3 = refl
name-read Q2_1 = refl
name-read Q2_2 = refl
name-read Q2_3 = refl
name-read Q3_1 = refl
name-read Q3_2 = refl
name-read Q3_3 = refl
name-read Q3_4 = refl
name-read Q4_1 = refl
name-read Q4_2 = refl
name-read Q4_3 = refl
name-read Star = refl

-- no query has a single constant, and `star` has none where none are given
abbrev Several : Query → Option (List ConstantKind) → Type 0
Several query (Some kinds) = 2 ≤ length kinds
Several query None = standard_constants query ≡ []

several : (query : Query) → Several query (constant_kinds query)
several Q1_1 = omega arith
several Q1_2 = omega arith
several Q1_3 = omega arith
several Q2_1 = omega arith
several Q2_2 = omega arith
several Q2_3 = omega arith
several Q3_1 = omega arith
several Q3_2 = omega arith
several Q3_3 = omega arith
several Q3_4 = omega arith
several Q4_1 = omega arith
several Q4_2 = omega arith
several Q4_3 = omega arith
several Star = refl

-- the constants behind five fields: those that are written, or those of the query where none are
module _ (question : Query × List Value) (a b c d e : List ℕ) (allowed : IsAllowedQuestion question) where
  behind : List Value → List (List ℕ)
  behind values = a ∷ b ∷ c ∷ d ∷ e ∷ map value_text values

  standard-own : question_eq question (question.0, standard_constants question.0) ≡ true
      → question.1 ≡ standard_constants question.0
  standard-own standard =
      let same : question ≡ (question.0, standard_constants question.0) =
      (question_Decides question (question.0, standard_constants question.0)).0 standard in
      ap (λ (q : Query × List Value). q.1) same

  written-own : standard_constants question.0 ≡ [] → written_constants question ≡ question.1
  written-own none = elim (cases_Bool (question_eq question (question.0, standard_constants question.0))) [
    | inl standard ↦ rw standard (sym (standard-own standard ∙ none))
    | inr own ↦ rw own refl
  ]

  own-given : (kinds : List ConstantKind) → constant_kinds question.0 ≡ Some kinds
      → constants_given 5 question.0 (Some kinds) (behind question.1) ≡ Some question.1
  unfolding behind
  own-given kinds are =
      let fit : AllZip IsGroup kinds question.1 = constants_fit question kinds are allowed in
      let many : length (map value_text question.1) ≡ length kinds = as_many_values kinds question.1 fit in
      let two : 2 ≤ length kinds = subst (Several question.0) are (several question.0) in
      let fields : List (List ℕ) = a ∷ b ∷ c ∷ d ∷ e ∷ map value_text question.1 in
      let some : has_columns 5 fields ≡ false = columns-more 5 fields (omega (arith, many, two)) in
      let all : has_columns (5 + length kinds) fields ≡ true =
      columns_exact (5 + length kinds) fields (omega (arith, many)) in
      let end : a ∷ b ∷ c ∷ d ∷ e ∷ (map value_text question.1 ++ []) ≡ fields =
      ap (λ more. a ∷ b ∷ c ∷ d ∷ e ∷ more) (append-nil (map value_text question.1)) in
      let read : constants_from 5 kinds fields ≡ Some question.1
      = ap (constants_from 5 kinds) (sym end) ∙ values_read (a ∷ b ∷ c ∷ d ∷ e ∷ []) kinds question.1 [] fit in
      rw (some, all, read) refl

  given-read : (kinds : Option (List ConstantKind)) → constant_kinds question.0 ≡ kinds
      → constants_given 5 question.0 kinds (behind (written_constants question)) ≡ Some question.1
  unfolding behind
  given-read (Some kinds) are = elim (cases_Bool (question_eq question (question.0, standard_constants question.0))) [
    | inl standard ↦ rw standard (ap Some (sym (standard-own standard)))
    | inr own ↦ rw own (own-given kinds are)
  ]
  given-read None are =
      let none : standard_constants question.0 ≡ [] = subst (Several question.0) are (several question.0) in
      let written : written_constants question ≡ question.1 = written-own none in
      let clauses : AllByRecursion IsClause question.1 = clauses_kept question are allowed in
      ap (λ values. texts_spelled (without_closing (map value_text values))) written
      ∙ (ap texts_spelled (no_closing question.1 clauses) ∙ clauses_read question.1 clauses)

constants-read : (question : Query × List Value) (a b c d e : List ℕ) → IsAllowedQuestion question
    → constants_at 5 question.0 (a ∷ b ∷ c ∷ d ∷ e ∷ map value_text (written_constants question)) ≡ Some question.1
unfolding constants_at behind
constants-read question a b c d e allowed =
    ap (option_and_then (taken_by question.0)) (given-read question a b c d e allowed (constant_kinds question.0) refl)
    ∙ rw allowed.taken refl

own-plain : (question : Query × List Value) (kinds : Option (List ConstantKind)) → constant_kinds question.0 ≡ kinds
    → IsAllowedQuestion question → AllByRecursion IsPlainField (map value_text question.1)
own-plain question (Some kinds) are allowed = values_plain kinds question.1 (constants_fit question kinds are allowed)
own-plain question None are allowed = clauses_plain question.1 (clauses_kept question are allowed)

constants-plain : (question : Query × List Value) → IsAllowedQuestion question
    → AllByRecursion IsPlainField (map value_text (written_constants question))
constants-plain question allowed = grind (arith, cases_Bool, own-plain)

-- the fields of the record
head_fields : Told → List (List ℕ)
head_fields told =
    codes "answer" ∷ decimal told.client ∷ decimal told.at ∷ name_of told.question.0 ∷ decimal (length told.rows) ∷ map
    value_text (written_constants told.question)

says-head : (told : Told) → HasAllowedHead told → Says (head_fields told) (Answer (head_of_told told))
unfolding head_fields word_of without_spaces
says-head told allowed =
    rw (
      (number_kept told.client (client_small told.client allowed.client)).kept,
      client_read told.client allowed.client,
      (number_kept told.at allowed.at).kept,
      number_read told.at allowed.at,
      name-kept told.question.0,
      name-read told.question.0,
      constants-read told.question (codes "answer") (decimal told.client) (decimal told.at) (name_of told.question.0)
          (decimal (length told.rows)) allowed.question,
      (number_kept (length told.rows) allowed.count).kept,
      number_read (length told.rows) allowed.count,
    ) refl

-- and their text
bars : (values : List Value) → flat_map (after_bar value_text) values ++ line_feed ≡ fields_text (map value_text values)
bars [] = grind arith
bars (v ∷ values) = grind (arith, append_assoc, bars values)

head-written : (told : Told) → record_text (codes "answer")
    (decimal told.client ∷ decimal told.at ∷ name_of told.question.0 ∷ decimal (length told.rows) ∷ map value_text
    (written_constants told.question)) ≡ head_text told
head-written told = rw (← bars (written_constants told.question)) (simp append_assoc refl)

pub written_head : (told : Told) → HasAllowedHead told → Written (head_text told) (Answer (head_of_told told) ∷ [])
unfolding head_fields
written_head told allowed =
    written_as (text_of_record (head_fields told)) (head_text told) (Answer (head_of_told told) ∷ [])
    (Answer (head_of_told told) ∷ []) (head-written told) refl
    (written_one (head_fields told) (Answer (head_of_told told)) (
      refl,
      refl,
      (
        (number_kept told.client (client_small told.client allowed.client)).plain,
        (
          (number_kept told.at allowed.at).plain,
          (
            name-plain told.question.0,
            (
              (number_kept (length told.rows) allowed.count).plain,
              constants-plain told.question allowed.question,
            ),
          ),
        ),
      ),
    )
    (says-head told allowed))
