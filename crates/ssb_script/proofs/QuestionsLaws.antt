-- What is known of a script of questions alone while it is read.
use Rattle.std.proofs.Common.{◌≡◌, ◌∙◌, ◌⊎◌, ◌≤◌, ◌+◌, ◌++◌, ◌∷◌, ℕ, [], List, Option, Some, None, Result, Ok, Err}
use Rattle.std.proofs.Common.{length, true, false, refl, sym, ap, subst, inl, inr, Bool, option_map, if◌then◌else◌}
use Rattle.std.proofs.Common.{append_assoc, append-nil, arith}
use Rattle.std.specs.List.{AllZip}
use Rattle.std.specs.Result.{IfOk, IfErr}
use Rattle.std.proofs.lemmas.List.{length_push}
use Rattle.csv.specs.declared.reader.Reader.{Reader}
use Rattle.ssb_schema.specs.Columns as columns
use Rattle.ssb_questions.specs.declared.query.Query.{Query as Named}
use Rattle.ssb_questions.specs.declared.value.Value.{Value}
use Rattle.ssb_text.specs.Records.{GivesNext, HasGiven, HasRecords}
use Rattle.ssb_text.specs.declared.error.LineFault.{LineFault}
use Rattle.ssb_text.specs.declared.error.LineFault.TheVariants as row
use Rattle.ssb_script.specs.Lines.{ScriptLine, is_query, is_sql, key_of, line_after, line_of, line_or_bad}
use Rattle.ssb_script.specs.Lines.{line_or_refusal, question_at, sql_of, word_of}
use Rattle.ssb_script.specs.Lines as line
use Rattle.ssb_script.specs.Questions.{AsksAlone, AsksNone, HasNone, IsAskedBy, IsFirstOther, IsFirstRefused}
use Rattle.ssb_script.specs.Questions.{IsNoStatement, IsOneTooMany, IsQuestionsFault, IsRecordFault, StandsBehind, asked_so}
use Rattle.ssb_script.specs.Questions.{most_alone, questions_of}
use Rattle.ssb_script.specs.Requests.{questions_in}
use Rattle.ssb_script.specs.declared.control.OrderOpening.TheVariants.{Add, Amend, Put}
use Rattle.ssb_script.specs.declared.questions.QuestionsError.{QuestionsError}
use Rattle.ssb_script.specs.declared.questions.QuestionsError.TheVariants as error
use Rattle.ssb_script.specs.declared.request.Asking.{Asking}
use Rattle.ssb_script.specs.declared.word.ScriptWord.{ScriptWord}
use Rattle.ssb_script.specs.declared.word.ScriptWord.TheVariants as word

-- a line that asks nothing, whether a record spells it or not
of_choice : (spells : Bool) (spelled : ScriptLine) → AsksNone (Ok spelled)
    → AsksNone (line_or_bad (if spells then Some spelled else None))
of_choice true spelled none = none
of_choice false spelled none = tt

of_key : (key : Option ℕ) → AsksNone (line_or_bad (option_map line.Withdraw key))
of_key None = tt
of_key (Some key) = tt

of_order : (key : Option ℕ) → AsksNone (line_or_bad (option_map line.Order key))
of_order None = tt
of_order (Some key) = tt

of_row : (values : Result (List columns.Value) LineFault) → AsksNone (line_or_refusal values)
of_row (Ok values) = tt
of_row (Err (row.Refused why)) = tt
of_row (Err row.FieldCount) = tt
of_row (Err (row.NotUtf8 column)) = tt
of_row (Err (row.NotANumber column)) = tt
of_row (Err row.OutOfMemory) = tt

after_query : (spelled : Option ScriptWord) (fields : List (List ℕ)) → is_query spelled ≡ true
    → line_after spelled fields ≡ line_or_bad (option_map line.Query (question_at 1 2 fields))
after_query (Some word.Query) fields is = refl
after_query _ fields is = absurd cc

after_sql : (spelled : Option ScriptWord) (fields : List (List ℕ)) → is_sql spelled ≡ true
    → line_after spelled fields ≡ asked_so (sql_of fields)
after_sql (Some word.Sql) fields is = refl
after_sql _ fields is = absurd cc

after_other : (spelled : Option ScriptWord) (fields : List (List ℕ)) → is_query spelled ≡ false
    → is_sql spelled ≡ false → AsksNone (line_after spelled fields)
after_other None fields is none = tt
after_other (Some word.Query) fields is none = absurd cc
after_other (Some word.Sql) fields is none = absurd cc
after_other (Some word.Begin) fields is none = of_choice _ line.Begin tt
after_other (Some word.Add) fields is none = of_choice _ (line.Open Add) tt
after_other (Some word.Amend) fields is none = of_choice _ (line.Open Amend) tt
after_other (Some word.Put) fields is none = of_choice _ (line.Open Put) tt
after_other (Some word.Line) fields is none = of_row _
after_other (Some word.Withdraw) fields is none = of_key (key_of fields)
after_other (Some word.Commit) fields is none = of_choice _ line.Commit tt
after_other (Some word.Ask) fields is none = of_choice _ line.Ask tt
after_other (Some word.Answer) fields is none = of_choice _ line.Answer tt
after_other (Some word.Order) fields is none = of_order (key_of fields)
after_other (Some word.Abort) fields is none = of_choice _ line.Abort tt

-- a `query` record says the question that stands in its fields, and a `sql` record the statement
pub says_question : (fields : List (List ℕ)) → is_query (word_of fields) ≡ true
    → line_of fields ≡ line_or_bad (option_map line.Query (question_at 1 2 fields))
unfolding line_of
says_question fields is = after_query (word_of fields) fields is

pub says_statement : (fields : List (List ℕ)) → is_sql (word_of fields) ≡ true
    → line_of fields ≡ asked_so (sql_of fields)
unfolding line_of
says_statement fields is = after_sql (word_of fields) fields is

-- any other record asks nothing
pub asks_nothing : (fields : List (List ℕ)) → is_query (word_of fields) ≡ false → is_sql (word_of fields) ≡ false
    → AsksNone (line_of fields)
unfolding line_of
asks_nothing fields is none = after_other (word_of fields) fields is none

zip_push : {A B : Type 0} (R : A → B → Type 0) (xs : List A) (ys : List B) (x : A) (y : B) → AllZip R xs ys → R x y
    → AllZip R (xs ++ x ∷ []) (ys ++ y ∷ [])
zip_push R [] [] x y all one = (one, tt)
zip_push R [] (b ∷ ys) x y all one = absurd all
zip_push R (a ∷ xs) [] x y all one = absurd all
zip_push R (a ∷ xs) (b ∷ ys) x y all one = (all.0, zip_push R xs ys x y all.1 one)

pub zip_length : {A B : Type 0} (R : A → B → Type 0) (xs : List A) (ys : List B) → AllZip R xs ys → length xs ≡ length ys
zip_length R [] [] all = refl
zip_length R [] (b ∷ ys) all = absurd all
zip_length R (a ∷ xs) [] all = absurd all
zip_length R (a ∷ xs) (b ∷ ys) all = omega (arith, zip_length R xs ys all.1)

-- the questions of one record more
questions_push : (asked : List Asking) (asking : Asking)
    → questions_of (asked ++ asking ∷ []) ≡ questions_of asked ++ questions_in asking
questions_push [] asking = append-nil (questions_in asking)
questions_push (first ∷ asked) asking = ap (λ rest. questions_in first ++ rest) (questions_push asked asking)
    ∙ sym (append_assoc (questions_in first) (questions_of asked) (questions_in asking))

-- so many records that a reader has given of a text ask these questions, which are not too many
pub record HasAsked {R : Type 0} (remaining : R → Option (List ℕ)) (text : List ℕ) (reader : Reader R) (count : ℕ)
    (questions : List (Named × List Value)) : Type 0 where
  pub records : List (List (List ℕ))
  pub given : HasGiven remaining text reader records
  pub many : length records ≡ count
  pub asked : List Asking
  pub each : AllZip IsAskedBy records asked
  pub are : questions ≡ questions_of asked
  pub few : length questions ≤ most_alone

-- the same, of whatever text is known
abbrev pub HasAskedKnown : {R : Type 0} → (R → Option (List ℕ)) → Option (List ℕ) → Reader R → ℕ
    → List (Named × List Value) → Type 0
HasAskedKnown remaining known reader count questions =
    (text : List ℕ) → known ≡ Some text → HasAsked remaining text reader count questions

-- at the start nothing was read
pub asked_nothing : {R : Type 0} (remaining : R → Option (List ℕ)) (text : List ℕ) (reader : Reader R)
    → HasGiven remaining text reader [] → HasAsked remaining text reader 0 []
asked_nothing remaining text reader given = record {
  records = [];
  given = given;
  many = refl;
  asked = [];
  each = tt;
  are = refl;
  few = omega arith;
}

-- one record more asks this
pub asked_more : {R : Type 0} (remaining : R → Option (List ℕ)) (text : List ℕ) (old new : Reader R) (count : ℕ)
    (questions : List (Named × List Value)) (fields : List (List ℕ)) (asking : Asking)
    → HasAsked remaining text old count questions → GivesNext remaining old new true fields → IsAskedBy fields asking
    → length (questions ++ questions_in asking) ≤ most_alone
    → HasAsked remaining text new (count + 1) (questions ++ questions_in asking)
asked_more remaining text old new count questions fields asking so_far next asks few = record {
  records = so_far.records ++ fields ∷ [];
  given = next text so_far.records so_far.given;
  many = length_push so_far.records fields ∙ ap (λ n. n + 1) so_far.many;
  asked = so_far.asked ++ asking ∷ [];
  each = zip_push IsAskedBy so_far.records so_far.asked fields asking so_far.each asks;
  are = ap (λ all. all ++ questions_in asking) so_far.are ∙ sym (questions_push so_far.asked asking);
  few = few;
}

-- there was no more record
pub asked_all : {R : Type 0} (remaining : R → Option (List ℕ)) (text : List ℕ) (old new : Reader R) (count : ℕ)
    (questions : List (Named × List Value)) (fields : List (List ℕ))
    → HasAsked remaining text old count questions → GivesNext remaining old new false fields
    → 1 ≤ count → count ≤ most_alone → AsksAlone text questions
asked_all remaining text old new count questions fields so_far next some most =
    let many : length so_far.asked ≡ count =
    sym (zip_length IsAskedBy so_far.records so_far.asked so_far.each) ∙ so_far.many in
    record {
      asked = so_far.asked;
      each = record {
        records = so_far.records;
        all = next text so_far.records so_far.given;
        each = so_far.each;
        some = omega (arith, many, some);
        count = omega (arith, many, most);
        few = subst (λ (all : List (Named × List Value)). length all ≤ most_alone) so_far.are so_far.few;
      };
      questions_are = so_far.are;
    }

-- one more record was read behind those that ask this
stands : {R : Type 0} (remaining : R → Option (List ℕ)) (text : List ℕ) (old new : Reader R) (count : ℕ)
    (questions : List (Named × List Value)) (fields : List (List ℕ)) (number : ℕ)
    → (so_far : HasAsked remaining text old count questions) → GivesNext remaining old new true fields
    → number ≡ count + 1 → StandsBehind text number so_far.asked fields
stands remaining text old new count questions fields number so_far next is =
    let given = next text so_far.records so_far.given in
    record {
      before = so_far.records;
      begins = (_, given.unread, given.reached);
      each = so_far.each;
      number_is = is ∙ ap (λ n. n + 1) (sym so_far.many);
    }

-- it asks nothing, or one too many
pub first_other : {R : Type 0} (remaining : R → Option (List ℕ)) (text : List ℕ) (old new : Reader R) (count : ℕ)
    (questions : List (Named × List Value)) (fields : List (List ℕ)) (number : ℕ)
    → (so_far : HasAsked remaining text old count questions) → GivesNext remaining old new true fields
    → number ≡ count + 1
    → AsksNone (line_of fields) ⊎ ((count ≡ most_alone) ⊎ IsOneTooMany questions fields)
    → IsFirstOther text number
first_other remaining text old new count questions fields number so_far next is other =
    let many : length so_far.asked ≡ count =
    sym (zip_length IsAskedBy so_far.records so_far.asked so_far.each) ∙ so_far.many in
    record {
      asked = so_far.asked;
      fields = fields;
      stands = stands remaining text old new count questions fields number so_far next is;
      few = subst (λ (all : List (Named × List Value)). length all ≤ most_alone) so_far.are so_far.few;
      other = elim other [
        | inl none ↦ inl none
        | inr (inl all) ↦ inr (inl (many ∙ all))
        | inr (inr many) ↦ inr (inr (subst (λ all. IsOneTooMany all fields) so_far.are many))
      ];
    }

-- its statement is refused
pub first_refused : {R : Type 0} (remaining : R → Option (List ℕ)) (text : List ℕ) (old new : Reader R) (count : ℕ)
    (questions : List (Named × List Value)) (fields : List (List ℕ)) (number : ℕ)
    → (so_far : HasAsked remaining text old count questions) → GivesNext remaining old new true fields
    → number ≡ count + 1 → IsNoStatement (line_of fields) → IsFirstRefused text number
first_refused remaining text old new count questions fields number so_far next is refused = record {
  asked = so_far.asked;
  fields = fields;
  stands = stands remaining text old new count questions fields number so_far next is;
  is = refused;
}

no_records : (records : List (List (List ℕ))) → length records ≡ 0 → records ≡ []
no_records [] none = refl
no_records (fields ∷ records) none = absurd (omega (arith, none))

-- there was no record at all
pub asked_none : {R : Type 0} (remaining : R → Option (List ℕ)) (text : List ℕ) (old new : Reader R) (count : ℕ)
    (questions : List (Named × List Value)) (fields : List (List ℕ))
    → HasAsked remaining text old count questions → GivesNext remaining old new false fields → count ≡ 0
    → HasNone text 1
asked_none remaining text old new count questions fields so_far next none = record {
  all = subst (HasRecords text) (no_records so_far.records (so_far.many ∙ none))
      (next text so_far.records so_far.given);
  number_is = refl;
}

-- what the reading gives where there is no more record
pub asked_whole : {R V : Type 0} (remaining : R → Option (List ℕ)) (known : Option (List ℕ)) (old new : Reader R)
    (count : ℕ) (items : V → List (Named × List Value)) (questions : List (Named × List Value))
    (fields : List (List ℕ)) (result : Result V QuestionsError)
    → HasAskedKnown remaining known old count questions → GivesNext remaining old new false fields
    → count ≤ most_alone
    → IfOk result (λ some. (items some ≡ questions) × (1 ≤ count))
    → IfOk result (λ some. (text : List ℕ) → known ≡ Some text → AsksAlone text (items some))
asked_whole remaining known old new count items questions fields (Ok some) so_far next few made = λ text is.
    rw made.0 (asked_all remaining text old new count questions fields (so_far text is) next made.1 few)
asked_whole remaining known old new count items questions fields (Err e) so_far next few made = tt

pub asked_never : {R V : Type 0} (remaining : R → Option (List ℕ)) (known : Option (List ℕ)) (old new : Reader R)
    (count : ℕ) (questions : List (Named × List Value)) (fields : List (List ℕ)) (result : Result V QuestionsError)
    → HasAskedKnown remaining known old count questions → GivesNext remaining old new false fields
    → IfErr result (λ e. (count ≡ 0) × (e ≡ error.NotAQuestion 1))
    → IfErr result (λ e. (text : List ℕ) → known ≡ Some text → IsQuestionsFault text e)
asked_never remaining known old new count questions fields (Ok some) so_far next told = tt
asked_never remaining known old new count questions fields (Err e) so_far next told = λ text is.
    rw told.1 (inr (asked_none remaining text old new count questions fields (so_far text is) next told.0))

-- one more record was read, and it has a fault
pub record_fault : {R : Type 0} (remaining : R → Option (List ℕ)) (known : Option (List ℕ)) (old new : Reader R)
    (count : ℕ) (questions : List (Named × List Value)) (fields : List (List ℕ)) (e : QuestionsError)
    → HasAskedKnown remaining known old count questions → GivesNext remaining old new true fields
    → IsRecordFault (count + 1) questions fields e
    → (text : List ℕ) → known ≡ Some text → IsQuestionsFault text e
record_fault remaining known old new count questions fields (error.NotAQuestion number) so_far next (at, inl none) text is =
    inl (first_other remaining text old new count questions fields number (so_far text is) next at (inl none))
record_fault remaining known old new count questions fields (error.NotAQuestion number) so_far next (at, inr many) text is =
    inl (first_other remaining text old new count questions fields number (so_far text is) next at (inr (inr many)))
record_fault remaining known old new count questions fields (error.Sql number why) so_far next fault text is =
    (first_refused remaining text old new count questions fields number (so_far text is) next fault.0 fault.1, fault.2)
record_fault remaining known old new count questions fields error.Read so_far next fault text is = tt
record_fault remaining known old new count questions fields error.OutOfMemory so_far next fault text is = tt
