-- The text of an answer's row spells the row, and that of an answer its lines.
use Rattle.std.proofs.Common.{◌≡◌, ℕ, ℤ, ◌+◌, true, false, List, [], ◌∷◌, ◌++◌, length, map, codes, Option, Some, None}
use Rattle.std.proofs.Common.{refl, sym, ap, ◌∙◌, append_assoc, length-append, arith}
use Rattle.std.specs.List.{AllByRecursion, flat_map, join_with_byte}
use Rattle.std.proofs.lemmas.Bool.{cases_Bool}
use Rattle.std.proofs.lemmas.List.{append-nil}
use Rattle.ssb_audit.specs.declared.trace.Told.{Told}
use Rattle.ssb_text.specs.Records.{has_columns}
use Rattle.ssb_text.specs.Spelling.{field, without_spaces}
use Rattle.ssb_questions.specs.Query.{sum_first}
use Rattle.ssb_questions.specs.declared.kind.ConstantKind.{ConstantKind}
use Rattle.ssb_questions.specs.declared.query.Query.{Query}
use Rattle.ssb_questions.specs.declared.value.Value.{Value}
use Rattle.ssb_answers.specs.declared.answer.ResultRow.{ResultRow}
use Rattle.ssb_report.specs.AnswerText.{columns_of, row_text, value_text}
use Rattle.ssb_text.specs.Numbers.{line_feed, sum_text}
use Rattle.ssb_script.specs.Lines.{constants_from}
use Rattle.ssb_trace.specs.TraceText.{head_text, told_row_text, told_text}
use Rattle.ssb_text.specs.TableText.{fields_text, record_text}
use Rattle.ssb_trace.specs.Entries.{head_of_told, lines_of_told}
use Rattle.ssb_trace.specs.Lines.{Answer, Row, Says, word_of}
use Rattle.ssb_trace.specs.Rows.{group_kinds, row_of, sum_of}
use Rattle.ssb_trace.specs.Allowed.{IsAllowedRow, IsAllowedSum, IsAllowedTold}
use Rattle.ssb_text.proofs.FieldTextLaws.{IsKept, field_there}
use Rattle.ssb_trace.proofs.HeadLaws.{columns_exact, written_head}
use Rattle.ssb_trace.proofs.SumLaws.{sum_kept, sum_no_null, sum_read}
use Rattle.ssb_text.proofs.RecordTextLaws.{IsPlainField}
use Rattle.ssb_trace.proofs.ValueLaws.{as_many_values, values_plain, values_read}
use Rattle.ssb_trace.proofs.WrittenLaws.{Written, written_as, written_both, written_map, written_one}

-- a row's sum
null-kept : without_spaces (codes "NULL") ≡ codes "NULL"
unfolding without_spaces
null-kept = refl

sum-text-kept : (kinds : List ConstantKind) (sum : Option ℤ) → IsAllowedSum kinds sum → IsKept (sum_text sum)
sum-text-kept kinds None allowed = record { plain = refl; kept = null-kept }
sum-text-kept kinds (Some sum) allowed = sum_kept sum allowed.sfits

sum-text-read : (kinds : List ConstantKind) (sum : Option ℤ) → IsAllowedSum kinds sum
    → sum_of kinds (sum_text sum) ≡ Some sum
sum-text-read kinds None allowed = rw allowed refl
sum-text-read kinds (Some sum) allowed = rw (sum_no_null sum allowed.sfits, sum_read sum allowed.sfits) refl

-- the fields of a row, behind its word
fields-first : (question : Query × List Value) (row : ResultRow) → IsAllowedRow question row
    → sum_first question.0 ≡ true
    → row_of question (codes "row" ∷ sum_text row.sum ∷ map value_text row.groups) ≡ Some row
fields-first question row allowed first =
    let kinds = group_kinds question in
    let fields : List (List ℕ) = codes "row" ∷ sum_text row.sum ∷ map value_text row.groups in
    let many : has_columns (2 + length kinds) fields ≡ true =
    columns_exact (2 + length kinds) fields (omega (arith, as_many_values kinds row.groups allowed.groups)) in
    let end : codes "row" ∷ sum_text row.sum ∷ (map value_text row.groups ++ []) ≡ fields =
    ap (λ more. codes "row" ∷ sum_text row.sum ∷ more) (append-nil (map value_text row.groups)) in
    let groups : constants_from 2 kinds fields ≡ Some row.groups
    = ap (constants_from 2 kinds) (sym end) ∙ values_read (codes "row" ∷ sum_text row.sum ∷ []) kinds row.groups []
    allowed.groups in
    rw (many, first, (sum-text-kept kinds row.sum allowed.sum).kept, sum-text-read kinds row.sum allowed.sum, groups)
    refl

fields-last : (question : Query × List Value) (row : ResultRow) → IsAllowedRow question row
    → sum_first question.0 ≡ false
    → row_of question (codes "row" ∷ (map value_text row.groups ++ sum_text row.sum ∷ [])) ≡ Some row
fields-last question row allowed last =
    let kinds = group_kinds question in
    let fields : List (List ℕ) = codes "row" ∷ (map value_text row.groups ++ sum_text row.sum ∷ []) in
    let count : length (map value_text row.groups) ≡ length kinds = as_many_values kinds row.groups allowed.groups in
    let many : has_columns (2 + length kinds) fields ≡ true
    = columns_exact (2 + length kinds) fields (omega (
      arith,
      count,
      length-append (map value_text row.groups) (sum_text row.sum ∷ []),
    )) in
    let place : length (codes "row" ∷ map value_text row.groups) ≡ 1 + length kinds = omega (arith, count) in
    let sum : field fields (1 + length kinds) ≡ sum_text row.sum
    = ap (field fields) (sym place) ∙ field_there (codes "row" ∷ map value_text row.groups) (sum_text row.sum) []
    (sum-text-kept kinds row.sum allowed.sum) in
    let groups : constants_from 1 kinds fields ≡ Some row.groups =
    values_read (codes "row" ∷ []) kinds row.groups (sum_text row.sum ∷ []) allowed.groups in
    rw (many, last, sum, sum-text-read kinds row.sum allowed.sum, groups) refl

row-read : (question : Query × List Value) (row : ResultRow) → IsAllowedRow question row
    → row_of question (codes "row" ∷ columns_of question.0 row) ≡ Some row
row-read question row allowed = grind (arith, cases_Bool, codes, fields-first, fields-last)

says-row : (question : Query × List Value) (row : ResultRow) → IsAllowedRow question row
    → Says (codes "row" ∷ columns_of question.0 row) (Row question row)
unfolding word_of without_spaces
says-row question row allowed = row-read question row allowed

-- the columns are plain
both-plain : (one other : List (List ℕ)) → AllByRecursion IsPlainField one → AllByRecursion IsPlainField other
    → AllByRecursion IsPlainField (one ++ other)
both-plain [] other a b = b
both-plain (x ∷ one) other a b = (a.0, both-plain one other a.1 b)

columns-plain : (question : Query × List Value) (row : ResultRow) → IsAllowedRow question row
    → AllByRecursion IsPlainField (columns_of question.0 row)
columns-plain question row allowed = grind (arith, values_plain, sum-text-kept, cases_Bool, both-plain)

-- columns joined by bars are fields behind bars
joined : (x : List ℕ) (xs : List (List ℕ)) → 124 ∷ (join_with_byte 124 (x ∷ xs) ++ line_feed) ≡ fields_text (x ∷ xs)
joined x [] = grind arith
joined x (y ∷ xs) = grind (arith, append_assoc, joined y xs)

joined-last : (xs : List (List ℕ)) (y : List ℕ) → 124 ∷ (join_with_byte 124 (xs ++ y ∷ []) ++ line_feed) ≡ fields_text
    (xs ++ y ∷ [])
joined-last [] y = joined y []
joined-last (x ∷ xs) y = joined x (xs ++ y ∷ [])

columns-joined : (query : Query) (row : ResultRow) → 124 ∷ row_text query row ≡ fields_text (columns_of query row)
columns-joined query row = grind (arith, cases_Bool, joined, joined-last)

row-written : (query : Query) (row : ResultRow) → record_text (codes "row") (columns_of query row) ≡ told_row_text query
    row
row-written query row = ap (λ rest. codes "row" ++ rest) (sym (columns-joined query row))

written-row : (question : Query × List Value) (row : ResultRow) → IsAllowedRow question row
    → Written (told_row_text question.0 row) (Row question row ∷ [])
written-row question row allowed =
    let query = question.0 in
    written_as (record_text (codes "row") (columns_of query row)) (told_row_text query row) (Row question row ∷ [])
    (Row question row ∷ []) (row-written query row) refl
    (written_one (codes "row" ∷ columns_of query row) (Row question row)
    (refl, refl, columns-plain question row allowed)
    (says-row question row allowed))

each-row : (question : Query × List Value) (rows : List ResultRow) → AllByRecursion (IsAllowedRow question) rows
    → AllByRecursion (λ row. Written (told_row_text question.0 row) (Row question row ∷ [])) rows
each-row question [] all = tt
each-row question (row ∷ rows) all = (written-row question row all.0, each-row question rows all.1)

pub written_told : (told : Told) → IsAllowedTold told → Written (told_text told) (lines_of_told told)
written_told told allowed =
    let question = told.question in
    written_both (head_text told) (flat_map (told_row_text question.0) told.rows) (Answer (head_of_told told) ∷ [])
    (map (Row question) told.rows)
    (written_head told allowed.head)
    (written_map (told_row_text question.0) (Row question) told.rows (each-row question told.rows allowed.rows))
