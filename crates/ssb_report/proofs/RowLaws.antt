-- The line of a row, in the order in which its parts are written.
use Rattle.std.proofs.Common.{◌≡◌, ℕ, true, false, List, [], ◌∷◌, ◌++◌, map, flat_map, refl, sym, ◌∙◌, ap, append_assoc}
use Rattle.std.proofs.Common.{append-nil}
use Rattle.std.specs.List.{join_with_byte}
use Rattle.ssb_questions.specs.Query.{sum_first}
use Rattle.ssb_questions.specs.declared.query.Query.{Query}
use Rattle.ssb_questions.specs.declared.value.Value.{Value}
use Rattle.ssb_answers.specs.declared.answer.ResultRow.{ResultRow}
use Rattle.ssb_text.specs.Numbers.{line_feed, sum_text}
use Rattle.ssb_report.specs.AnswerText.{value_text, row_text, with_bar}
use Rattle.ssb_text.specs.Piece.{after_bar}

-- a column joined with values behind it
join_after : (column : List ℕ) (values : List Value) → join_with_byte 124 (column ∷ map value_text values) ≡ column
    ++ flat_map (after_bar value_text) values
join_after column [] = sym (append-nil column)
join_after column (value ∷ values) = ap (λ t. column ++ 124 ∷ t) (join_after (value_text value) values)

-- values joined with a column behind them
regroup : (x y z : List ℕ) → x ++ 124 ∷ (y ++ z) ≡ ((x ++ 124 ∷ []) ++ y) ++ z
regroup x y z = sym (append_assoc (x ++ 124 ∷ []) y z ∙ append_assoc x (124 ∷ []) (y ++ z))

join_before : (values : List Value) (column : List ℕ) → join_with_byte 124
    (map value_text values ++ column ∷ []) ≡ flat_map with_bar values ++ column
join_before [] column = refl
join_before (value ∷ []) column = regroup (value_text value) [] column
join_before (value ∷ next ∷ values) column =
    ap (λ t. value_text value ++ 124 ∷ t) (join_before (next ∷ values) column)
    ∙ regroup (value_text value) (flat_map with_bar (next ∷ values)) column

-- a row whose sum stands first
pub row_sum_first : (query : Query) (row : ResultRow) → sum_first query ≡ true
    → row_text query row ≡ ((sum_text row.sum ++ []) ++ flat_map (after_bar value_text) row.groups) ++ (line_feed ++ [])
row_sum_first query row is =
    rw is (ap (λ t. t ++ line_feed) (join_after (sum_text row.sum) row.groups
    ∙ ap (λ t. t ++ flat_map (after_bar value_text) row.groups) (sym (append-nil (sum_text row.sum)))))

-- a row whose sum stands last
pub row_sum_last : (query : Query) (row : ResultRow) → sum_first query ≡ false
    → row_text query row ≡ flat_map with_bar row.groups ++ (sum_text row.sum ++ (line_feed ++ []))
row_sum_last query row is =
    rw is (ap (λ t. t ++ line_feed) (join_before row.groups (sum_text row.sum))
    ∙ append_assoc (flat_map with_bar row.groups) (sum_text row.sum) line_feed)
