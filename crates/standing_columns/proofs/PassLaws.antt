-- The rows that passes find, one pass after another, are those of all questions.
use Rattle.std.proofs.Common.{◌≡◌, ℕ, List, ◌++◌, length, map, take, drop, ap, sym, ◌∙◌, append_assoc}
use Rattle.std.proofs.lemmas.List.{map-append, take-append-drop, append-nil, nil_from_length}
use Rattle.ssb_schema.specs.Facts.{facts_of}
use Rattle.ssb_base.specs.Base.{Tables}
use Rattle.ssb_questions.specs.declared.query.Query.{Query}
use Rattle.ssb_questions.specs.declared.value.Value.{Value}
use Rattle.ssb_answers.specs.Answer.{answer_of}
use Rattle.ssb_answers.specs.declared.answer.Rows.{Rows}
use Rattle.row_store.specs.History.{CommitRecord, lines_after}

-- a question with its rows after a history
abbrev pub row_of : Tables → List CommitRecord → Query × List Value → Rows
row_of base history question = record {
  question = question;
  list = answer_of question base.dimensions (facts_of (lines_after base history));
}

module _ {Q R : Type 0} (row : Q → R) where
  -- one pass more
  pub pass_next : (questions rest front back : List Q) (n : ℕ) (rows found more : List R) → front ≡ take n rest
      → back ≡ drop n rest → found ≡ map row front → more ≡ rows ++ found → rows ++ map row rest ≡ map row questions
      → more ++ map row back ≡ map row questions
  pass_next questions rest front back n rows found more fronts backs is grown before =
      let whole : front ++ back ≡ rest = (λ i. fronts i ++ backs i) ∙ take-append-drop n rest in
      let both : found ++ map row back ≡ map row rest =
      ap (λ l. l ++ map row back) is ∙ (sym (map-append row front back) ∙ ap (map row) whole) in
      ap (λ l. l ++ map row back) grown
      ∙ (append_assoc rows found (map row back) ∙ (ap (λ l. rows ++ l) both ∙ before))

  -- no question is left
  pub pass_last : (questions rest : List Q) (rows : List R) → length rest ≡ 0
      → rows ++ map row rest ≡ map row questions → rows ≡ map row questions
  pass_last questions rest rows none is =
      sym (append-nil rows) ∙ (ap (λ l. rows ++ map row l) (sym (nil_from_length rest none)) ∙ is)
