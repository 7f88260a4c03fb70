use Rattle.std.proofs.Common.{arith}
-- The rows that passes find, question by question, are those of the requests.
use Rattle.std.proofs.Common.{◌≡◌, ℕ, ◌+◌, ◌<◌, List, [], ◌∷◌, ◌++◌, length, map, take, drop, get_or, refl, ap, sym}
use Rattle.std.proofs.Common.{◌∙◌, append_assoc, length-append}
use Rattle.std.proofs.lemmas.List.{map-append, length-map, take_at, drop_at, drop_more}
use Rattle.ssb_schema.specs.Facts.{facts_of}
use Rattle.ssb_base.specs.Base.{Tables}
use Rattle.row_store.specs.History.{CommitRecord, lines_after}
use Rattle.ssb_answers.specs.Answer.{answer_of}
use Rattle.ssb_answers.specs.declared.answer.Rows.{Rows}
use Rattle.history_core.specs.Events.{Question, Questions}
use Rattle.history_core.specs.World.{rows_after, all_rows_after}
use Rattle.shared_scan.specs.Answers as scan
use Rattle.ssb_server.specs.declared.passes.RequestRows.{RequestRows}
use Rattle.ssb_server.specs.Passes.{all_questions, request_rows, joined, grouped}
use Rattle.ssb_server.specs.Turns.{answers_after}

module _ (base : Tables) (history : List CommitRecord) where
  abbrev pub row_of : Question → Rows
  row_of question = record {
    question = question;
    list = answer_of question base.dimensions (facts_of (lines_after base history));
  }

  abbrev pub found_for : List Question → List Rows
  found_for questions = scan.answers_after base history questions

  asked_of : (questions : Questions) → map (λ (one : Rows). one.question) (found_for questions) ≡ questions
  asked_of [] = refl
  asked_of (question ∷ questions) = ap (λ l. question ∷ l) (asked_of questions)

  lists_of : (questions : Questions)
      → map (λ (one : Rows). one.list) (found_for questions) ≡ all_rows_after base questions history
  lists_of [] = refl
  lists_of (question ∷ questions) = ap (λ l. rows_after base question history ∷ l) (lists_of questions)

  joined_of : (questions : Questions)
      → joined (found_for questions) ≡ request_rows questions (all_rows_after base questions history)
  joined_of questions = (λ i. request_rows (asked_of questions i) (lists_of questions i))

  -- the rows of the first request, and of the others
  front_of : (questions : Questions) (others : List Question) (rows : List Rows) → rows ≡ found_for (questions ++ others)
      → take (length questions) rows ≡ found_for questions
  front_of questions others rows is =
      ap (take (length questions)) (is ∙ map-append row_of questions others)
      ∙ take_at (found_for questions) (found_for others) (length questions) (length-map questions row_of)

  back_of : (questions : Questions) (others : List Question) (rows : List Rows) → rows ≡ found_for (questions ++ others)
      → drop (length questions) rows ≡ found_for others
  back_of questions others rows is =
      ap (drop (length questions)) (is ∙ map-append row_of questions others)
      ∙ drop_at (found_for questions) (found_for others) (length questions) (length-map questions row_of)

  pub grouped_answers : (requests : List Questions) (rows : List Rows) → rows ≡ found_for (all_questions requests)
      → grouped requests rows ≡ answers_after base history requests
  grouped_answers [] rows is = refl
  grouped_answers (questions ∷ requests) rows is =
      let others : List Question = all_questions requests in
      ap (λ l. joined l ∷ grouped requests (drop (length questions) rows)) (front_of questions others rows is)
      ∙ (ap (λ one. one ∷ grouped requests (drop (length questions) rows)) (joined_of questions)
      ∙ ap (λ l. request_rows questions (all_rows_after base questions history) ∷ l)
      (grouped_answers requests (drop (length questions) rows) (back_of questions others rows is)))

  pub found_count : (questions : List Question) (rows : List Rows) → rows ≡ found_for questions
      → length rows ≡ length questions
  found_count questions rows is = ap length is ∙ length-map questions row_of

-- the requests from a place on
next_request : (requests : List Questions) (k : ℕ) (questions : Questions) → k < length requests
    → questions ≡ get_or requests k questions → drop k requests ≡ questions ∷ drop (k + 1) requests
next_request requests k questions within is =
    drop_more requests k questions within ∙ ap (λ q. q ∷ drop (k + 1) requests) (sym is)

-- one request more is cut off
pub group_next : (requests : List Questions) (k : ℕ) (questions : Questions) (rest own later : List Rows)
    (found more all : List RequestRows) (one : RequestRows) → k < length requests
    → questions ≡ get_or requests k questions → own ≡ take (length questions) rest → later ≡ drop (length questions) rest
    → one ≡ joined own → more ≡ found ++ one ∷ [] → found ++ grouped (drop k requests) rest ≡ all
    → more ++ grouped (drop (k + 1) requests) later ≡ all
group_next requests k questions rest own later found more all one within is front back made grown before = grind (arith, append_assoc, next_request)

pub count_next : (requests : List Questions) (k : ℕ) (questions : Questions) (n : ℕ) → k < length requests
    → questions ≡ get_or requests k questions → n ≡ length (all_questions (drop k requests))
    → n ≡ length questions + length (all_questions (drop (k + 1) requests))
count_next requests k questions n within is count =
    count ∙ (ap (λ l. length (all_questions l)) (next_request requests k questions within is)
    ∙ length-append questions (all_questions (drop (k + 1) requests)))
