-- The questions of a batch, made ready one after another.
use Rattle.std.proofs.Common.{ℕ, ◌≡◌, ◌+◌, ◌<◌, ◌≤◌, List, [], ◌∷◌, ◌++◌, length, get_or, Some, sym, ap, subst, ◌∙◌}
use Rattle.std.proofs.Common.{arith}
use Rattle.std.specs.Prelude.{slice_get}
use Rattle.std.proofs.lemmas.List.{length-map, get_or-map, ext_get_or}
use Rattle.std.proofs.lemmas.Option.{slice_get-get_or}
use Rattle.ssb_base.specs.Base.{Tables, IsSound}
use Rattle.ssb_base.specs.Limits.{most_dimension_rows}
use Rattle.ssb_schema.specs.declared.column.Column.{Column}
use Rattle.ssb_schema.specs.declared.table.Table.TheVariants as table
use Rattle.ssb_questions.specs.declared.query.Query.{Query}
use Rattle.ssb_questions.specs.declared.query.Query.TheVariants.{Q1_1}
use Rattle.ssb_questions.specs.declared.value.Value.{Value}
use Rattle.dimension_index.specs.Values.{values_of}
use Rattle.scan_kernel.specs.declared.masks.Masks.{Masks}
use Rattle.shared_scan.specs.Batch.{IsReady, AreReady, questions_of}
use Rattle.shared_scan.specs.declared.ready.Ready.{Ready}
use Rattle.shared_scan.proofs.EachLaws.{each_more, item_of}

-- no column of a dimension has more values than a dimension may have rows
pub few_values : (base : Tables) → IsSound base → (column : Column) → length (values_of base column) ≤ most_dimension_rows
few_values base sound column = grind (arith, length-map)

-- one question more
pub ready_more : (base : Tables) (masks : Masks) (questions : List (Query × List Value)) (all : List Ready) (n : ℕ)
    (this : Query × List Value) (one : Ready)
    → length all ≡ n → n < length questions → this ≡ get_or questions n this → IsReady base masks n this one
    → ((k : ℕ) (question : Query × List Value) (r : Ready) → k < n → slice_get questions k ≡ Some question
    → IsReady base masks k question (get_or all k r))
    → (k : ℕ) (question : Query × List Value) (r : Ready) → k < n + 1 → slice_get questions k ≡ Some question
    → IsReady base masks k question (get_or (all ++ one ∷ []) k r)
ready_more base masks questions all n this one len below is ready done k question r h at =
    let P : ℕ → Ready → Type 0 = λ j v. (q : Query × List Value) → slice_get questions j ≡ Some q
    → IsReady base masks j q v in
    let found : slice_get questions n ≡ Some this = slice_get-get_or questions n this below ∙ ap Some (sym is) in
    let here : P n one = λ q at_n. subst (λ (v : Query × List Value). IsReady base masks n v one)
    (some_same this q (sym found ∙ at_n)) ready in
    each_more P all n one len here (λ j v less q at_j. done j q v less at_j) k r h question at
  where
    some_same : (a b : Query × List Value) → Some a ≡ Some b → a ≡ b
    some_same a b e = cc

-- any question
no_question : Query × List Value
no_question = (Q1_1, [])

-- what was made ready for each question has that question
pub questions_are : (base : Tables) (masks : Masks) (questions : List (Query × List Value)) (all : List Ready)
    → length all ≡ length questions → AreReady base masks questions all → questions_of all ≡ questions
questions_are base masks questions all len ready =
    ext_get_or no_question (questions_of all) questions (length-map all (λ ready. ready.question) ∙ len) (λ i below.
    let inside : i < length all = omega (arith, below, length-map all (λ ready. ready.question)) in
    let there : i < length questions = omega (arith, inside, len) in
    let r = item_of all i inside in
    get_or-map (λ (ready : Ready). ready.question) all i r no_question inside
    ∙ (ready i (get_or questions i no_question) r (slice_get-get_or questions i no_question there)).question_is)
