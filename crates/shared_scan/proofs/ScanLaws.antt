-- From the totals of a batch over all places to its answers.
use Rattle.std.proofs.Common.{ℕ, ◌≡◌, ◌*◌, ◌^◌, ◌<◌, ◌≤◌, Vec, Global, List, [], ◌∷◌, length, map, get_or, Some, Result}
use Rattle.std.proofs.Common.{Ok, Err, IfOk, refl, sym, ap, ◌∙◌, subst, arith}
use Rattle.std.specs.Prelude.{slice_get}
use Rattle.std.specs.List.{All, range_with_len}
use Rattle.std.proofs.lemmas.List.{length-map, get_or-map, ext_get_or, length-replicate}
use Rattle.std.proofs.lemmas.Option.{slice_get-get_or}
use Rattle.ssb_base.specs.Base.{Tables, IsSound}
use Rattle.ssb_schema.specs.declared.column.Column.{Column}
use Rattle.ssb_questions.specs.declared.plan.Plan.{Plan}
use Rattle.ssb_questions.specs.declared.query.Query.{Query}
use Rattle.ssb_questions.specs.declared.query.Query.TheVariants.{Q1_1}
use Rattle.ssb_questions.specs.declared.value.Value.{Value}
use Rattle.ssb_questions.specs.Queries.{plan_over}
use Rattle.ssb_answers.specs.Answer.{answer_of}
use Rattle.ssb_answers.specs.declared.answer.Rows.{Rows}
use Rattle.ssb_answers.specs.declared.answer.ResultRow.{ResultRow}
use Rattle.ssb_questions.specs.declared.plan.Measure.{Measure}
use Rattle.fact_columns.specs.declared.place.Place.{Place}
use Rattle.fact_columns.specs.Places.{IsWithin, live_facts}
use Rattle.scan_kernel.specs.declared.columns.LineColumns.{LineColumns}
use Rattle.scan_kernel.specs.declared.columns.Grouping.{Grouping}
use Rattle.scan_kernel.specs.declared.masks.Masks.{Masks}
use Rattle.scan_kernel.specs.declared.totals.Totals.{Totals}
use Rattle.scan_kernel.specs.Totals.{CanSum, CanSumAll, AreTotals, AreBatchTotals}
use Rattle.shared_scan.specs.Answers.{answers_over}
use Rattle.shared_scan.specs.Prepared.{AreMasksOf, IsGroupingBy, IsGroupingOf}
use Rattle.shared_scan.specs.declared.parts.Parts.{Parts}
use Rattle.shared_scan.specs.declared.parts.Parts.TheVariants.{Narrow, Wide}
use Rattle.shared_scan.specs.Summed.{AreSummed}
use Rattle.shared_scan.specs.Laws.{AreLinesOf}
use Rattle.shared_scan.specs.Grouped.{ArePrepared}
use Rattle.shared_scan.specs.Batch.{IsReady, AreReady, plans_of, questions_of}
use Rattle.shared_scan.specs.Groupings.{HasParts, IsDenseGrouping, IsGroupingWith, AreReadyGroupings}
use Rattle.shared_scan.specs.TotalRows.{FitsWith, CanAnswer, CanAnswerAll, AreRowsWith, AreBatchRows}
use Rattle.shared_scan.specs.declared.ready.Ready.{Ready}
use Rattle.shared_scan.proofs.EachLaws.{item_of}
use Rattle.shared_scan.proofs.GroupLaws.{dimensions_alone}
use Rattle.shared_scan.proofs.ReadyLaws.{is_grouping, dense_columns, can_group}
use Rattle.ssb_base.specs.Limits.{most_lines}
use Rattle.shared_scan.proofs.TotalLaws.{gains_small, losses_small, summed_answer, summed_totals}

pub if_ok_then : {T E : Type 0} (r : Result T E) (P Q : T → Type 0) → IfOk r P → ((v : T) → P v → Q v) → IfOk r Q
if_ok_then (Ok v) P Q h f = f v h
if_ok_then (Err e) P Q h f = tt

-- there is a place for each customer of the lines
pub line_count : (places : List Place) (lines : LineColumns) → AreLinesOf places lines
    → length lines.customer.now ≡ length places
line_count places lines are = ap length are.customers_are ∙ length-map places (λ place. place.customer)

-- as many group columns are made ready as there are
pub prepared_lengths : (base : Tables) (masks : Masks) (k : ℕ) (groups : List Column) (columns : List (List Value))
    (step : ℕ) (parts : List (List ℕ)) → ArePrepared base masks k groups columns step parts
    → (length columns ≡ length groups) × (length parts ≡ length groups)
prepared_lengths base masks k [] [] step [] h = grind arith
prepared_lengths base masks k [] [] step (p ∷ parts) h = grind arith
prepared_lengths base masks k [] (v ∷ columns) step parts h = grind arith
prepared_lengths base masks k (g ∷ groups) [] step parts h = grind arith
prepared_lengths base masks k (g ∷ groups) (v ∷ columns) step [] h = grind arith
prepared_lengths base masks k (g ∷ groups) (v ∷ columns) step (p ∷ parts) h = grind (arith, prepared_lengths base masks k groups columns (step * length v) parts h.1)

module _ (base : Tables) (masks : Masks) (all : List Ready) (ready : AreReady base masks (questions_of all) all) where
  pub question_at : (k : ℕ) (r : Ready) → k < length all
      → slice_get (questions_of all) k ≡ Some (get_or all k r).question
  question_at k r below =
      let there : k < length (questions_of all) = omega (arith, below, length-map all (λ s. s.question)) in
      slice_get-get_or (questions_of all) k r.question there
      ∙ ap Some (get_or-map (λ (s : Ready). s.question) all k r r.question below)

  pub plan_at : (k : ℕ) (r : Ready) → k < length all → slice_get (plans_of (questions_of all)) k ≡ Some
      (plan_over (get_or all k r).question.0 (get_or all k r).question.1)
  plan_at k r below =
      let plan_of : Query × List Value → Plan = λ question. plan_over question.0 question.1 in
      let asked : k < length (questions_of all) = omega (arith, below, length-map all (λ s. s.question)) in
      let there : k < length (plans_of (questions_of all)) =
      omega (arith, asked, length-map (questions_of all) plan_of) in
      slice_get-get_or (plans_of (questions_of all)) k (plan_of r.question) there
      ∙ ap Some (get_or-map plan_of (questions_of all) k r.question (plan_of r.question) asked
      ∙ ap plan_of (get_or-map (λ (s : Ready). s.question) all k r r.question below))

  pub ready_at : (k : ℕ) (r : Ready) → k < length all → IsReady base masks k (get_or all k r).question (get_or all k r)
  ready_at k r below = ready k (get_or all k r).question r (question_at k r below)

  -- each question has the parts of its group columns
  pub parts_all : All HasParts all
  parts_all k r below = grind (arith, ready_at, prepared_lengths)

-- of one question
module _ (base : Tables) (places : List Place) (lines : LineColumns) (masks : Masks) (all : List Ready)
    (sound : IsSound base) (within : All (IsWithin base.dimensions) places) (are : AreLinesOf places lines)
    (tell : AreMasksOf (plans_of (questions_of all)) base.dimensions masks) where
  pub can_sum_with : (k : ℕ) (r : Ready) (g : Grouping) → slice_get (plans_of (questions_of all)) k ≡ Some
      (plan_over r.question.0 r.question.1) → IsReady base masks k r.question r
      → (parts : Parts) → r.groups.parts ≡ parts → IsGroupingWith base lines r parts g → CanSum lines masks k g
  can_sum_with k r g at_k is (Narrow parts) e one = grind (arith, dense_columns, can_group)
  can_sum_with k r g at_k is (Wide parts) e one = grind arith

  module _ (few : length (live_facts base.dimensions places) ≤ most_lines) where
    grouping_of : (k : ℕ) (r : Ready) (g : Grouping) (parts : Vec (List ℕ) Global) → IsReady base masks k r.question r
        → r.groups.parts ≡ Narrow parts → IsDenseGrouping base lines r parts.items g
        → IsGroupingOf base masks k lines (plan_over r.question.0 r.question.1) r.groups.columns.items g
    grouping_of k r g parts is e one =
        let plan : Plan = plan_over r.question.0 r.question.1 in
        let columns = dense_columns base lines r (Narrow parts) parts.items g.columns.items e refl one.columns_are in
        let own = is_grouping base masks k lines r.question r g.columns.items is columns in
        let M : Measure → Type 0 = λ m. IsGroupingBy base masks k lines plan r.groups.columns.items m g.columns.items
        g.size in
        let N : ℕ → Type 0 = λ n. IsGroupingBy base masks k lines plan r.groups.columns.items r.plan.measure
        g.columns.items n in
        subst M (sym one.measure_is) (subst N (sym one.size_is) own)

    pub fits_with : (k : ℕ) (r : Ready) (g : Grouping) (t : Totals)
        → slice_get (plans_of (questions_of all)) k ≡ Some (plan_over r.question.0 r.question.1)
        → IsReady base masks k r.question r
        → AreTotals lines masks k g (range_with_len 0 (length places)) t → (parts : Parts) → r.groups.parts ≡ parts
        → IsGroupingWith base lines r parts g → FitsWith r parts t
    fits_with k r g t at_k is sums (Narrow parts) e one =
        let own = grouping_of k r g parts is e one in
        let dims = dimensions_alone r.question.0 r.question.1 in
        let count : ℕ → ℕ = λ n. get_or t.counts.items n 0 in
        let gain : ℕ → ℕ = λ n. get_or t.gains.items n 0 in
        let loss : ℕ → ℕ = λ n. get_or t.losses.items n 0 in
        record {
          counts = omega (arith, sums.counts_are.len, length-replicate {A = ℕ} g.size 0, own.size_is, t.counts.ok);
          small = λ fits.
              let is_sum = summed_totals lines masks k g (range_with_len 0 (length places)) t sums fits.counts
              fits.gains fits.losses in
              record {
                gains = gains_small base r.question (plans_of (questions_of all)) k places lines masks
                    r.groups.columns.items g.measure g.columns.items g.size sound within are at_k tell own dims count
                    gain loss few is_sum;
                losses = losses_small base r.question (plans_of (questions_of all)) k places lines masks
                    r.groups.columns.items g.measure g.columns.items g.size sound within are at_k tell own dims count
                    gain loss few is_sum;
              };
        }
    fits_with k r g t at_k is sums (Wide parts) e one = tt

    pub can_answer_one : (k : ℕ) (r : Ready) (g : Grouping) (t : Totals)
        → slice_get (plans_of (questions_of all)) k ≡ Some (plan_over r.question.0 r.question.1)
        → IsReady base masks k r.question r → AreTotals lines masks k g (range_with_len 0 (length places)) t
        → IsGroupingWith base lines r r.groups.parts g → CanAnswer base lines masks k r t
    can_answer_one k r g t at_k is sums one = grind (arith, prepared_lengths, fits_with)

    pub answer_with : (k : ℕ) (r : Ready) (g : Grouping) (t : Totals) (rows : List ResultRow)
        → slice_get (plans_of (questions_of all)) k ≡ Some (plan_over r.question.0 r.question.1)
        → IsReady base masks k r.question r
        → AreTotals lines masks k g (range_with_len 0 (length places)) t → (parts : Parts) → r.groups.parts ≡ parts
        → IsGroupingWith base lines r parts g → AreRowsWith base lines masks k r parts t rows
        → rows ≡ answer_of r.question base.dimensions (live_facts base.dimensions places)
    answer_with k r g t rows at_k is sums (Narrow parts) e one found =
        let own = grouping_of k r g parts is e one in
        let dims = dimensions_alone r.question.0 r.question.1 in
        let count : ℕ → ℕ = λ n. get_or t.counts.items n 0 in
        let gain : ℕ → ℕ = λ n. get_or t.gains.items n 0 in
        let loss : ℕ → ℕ = λ n. get_or t.losses.items n 0 in
        summed_answer base r.question (plans_of (questions_of all)) k places lines masks r.groups.columns.items
        g.measure g.columns.items g.size sound within are at_k tell own dims count gain loss few
        (summed_totals lines masks k g (range_with_len 0 (length places)) t sums found.fits.counts found.fits.gains
        found.fits.losses) rows found.right
    answer_with k r g t rows at_k is sums (Wide parts) e one found =
        let dims = dimensions_alone r.question.0 r.question.1 in
        let R : ℕ → Type 0 = λ n. AreSummed lines masks k r.plan.measure found.groups r.groups.size
        (range_with_len 0 n) found.count found.gain found.loss in
        summed_answer base r.question (plans_of (questions_of all)) k places lines masks r.groups.columns.items
        r.plan.measure found.groups r.groups.size sound within are at_k tell found.grouped dims
        found.count found.gain found.loss few (subst R (line_count places lines are) found.summed) rows found.right

module _ (base : Tables) (places : List Place) (lines : LineColumns) (masks : Masks) (all : List Ready)
    (groupings : List Grouping)
    (sound : IsSound base) (within : All (IsWithin base.dimensions) places) (are : AreLinesOf places lines)
    (tell : AreMasksOf (plans_of (questions_of all)) base.dimensions masks)
    (ready : AreReady base masks (questions_of all) all)
    (grouped : AreReadyGroupings base lines all groupings) where
  pub can_sum_all : CanSumAll lines masks groupings
  can_sum_all k g below =
      let inside : k < length all = omega (arith, below, grouped.len) in
      let r : Ready = item_of all k inside in
      let this = get_or all k r in
      can_sum_with base places lines masks all sound within are tell k this (get_or groupings k g)
      (plan_at base masks all ready k r inside) (ready_at base masks all ready k r inside) this.groups.parts refl
      (grouped.each k r g inside)

  module _ (totals : List Totals) (summed : AreBatchTotals lines masks groupings (range_with_len 0 (length places))
      totals) (few : length (live_facts base.dimensions places) ≤ most_lines) where
    pub can_answer_all : CanAnswerAll base lines masks all totals
    can_answer_all k r t below =
        let of_groupings : k < length groupings = omega (arith, below, grouped.len) in
        let g : Grouping = item_of groupings k of_groupings in
        can_answer_one base places lines masks all sound within are tell few k (get_or all k r) (get_or groupings k g)
        (get_or totals k t) (plan_at base masks all ready k r below) (ready_at base masks all ready k r below)
        (summed.each k g t of_groupings) (grouped.each k r g below)

    module _ (list : List Rows) (right : AreBatchRows base lines masks all totals list) where
      rows_at : (k : ℕ) (r : Ready) (t : Totals) (rows : Rows) → k < length all
          → get_or list k rows ≡ record {
            question = (get_or all k r).question;
            list = answer_of (get_or all k r).question base.dimensions (live_facts base.dimensions places);
          }
      rows_at k r t rows below =
          let this = get_or all k r in
          let of_groupings : k < length groupings = omega (arith, below, grouped.len) in
          let g : Grouping = item_of groupings k of_groupings in
          let one = right.each k r t rows below in
          let answer = answer_with base places lines masks all sound within are tell few k this (get_or groupings k g)
          (get_or totals k t) (get_or list k rows).list
          (plan_at base masks all ready k r below) (ready_at base masks all ready k r below)
          (summed.each k g t of_groupings)
          this.groups.parts refl (grouped.each k r g below) one.right in
          λ j. record { question = one.question_is j; list = answer j }

      -- the rows answer the batch over the live facts
      pub rows_answer : list ≡ answers_over base.dimensions (live_facts base.dimensions places) (questions_of all)
      rows_answer =
          let answered : Query × List Value → Rows = λ question.
          record { question = question; list = answer_of question base.dimensions (live_facts base.dimensions places) }
          in
          ext_get_or no_rows list (map answered (questions_of all))
          (right.len ∙ sym (length-map (questions_of all) answered ∙ length-map all (λ r. r.question))) (λ i below.
          let inside : i < length all = omega (arith, below, right.len) in
          let of_groupings : i < length groupings = omega (arith, inside, grouped.len) in
          let of_totals : i < length totals = omega (arith, of_groupings, summed.all) in
          let r : Ready = item_of all i inside in
          let t : Totals = item_of totals i of_totals in
          let asked : i < length (questions_of all) = omega (arith, inside, length-map all (λ r. r.question)) in
          rows_at i r t no_rows inside
          ∙ sym (get_or-map answered (questions_of all) i r.question no_rows asked
          ∙ ap answered (get_or-map (λ (s : Ready). s.question) all i r r.question inside)))
        where
          no_rows : Rows
          no_rows = record { question = (Q1_1, []); list = [] }
