-- From the totals that follow the live lines of columns to an answer.
use Rattle.std.proofs.Common.{◌≡◌, ℕ, ◌<◌, ◌≤◌, List, [], ◌∷◌, length, map, get_or, refl, sym, ap, ◌∙◌, subst, arith}
use Rattle.std.specs.List.{All, range_with_len}
use Rattle.std.proofs.lemmas.List.{length-map}
use Rattle.ssb_base.specs.Base.{Tables, IsSound}
use Rattle.ssb_schema.specs.Facts.{facts_of}
use Rattle.dimension_index.specs.Classes.{reduced}
use Rattle.row_store.specs.History.{CommitRecord, lines_after}
use Rattle.row_store.specs.State.{StandsFor}
use Rattle.ssb_questions.specs.declared.query.Query.{Query}
use Rattle.ssb_questions.specs.declared.value.Value.{Value}
use Rattle.ssb_answers.specs.Answer.{answer_of}
use Rattle.ssb_answers.specs.declared.answer.Rows.{Rows}
use Rattle.fact_columns.specs.declared.place.Place.{Place}
use Rattle.fact_columns.specs.Places.{IsWithin, live_facts}
use Rattle.fact_columns.specs.Columns.{AreColumnsOf}
use Rattle.fact_columns.specs.Stored.{Stored, IsRead, columns_state}
use Rattle.scan_kernel.specs.declared.columns.LineColumns.{LineColumns}
use Rattle.scan_kernel.specs.declared.columns.Grouping.{Grouping}
use Rattle.scan_kernel.specs.declared.masks.Masks.{Masks}
use Rattle.scan_kernel.specs.declared.totals.Totals.{Totals}
use Rattle.scan_kernel.specs.Places.{CanSearch}
use Rattle.scan_kernel.specs.Totals.{CanSum, CanSumAll, AreTotals, AreBatchTotals}
use Rattle.shared_scan.specs.Batch.{AreReady, plans_of, questions_of}
use Rattle.shared_scan.specs.Prepared.{AreMasksOf}
use Rattle.shared_scan.specs.Masking.{CoverRows}
use Rattle.shared_scan.specs.Classed.{classed}
use Rattle.shared_scan.specs.Laws.{AreLinesOf}
use Rattle.shared_scan.specs.Lines.{AreOfBase}
use Rattle.shared_scan.specs.Groupings.{IsReadyGrouping, AreReadyGroupings}
use Rattle.shared_scan.specs.TotalRows.{CanAnswer, AreRowsOf}
use Rattle.fact_columns.specs.Watching.{live_lines}
use Rattle.shared_scan.specs.Follows.{FollowWith}
use Rattle.shared_scan.specs.declared.ready.Ready.{Ready}
use Rattle.shared_scan.proofs.CanScanLaws.{can_search}
use Rattle.shared_scan.proofs.ClassedLaws.{lines_classed, classed_all, as_many_live, answer_classed}
use Rattle.shared_scan.proofs.HistoryLaws.{answers_of_history}
use Rattle.shared_scan.proofs.ScanLaws.{line_count, plan_at, ready_at, can_sum_with, can_sum_all, can_answer_one}
use Rattle.shared_scan.proofs.ScanLaws.{answer_with}
use Rattle.shared_scan.proofs.EachLaws.{item_of}
use Rattle.ssb_base.specs.Limits.{most_lines}
use Rattle.shared_scan.proofs.StandingScanLaws.{totals_to_scan, totals_from_scan}

module _ (base : Tables) (masks : Masks) (all : List Ready) (totals : List Totals) (places : List Place)
    (lines : LineColumns) (follow : FollowWith (reduced base) masks all totals (live_lines places))
    (of_base : AreOfBase base places) (columns_are : AreColumnsOf places lines) (sound_all : IsSound base)
    (sound : IsSound (reduced base)) where
  are : AreLinesOf (map classed places) lines
  are = lines_classed places lines columns_are

  within : All (IsWithin (reduced base).dimensions) (map classed places)
  within = classed_all base places of_base.within

  pub searches : CanSearch lines masks
  searches = can_search (reduced base) (map classed places) lines masks within are follow.masks_cover

  few : length (live_facts (reduced base).dimensions (map classed places)) ≤ most_lines
  few = omega (arith, as_many_live base places, of_base.few_live)

  module _ (k : ℕ) (r : Ready) (t : Totals) (below : k < length all) (g : Grouping)
      (grouped : IsReadyGrouping (reduced base) lines (get_or all k r) g) where
    sums : AreTotals lines masks k g (range_with_len 0 (length (map classed places))) (get_or totals k t)
    sums =
        let at_k = plan_at (reduced base) masks all follow.ready k r below in
        let one = ready_at (reduced base) masks all follow.ready k r below in
        let can : CanSum lines masks k g = can_sum_with (reduced base) (map classed places) lines masks all sound within
        are follow.masks_tell k (get_or all k r) g at_k one (get_or all k r).groups.parts refl grouped in
        let R : ℕ → Type 0 = λ n. AreTotals lines masks k g (range_with_len 0 n) (get_or totals k t) in
        subst R (sym (length-map places classed)) (totals_to_scan (reduced base) places lines columns_are
        (plans_of (questions_of all)) masks k (get_or all k r) g follow.masks_tell can grouped (get_or totals k t)
        (follow.each k r t below))

    -- the rows can be made of the totals
    pub can_be_answered : CanAnswer (reduced base) lines masks k (get_or all k r) (get_or totals k t)
    can_be_answered = can_answer_one (reduced base) (map classed places) lines masks all sound within are
        follow.masks_tell few k (get_or all k r) g (get_or totals k t)
        (plan_at (reduced base) masks all follow.ready k r below)
        (ready_at (reduced base) masks all follow.ready k r below) sums grouped

    -- and they are the question's over the live facts
    pub is_answered : (rows : Rows)
        → AreRowsOf (reduced base) lines masks k (get_or all k r) (get_or totals k t) rows
        → rows ≡ record {
          question = (get_or all k r).question;
          list = answer_of (get_or all k r).question base.dimensions (live_facts base.dimensions places);
        }
    is_answered rows right =
        let list = answer_with (reduced base) (map classed places) lines masks all sound within are follow.masks_tell
        few k (get_or all k r) g (get_or totals k t) rows.list (plan_at (reduced base) masks all follow.ready k r below)
        (ready_at (reduced base) masks all follow.ready k r below) sums (get_or all k r).groups.parts refl grouped
        right.right ∙ answer_classed base (get_or all k r).question places sound_all sound of_base.within in
        λ j. record { question = right.question_is j; list = list j }

-- the answer over the live facts of columns is that after any history that the columns stand for
pub answer_of_history : (columns : Stored) (history : List CommitRecord) (question : Query × List Value)
    → IsRead columns → StandsFor (columns_state columns) history
    → answer_of question columns.base.dimensions (live_facts columns.base.dimensions columns.places)
    ≡ answer_of question columns.base.dimensions (facts_of (lines_after columns.base history))
answer_of_history columns history question read stands =
    ap (λ (list : List Rows). (get_or list 0 (record { question = question; list = [] })).list)
    (answers_of_history columns history (question ∷ []) read stands)

-- the columns of places of a base can be searched
pub scan_searches : (base : Tables) (places : List Place) (lines : LineColumns) (masks : Masks) → AreOfBase base places
    → AreColumnsOf places lines → CoverRows (reduced base).dimensions masks → CanSearch lines masks
scan_searches base places lines masks of_base columns_are cover =
    can_search (reduced base) (map classed places) lines masks (classed_all base places of_base.within)
    (lines_classed places lines columns_are) cover

-- and summed
pub scan_sums : (base : Tables) (masks : Masks) (all : List Ready) (groupings : List Grouping) (places : List Place)
    (lines : LineColumns) → AreOfBase base places → AreColumnsOf places lines → IsSound (reduced base)
    → AreMasksOf (plans_of (questions_of all)) (reduced base).dimensions masks
    → AreReady (reduced base) masks (questions_of all) all → AreReadyGroupings (reduced base) lines all groupings
    → CanSumAll lines masks groupings
scan_sums base masks all groupings places lines of_base columns_are sound tell ready grouped =
    can_sum_all (reduced base) (map classed places) lines masks all groupings sound
    (classed_all base places of_base.within) (lines_classed places lines columns_are) tell ready grouped

-- the totals of one pass follow the live lines
pub follow_of_scan : (base : Tables) (masks : Masks) (all : List Ready) (groupings : List Grouping)
    (totals : List Totals) (places : List Place) (lines : LineColumns) → AreOfBase base places
    → AreColumnsOf places lines → IsSound (reduced base) → length all ≤ 16
    → AreMasksOf (plans_of (questions_of all)) (reduced base).dimensions masks
    → CoverRows (reduced base).dimensions masks → AreReady (reduced base) masks (questions_of all) all
    → AreReadyGroupings (reduced base) lines all groupings
    → AreBatchTotals lines masks groupings (range_with_len 0 (length lines.customer.now)) totals
    → FollowWith (reduced base) masks all totals (live_lines places)
follow_of_scan base masks all groupings totals places lines of_base columns_are sound few tell cover ready grouped
    summed =
    let are : AreLinesOf (map classed places) lines = lines_classed places lines columns_are in
    let within : All (IsWithin (reduced base).dimensions) (map classed places) =
    classed_all base places of_base.within in
    let count : length lines.customer.now ≡ length places = line_count (map classed places) lines are
    ∙ length-map places classed in
    let R : ℕ → Type 0 = λ n. AreBatchTotals lines masks groupings (range_with_len 0 n) totals in
    let over : AreBatchTotals lines masks groupings (range_with_len 0 (length places)) totals = subst R count summed in
    record {
      few = few;
      one_each = summed.all ∙ grouped.len;
      masks_tell = tell;
      masks_cover = cover;
      ready = ready;
      each = λ k r t below.
          let of_groupings : k < length groupings = omega (arith, below, grouped.len) in
          let g : Grouping = item_of groupings k of_groupings in
          let own = grouped.each k r g below in
          let can : CanSum lines masks k (get_or groupings k g) = can_sum_with (reduced base) (map classed places) lines
          masks all sound within are tell k (get_or all k r) (get_or groupings k g)
          (plan_at (reduced base) masks all ready k r below) (ready_at (reduced base) masks all ready k r below)
          (get_or all k r).groups.parts refl own in
          totals_from_scan (reduced base) places lines columns_are (plans_of (questions_of all)) masks k (get_or all k r)
          (get_or groupings k g) tell can own (get_or totals k t) (over.each k g t of_groupings);
    }
