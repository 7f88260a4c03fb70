use Rattle.std.proofs.Common.{◌≡◌, ◌≤◌, List, length, get_or, sym, ap, subst, ◌∙◌, arith}
use Rattle.std.proofs.lemmas.Option.{same_Some}
use Rattle.ssb_base.specs.Base.{Tables, IsSound}
use Rattle.ssb_questions.specs.declared.query.Query.{Query}
use Rattle.ssb_questions.specs.declared.value.Value.{Value}
use Rattle.ssb_answers.specs.Answer.{answer_of}
use Rattle.ssb_answers.specs.declared.answer.ResultRow.{ResultRow}
use Rattle.dimension_index.specs.Classes.{reduced}
use Rattle.fact_columns.specs.Places.{live_facts}
use Rattle.scan_kernel.specs.declared.totals.Totals.{Totals}
use Rattle.scan_kernel.specs.Places.{CanSearch}
use Rattle.shared_scan.specs.Groupings.{HasParts, IsReadyGrouping}
use Rattle.shared_scan.specs.TotalRows.{CanAnswer, AreRowsOf}
use Rattle.fact_columns.specs.Watching.{live_lines}
use Rattle.shared_scan.specs.Follows.{FollowWith}
use Rattle.shared_scan.specs.declared.ready.Ready.{Ready}
use Rattle.shared_scan.specs.declared.standing.ReadyBatch.{ReadyBatch}
use Rattle.shared_scan.proofs.HistoryLaws.{of_base}
use Rattle.shared_scan.proofs.ScanLaws.{if_ok_then, parts_all, question_at}
use Rattle.shared_scan.proofs.StandingAnswerLaws.{searches, can_be_answered, is_answered, answer_of_history}
use Rattle.ssb_base.specs.Limits.{most_lines}
use Rattle.shared_scan.proofs.standing.Standing.rows.Goals as goal

pub grouping-requires : goal.grouping-requires
grouping-requires c =
    let own : ReadyBatch = c.args.self.now.batch.value in
    let n = c.args.number in
    let item = c.index-ready.result.now in
    let all : List Ready = own.questions.items in
    let item_is : item ≡ get_or all n item = c.index-ready.ensures
    ∙ ap (λ (b : ReadyBatch). get_or b.questions.items n item) c.deref-batch.ensures in
    subst HasParts (sym item_is) (parts_all (reduced own.index.value) own.masks all c.requires.follows.1.ready n item
    c.requires.there)

pub question_rows-requires-clause-covers : goal.question_rows-requires-clause-covers
question_rows-requires-clause-covers c =
    let own : ReadyBatch = c.args.self.now.batch.value in
    let columns = c.args.columns.now in
    let lines = c.line_columns-lines.result in
    let totals : List Totals = c.args.self.now.totals.items in
    let read = c.line_columns-lines.ensures.read in
    let small : length columns.facts ≤ most_lines = omega (
      arith,
      c.soundness.ensures c.requires.snapshot.history c.requires.snapshot.stands,
      c.requires.snapshot.few,
    ) in
    let base : c.base.result.now ≡ columns.base = c.base.ensures ∙ c.deref.ensures
    ∙ ap (λ (b : ReadyBatch). b.index.value) c.deref-batch.ensures ∙ c.requires.follows.0 in
    let first : c.first_rows-rows.result.now ≡ reduced columns.base = c.first_rows-rows.ensures
    ∙ ap reduced (c.deref-2.ensures ∙ ap (λ (b : ReadyBatch). b.index.value) c.deref-batch.ensures
    ∙ c.requires.follows.0) in
    let F : Tables → Type 0 = λ b. FollowWith (reduced b) own.masks own.questions.items totals
    (live_lines columns.places) in
    let P : ReadyBatch → Type 0 = λ b. CanSearch lines b.masks in
    subst P (sym c.deref-batch.ensures) (searches columns.base own.masks own.questions.items totals columns.places lines
    (subst F c.requires.follows.0 c.requires.follows.1) (of_base columns read small)
    c.line_columns-lines.ensures.columns
    (subst IsSound base c.soundness-2.ensures) (subst IsSound first c.soundness-3.ensures))

pub question_rows-requires-clause-can : goal.question_rows-requires-clause-can
question_rows-requires-clause-can c =
    let own : ReadyBatch = c.args.self.now.batch.value in
    let columns = c.args.columns.now in
    let lines = c.line_columns-lines.result in
    let totals : List Totals = c.args.self.now.totals.items in
    let read = c.line_columns-lines.ensures.read in
    let n = c.args.number in
    let item = c.index-ready.result.now in
    let mine = c.index.result.now in
    let all : List Ready = own.questions.items in
    let grouping = c.in_ok-_grouping._grouping in
    let small : length columns.facts ≤ most_lines = omega (
      arith,
      c.soundness.ensures c.requires.snapshot.history c.requires.snapshot.stands,
      c.requires.snapshot.few,
    ) in
    let base : c.base.result.now ≡ columns.base = c.base.ensures ∙ c.deref.ensures
    ∙ ap (λ (b : ReadyBatch). b.index.value) c.deref-batch.ensures ∙ c.requires.follows.0 in
    let first : c.first_rows-rows.result.now ≡ reduced columns.base = c.first_rows-rows.ensures
    ∙ ap reduced (c.deref-2.ensures ∙ ap (λ (b : ReadyBatch). b.index.value) c.deref-batch.ensures
    ∙ c.requires.follows.0) in
    let item_is : item ≡ get_or all n item = c.index-ready.ensures
    ∙ ap (λ (b : ReadyBatch). get_or b.questions.items n item) c.deref-batch.ensures in
    let mine_is : mine ≡ get_or totals n mine = c.index.ensures in
    let F : Tables → Type 0 = λ b. FollowWith (reduced b) own.masks all totals
    (live_lines columns.places) in
    let G : Tables → Type 0 = λ b. IsReadyGrouping b lines item grouping in
    let H : Ready → Type 0 = λ r. IsReadyGrouping (reduced columns.base) lines r grouping in
    let grouped = subst H item_is (subst G first c.in_ok-_grouping.ensures) in
    let can = can_be_answered columns.base own.masks all totals columns.places lines
    (subst F c.requires.follows.0 c.requires.follows.1) (of_base columns read small)
    c.line_columns-lines.ensures.columns
    (subst IsSound base c.soundness-2.ensures) (subst IsSound first c.soundness-3.ensures) n item mine
    c.requires.there grouping grouped in
    let A : Tables → Type 0 = λ b. CanAnswer b lines c.deref-batch.result.now.masks n item mine in
    let B : ReadyBatch → Type 0 = λ b. CanAnswer (reduced columns.base) lines b.masks n item mine in
    let C : Ready → Type 0 = λ r. CanAnswer (reduced columns.base) lines own.masks n r mine in
    let D : Totals → Type 0 = λ t. CanAnswer (reduced columns.base) lines own.masks n (get_or all n item) t in
    subst A (sym first) (subst B (sym c.deref-batch.ensures) (subst C (sym item_is) (subst D (sym mine_is) can)))

pub returns : goal.returns
returns c = record {
  answer = λ history question stands asked.
      let own : ReadyBatch = c.args.self.now.batch.value in
      let columns = c.args.columns.now in
      let lines = c.line_columns-lines.result in
      let totals : List Totals = c.args.self.now.totals.items in
      let read = c.line_columns-lines.ensures.read in
      let n = c.args.number in
      let item = c.index-ready.result.now in
      let mine = c.index.result.now in
      let all : List Ready = own.questions.items in
      let grouping = c.in_ok-_grouping._grouping in
      let small : length columns.facts ≤ most_lines = omega (
        arith,
        c.soundness.ensures c.requires.snapshot.history c.requires.snapshot.stands,
        c.requires.snapshot.few,
      ) in
      let base : c.base.result.now ≡ columns.base = c.base.ensures ∙ c.deref.ensures
      ∙ ap (λ (b : ReadyBatch). b.index.value) c.deref-batch.ensures ∙ c.requires.follows.0 in
      let first : c.first_rows-rows.result.now ≡ reduced columns.base = c.first_rows-rows.ensures
      ∙ ap reduced (c.deref-2.ensures ∙ ap (λ (b : ReadyBatch). b.index.value) c.deref-batch.ensures
      ∙ c.requires.follows.0) in
      let item_is : item ≡ get_or all n item = c.index-ready.ensures
      ∙ ap (λ (b : ReadyBatch). get_or b.questions.items n item) c.deref-batch.ensures in
      let mine_is : mine ≡ get_or totals n mine = c.index.ensures in
      let F : Tables → Type 0 = λ b. FollowWith (reduced b) own.masks all totals
      (live_lines columns.places) in
      let G : Tables → Type 0 = λ b. IsReadyGrouping b lines item grouping in
      let H : Ready → Type 0 = λ r. IsReadyGrouping (reduced columns.base) lines r grouping in
      let grouped = subst H item_is (subst G first c.in_ok-_grouping.ensures) in
      let follow = subst F c.requires.follows.0 c.requires.follows.1 in
      let asked_is : (get_or all n item).question ≡ question = same_Some _ _
      (sym (question_at (reduced columns.base) own.masks all follow.ready n item c.requires.there) ∙ asked) in
      if_ok_then c.question_rows.result _ _ c.question_rows.ensures (λ rows right.
      let A : Tables → Type 0 = λ b. AreRowsOf b lines c.deref-batch.result.now.masks n item mine rows in
      let B : ReadyBatch → Type 0 = λ b. AreRowsOf (reduced columns.base) lines b.masks n item mine rows in
      let C : Ready → Type 0 = λ r. AreRowsOf (reduced columns.base) lines own.masks n r mine rows in
      let D : Totals → Type 0 = λ t. AreRowsOf (reduced columns.base) lines own.masks n (get_or all n item) t rows in
      let are = subst D mine_is (subst C item_is (subst B c.deref-batch.ensures (subst A first right))) in
      is_answered columns.base own.masks all totals columns.places lines follow (of_base columns read small)
      c.line_columns-lines.ensures.columns (subst IsSound base c.soundness-2.ensures)
      (subst IsSound first c.soundness-3.ensures) n item mine c.requires.there grouping grouped rows are
      ∙ ap (λ (q : Query × List Value). record {
        question = q;
        list = answer_of q columns.base.dimensions (live_facts columns.base.dimensions columns.places);
      }) asked_is
      ∙ ap (λ (list : List ResultRow). record { question = question; list = list })
      (answer_of_history columns history question read stands));
}
