use Rattle.std.proofs.Common.{rules, ◌≡◌, ◌≤◌, List, length, sym, ap, subst, ◌∙◌}
use Rattle.ssb_base.specs.Base.{Tables, IsSound}
use Rattle.dimension_index.specs.Classes.{reduced}
use Rattle.fact_columns.specs.Stored.{Stored}
use Rattle.scan_kernel.specs.declared.totals.Totals.{Totals}
use Rattle.shared_scan.specs.Answers.{Prepared}
use Rattle.shared_scan.specs.Batch.{AreReady, plans_of, questions_of}
use Rattle.shared_scan.specs.Prepared.{AreMasksOf}
use Rattle.shared_scan.specs.Masking.{CoverRows}
use Rattle.shared_scan.specs.Groupings.{AreReadyGroupings}
use Rattle.fact_columns.specs.Watching.{live_lines}
use Rattle.shared_scan.specs.Follows.{FollowWith}
use Rattle.shared_scan.specs.declared.ready.Ready.{Ready}
use Rattle.shared_scan.specs.declared.standing.ReadyBatch.{ReadyBatch}
use Rattle.shared_scan.proofs.HistoryLaws.{of_base}
use Rattle.shared_scan.proofs.ScanLaws.{parts_all}
use Rattle.shared_scan.proofs.StandingAnswerLaws.{scan_searches, scan_sums, follow_of_scan}
use Rattle.ssb_base.specs.Limits.{most_lines}
use Rattle.shared_scan.proofs.standing.Standing.made.Goals as goal

pub groupings-requires : goal.groupings-requires
groupings-requires g c = rw (c.deref-3.ensures.value) (parts_all (reduced c.batch.inside.columns.now.base)
    c.batch.inside.masks c.batch.inside.questions.items c.batch.invariant.ready)

pub parallel_totals-requires-clause-covers : goal.parallel_totals-requires-clause-covers
parallel_totals-requires-clause-covers g c = λ κs within.
    let columns = c.args.columns.now in
    let inside = c.batch.inside in
    let same : inside.columns.now ≡ columns = ap (λ (p : Prepared). p.columns)
    (c.batch.view_is ∙ c.in_ok-batch.ensures.prepared) in
    let S : Stored → Type 0 = λ s. length s.facts ≤ most_lines in
    let V : Stored → Type 0 = λ s. CoverRows (reduced s.base).dimensions inside.masks in
    scan_searches columns.base columns.places c.line_columns-lines.result inside.masks
    (of_base columns c.line_columns-lines.ensures.read (subst S same c.batch.invariant.small))
    c.line_columns-lines.ensures.columns (subst V same c.batch.invariant.masks_cover)

pub parallel_totals-requires-clause-can_sum : goal.parallel_totals-requires-clause-can_sum
parallel_totals-requires-clause-can_sum g c = λ κs within.
    let columns = c.args.columns.now in
    let inside = c.batch.inside in
    let all : List Ready = inside.questions.items in
    let lines = c.line_columns-lines.result in
    let groupings = c.in_ok-groupings.groupings.items in
    let same : inside.columns.now ≡ columns = ap (λ (p : Prepared). p.columns)
    (c.batch.view_is ∙ c.in_ok-batch.ensures.prepared) in
    let first : c.first_rows-rows.result.now ≡ reduced columns.base = c.first_rows-rows.ensures
    ∙ ap reduced (c.deref-2.ensures ∙ c.requires.base) in
    let S : Stored → Type 0 = λ s. length s.facts ≤ most_lines in
    let T : Stored → Type 0 = λ s. AreMasksOf (plans_of (questions_of all)) (reduced s.base).dimensions inside.masks in
    let U : Stored → Type 0 = λ s. AreReady (reduced s.base) inside.masks (questions_of all) all in
    let G : Tables → Type 0 = λ b. AreReadyGroupings b lines all groupings in
    let grouped = rw (c.deref-3.ensures.value) at c.in_ok-groupings.ensures in
    rw (c.deref-4.ensures.value) (scan_sums columns.base inside.masks all groupings columns.places lines
    (of_base columns c.line_columns-lines.ensures.read (subst S same c.batch.invariant.small))
    c.line_columns-lines.ensures.columns (subst IsSound first c.soundness-2.ensures)
    (subst T same c.batch.invariant.masks_tell) (subst U same c.batch.invariant.ready) (subst G first grouped))

pub returns-clause-follows : goal.returns-clause-follows
returns-clause-follows g c =
    let columns = c.args.columns.now in
    let inside = c.batch.inside in
    let all : List Ready = inside.questions.items in
    let lines = c.line_columns-lines.result in
    let groupings = c.in_ok-groupings.groupings.items in
    let totals : List Totals = c.in_ok-totals.totals.items in
    let same : inside.columns.now ≡ columns = ap (λ (p : Prepared). p.columns)
    (c.batch.view_is ∙ c.in_ok-batch.ensures.prepared) in
    let first : c.first_rows-rows.result.now ≡ reduced columns.base = c.first_rows-rows.ensures
    ∙ ap reduced (c.deref-2.ensures ∙ c.requires.base) in
    let S : Stored → Type 0 = λ s. length s.facts ≤ most_lines in
    let T : Stored → Type 0 = λ s. AreMasksOf (plans_of (questions_of all)) (reduced s.base).dimensions inside.masks in
    let U : Stored → Type 0 = λ s. AreReady (reduced s.base) inside.masks (questions_of all) all in
    let V : Stored → Type 0 = λ s. CoverRows (reduced s.base).dimensions inside.masks in
    let G : Tables → Type 0 = λ b. AreReadyGroupings b lines all groupings in
    let grouped = rw (c.deref-3.ensures.value) at c.in_ok-groupings.ensures in
    let summed = rw (c.deref-4.ensures.value) at c.in_ok-totals.ensures in
    let made : ReadyBatch = record { index = c.args.index; masks = inside.masks; questions = inside.questions } in
    let made_is : c.in_ok-new.field-0.value ≡ made = search rules in
    let P : ReadyBatch → Type 0 = λ b. FollowWith (reduced b.index.value) b.masks b.questions.items totals
    (live_lines columns.places) in
    let Q : Tables → Type 0 = λ b. FollowWith (reduced b) inside.masks all totals (live_lines columns.places) in
    subst P (sym made_is) (subst Q (sym c.requires.base) (follow_of_scan columns.base inside.masks all groupings totals
    columns.places lines (of_base columns c.line_columns-lines.ensures.read (subst S same c.batch.invariant.small))
    c.line_columns-lines.ensures.columns (subst IsSound first c.soundness-2.ensures) c.batch.invariant.few
    (subst T same c.batch.invariant.masks_tell) (subst V same c.batch.invariant.masks_cover)
    (subst U same c.batch.invariant.ready) (subst G first grouped) summed))
