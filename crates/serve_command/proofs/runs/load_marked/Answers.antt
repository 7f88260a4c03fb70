use Rattle.std.proofs.Common.{◌≡◌, ◌∙◌, ◌⊎◌, Err, List, arith, inl, inr, refl, rules, subst, sym, ℕ}
use Rattle.std.proofs.lemmas.Result.{err_from_is_err_and}
use Rattle.journal_opening.specs.Marks.{AreMarks}
use Rattle.ssb_base.specs.Base.{Tables}
use Rattle.ssb_files.specs.Loaded.{AreRefusedToServe, IsLoadedToServe}
use Rattle.ssb_files.specs.Status.{status_of}
use Rattle.ssb_files.specs.declared.fault.Fault.TheVariants as common
use Rattle.ssb_schema.specs.declared.table.Table.{Table}
use Rattle.ssb_text.specs.Layouts.{AreRows}
use Rattle.ssb_files.proofs.StandingLaws.{may_have_too_many, may_not_stand, standing_no_words}
use Rattle.ssb_files.specs.Standing.{MayNotStandToServe}
use Rattle.serve_command.proofs.runs.load_marked.Goals as goal

pub returns-in_err-read-clause-refused : goal.returns-in_err-read-clause-refused
returns-in_err-read-clause-refused g c =
    let is : c.from_residual.result ≡ Err c.in_err-read.field-0.0 = search rules in
    let here : status_of c.in_err-read.field-0.0 ≡ 1 → (texts : Table → List ℕ)
    → AreRows g.I.Read.remaining c.args.tables texts → AreRefusedToServe texts ⊎ MayNotStandToServe texts c.args.standing.now
    = λ status texts are. inl (c.in_err-read.ensures.data status texts are) in
    rw is here

pub returns-in_err-base-clause-refused : goal.returns-in_err-base-clause-refused
returns-in_err-base-clause-refused g c =
    let is : c.from_residual-in_err-base.result ≡ Err common.OutOfMemory = search rules in
    let here : status_of common.OutOfMemory ≡ 1 → (texts : Table → List ℕ)
    → AreRows g.I.Read.remaining c.args.tables texts → AreRefusedToServe texts ⊎ MayNotStandToServe texts c.args.standing.now
    = λ status texts are. absurd (omega (arith, status)) in
    rw is here

pub returns-in_err-loaded-clause-refused : goal.returns-in_err-loaded-clause-refused
returns-in_err-loaded-clause-refused g c =
    let p = err_from_is_err_and c.from_residual-in_err-loaded.result c.from_residual-in_err-loaded.ensures.1 in
    let same : c.in_ok-base.base.value ≡ c.in_ok-read.read.0 = search rules in
    rw p.1 (λ status texts are. inr (may_not_stand _ texts _ _ _ same (c.in_ok-read.ensures.base texts are)
    (may_have_too_many _ _ c.in_ok-base.base.value c.args.standing.now refl c.in_err-loaded.ensures.too_many
    (sym p.2 ∙ status))))

pub returns-in_err-loaded-clause-words : goal.returns-in_err-loaded-clause-words
returns-in_err-loaded-clause-words g c =
    let p = err_from_is_err_and c.from_residual-in_err-loaded.result c.from_residual-in_err-loaded.ensures.1 in
    rw p.1 (λ is. standing_no_words _ (sym p.2 ∙ is))

pub returns-clause-base : goal.returns-clause-base
returns-clause-base g c = λ texts are.
    let same : c.in_ok-base.base.value ≡ c.in_ok-read.read.0 = search rules in
    subst (IsLoadedToServe texts) (sym (c.counted_in.ensures ∙ (c.in_ok-loaded.ensures.base ∙ same)))
    (c.in_ok-read.ensures.base texts are)

pub returns-clause-marked : goal.returns-clause-marked
returns-clause-marked g c =
    let same : c.in_ok-base.base.value ≡ c.in_ok-read.read.0 = search rules in
    subst (λ (b : Tables). AreMarks b c.table_marks-marks.result)
    (sym (c.counted_in.ensures ∙ (c.in_ok-loaded.ensures.base ∙ same))) c.table_marks-marks.ensures.marks

pub returns-clause-checked : goal.returns-clause-checked
returns-clause-checked g c = λ texts are.
    c.table_marks-marks.ensures.checksums texts (c.in_ok-read.ensures.checksums texts are)
