use Rattle.std.proofs.Common.{◌≡◌, ◌∙◌, refl, rules, subst, sym}
use Rattle.std.proofs.lemmas.Result.{err_from_is_err_and}
use Rattle.ssb_files.specs.Standing.{MayHaveTooManyGroups}
use Rattle.ssb_files.proofs.StandingLaws.{may_have_too_many, standing_no_trace, standing_no_words}
use Rattle.run_command.proofs.scripts.load.Goals as goal

pub returns-in_err-loaded-clause-refused : goal.returns-in_err-loaded-clause-refused
returns-in_err-loaded-clause-refused g c =
    let p = err_from_is_err_and c.from_residual-in_err-loaded.result c.from_residual-in_err-loaded.ensures.1 in
    let same : c.in_ok-base.base.value ≡ c.args.base = search rules in
    rw p.1 (λ status. subst (λ tables. MayHaveTooManyGroups tables c.args.standing.now) same
    (may_have_too_many _ _ c.in_ok-base.base.value c.args.standing.now refl c.in_err-loaded.ensures.too_many
    (sym p.2 ∙ status)))

pub returns-in_err-loaded-clause-words : goal.returns-in_err-loaded-clause-words
returns-in_err-loaded-clause-words g c =
    let p = err_from_is_err_and c.from_residual-in_err-loaded.result c.from_residual-in_err-loaded.ensures.1 in
    rw p.1 (λ is. standing_no_words _ (sym p.2 ∙ is))

pub returns-in_err-loaded-clause-trace : goal.returns-in_err-loaded-clause-trace
returns-in_err-loaded-clause-trace g c =
    let p = err_from_is_err_and c.from_residual-in_err-loaded.result c.from_residual-in_err-loaded.ensures.1 in
    rw p.1 (λ is. standing_no_trace _ (sym p.2 ∙ is))
