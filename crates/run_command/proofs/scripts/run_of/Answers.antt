use Rattle.std.proofs.Common.{◌≡◌, ◌∙◌, ◌⊎◌, Err, arith, inl, inr, map, rules, subst, sym}
use Rattle.ssb_files.specs.Scripts.{HasRefused}
use Rattle.ssb_files.specs.Standing.{MayHaveTooManyGroups}
use Rattle.ssb_files.specs.declared.job.JobFault.TheVariants.{Program}
use Rattle.ssb_audit.specs.Legal.{IsLegalTrace}
use Rattle.run_command.specs.Run.{IsRun}
use Rattle.run_command.specs.Status.{serving_status}
use Rattle.run_command.proofs.scripts.run_of.Goals as goal

pub returns-in_err-scripts-clause-refused : goal.returns-in_err-scripts-clause-refused
returns-in_err-scripts-clause-refused g c =
    let is : c.from_residual.result ≡ Err (Program c.in_err-scripts.field-0.0) = search rules in
    let here : serving_status (Program c.in_err-scripts.field-0.0) ≡ 1
    → HasRefused (map g.I.Read.remaining c.args.input.sources.items)
    ⊎ MayHaveTooManyGroups c.args.input.tables c.args.settings.standing.items
    = λ status. inl (c.in_err-scripts.ensures.refused status) in
    rw is here

pub returns-in_err-loaded-clause-refused : goal.returns-in_err-loaded-clause-refused
returns-in_err-loaded-clause-refused g c =
    let is : c.from_residual-in_err-loaded.result ≡ Err (Program c.in_err-loaded.field-0.0) = search rules in
    let here : serving_status (Program c.in_err-loaded.field-0.0) ≡ 1
    → HasRefused (map g.I.Read.remaining c.args.input.sources.items)
    ⊎ MayHaveTooManyGroups c.args.input.tables c.args.settings.standing.items
    = λ status. inr (subst (MayHaveTooManyGroups c.args.input.tables) c.deref.ensures.value
    (c.in_err-loaded.ensures.refused status)) in
    rw is here

pub returns-clause-run : goal.returns-clause-run
returns-clause-run g c = record {
  scripts = c.in_ok-scripts.scripts.items;
  spelled = c.in_ok-scripts.ensures.scripts;
  run = subst
      (λ base. IsRun base c.in_ok-scripts.scripts.items c.args.settings.dispatchers
      (map (λ report. report.items) c.in_ok-run.run'.reports.items) c.in_ok-run.run'.trace) c.in_ok-loaded.ensures.base
      c.in_ok-run.ensures.run;
  legal = subst (λ base. IsLegalTrace base c.in_ok-run.run'.trace) c.in_ok-loaded.ensures.base
      c.in_ok-run.ensures.legal;
}

pub returns-in_err-run-clause-refused : goal.returns-in_err-run-clause-refused
returns-in_err-run-clause-refused g c =
    let is : c.from_residual-in_err-run.result ≡ Err c.in_err-run.field-0.0 = search rules in
    let here : serving_status c.in_err-run.field-0.0 ≡ 1
    → HasRefused (map g.I.Read.remaining c.args.input.sources.items)
    ⊎ MayHaveTooManyGroups c.args.input.tables c.args.settings.standing.items
    = λ status. let no : 4 ≡ 1 = sym c.in_err-run.ensures.fault ∙ status in absurd (omega (arith, no)) in
    rw is here
