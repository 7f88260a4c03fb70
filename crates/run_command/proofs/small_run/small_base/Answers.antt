use Rattle.std.proofs.Common.{◌≡◌, Err, rules}
use Rattle.ssb_files.specs.Loaded.{AreRefused}
use Rattle.ssb_files.specs.declared.job.JobFault.TheVariants.{Program}
use Rattle.small_data.specs.SmallTexts.{small_texts}
use Rattle.run_command.specs.Status.{serving_status}
use Rattle.run_command.proofs.small_run.small_base.Goals as goal

pub returns-in_err-base-clause-data : goal.returns-in_err-base-clause-data
returns-in_err-base-clause-data g c =
    let is : c.from_residual.result ≡ Err (Program c.in_err-base.field-0.0) = search rules in
    let here : serving_status (Program c.in_err-base.field-0.0) ≡ 1 → AreRefused small_texts =
    λ status. c.in_err-base.ensures.data status small_texts (c.benchmark-tables.ensures small_texts c.tables.ensures) in
    rw is here

pub returns-clause-base : goal.returns-clause-base
returns-clause-base g c =
    c.in_ok-base.ensures.base small_texts (c.benchmark-tables.ensures small_texts c.tables.ensures)
