-- The folder was cleared, so the calls are still those of what was found: newer tables than these are free.
use Rattle.std.proofs.Common.{◌≡◌, ◌∷◌, sym, ◌∙◌, arith, subst, Result, Ok, Err}
use Rattle.std.specs.Result.{IsOk, OnOk}
use Rattle.store_core.specs.Calls.{AreFree, tables_known}
use Rattle.store_command.proofs.checkpoint.write_newer.Goals as goal

on-ok : {T E : Type 0} (r : Result T E) (P : Type 0) → OnOk r P → IsOk r → P
on-ok (Ok x) P h is = h
on-ok (Err e) P h is = absurd cc

pub note_written-requires-clause-free : goal.note_written-requires-clause-free
note_written-requires-clause-free g c =
    let same : c.clear_tables.new.self ≡ c.args.steps.now =
    on-ok c.clear_tables.result (c.clear_tables.new.self ≡ c.args.steps.now) c.clear_tables.ensures.ok c.in_ok-written.ensures in
    let here : c.last-last.result ≡ c.args.journal.now.found.now.last = c.last-last.ensures in
    subst (λ calls. AreFree (tables_known calls) c.last-last.result) (sym (same ∙ c.requires.found))
    (omega (arith, here, c.requires.closed))

pub returns-in-Ok-export_into : goal.returns-in-Ok-export_into
returns-in-Ok-export_into g c =
    let same : c.clear_tables.new.self ≡ c.args.steps.now =
    on-ok c.clear_tables.result (c.clear_tables.new.self ≡ c.args.steps.now) c.clear_tables.ensures.ok c.in_ok-written.ensures in
    let here : c.last-last.result ≡ c.args.journal.now.found.now.last = c.last-last.ensures in
    let noted = c.note_written.ensures in
    cc
