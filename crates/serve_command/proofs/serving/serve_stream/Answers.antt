use Rattle.std.proofs.Common.{◌∙◌, ⊎_elim, inl, inr, sym}
use Rattle.serve_command.proofs.JournalLaws.{all_written, disk_there, kept_on_disk, none_placed, one_unwritten}
use Rattle.serve_command.proofs.ServedLaws.{ends_alone}
use Rattle.serve_command.proofs.StatusLaws.{serving_failed, serving_told}
use Rattle.serve_command.proofs.serving.serve_stream.Goals as goal

pub returns-in-Ok-clause-ended : goal.returns-in-Ok-clause-ended
returns-in-Ok-clause-ended g c = λ texts are. rw c.into_output.ensures
    (ends_alone _ _ c.args.settings.past _ _ texts _ _ _ _ _ _ (c.in-Ok.ensures.ended texts are)
    (λ log told kept. kept_on_disk g.P.Disk.Disk.may_leave g.P.Disk.Disk.seen _ _ log told _ kept c.disk_of.ensures
    (λ zero. all_written _ _ _ c.was_written-written.ensures.written (c.tell_end.ensures.written zero)))
    c.tell_end.ensures.served
    (λ broke. ⊎_elim (λ not. inr (one_unwritten _ _ _ c.args.place _ c.was_written-written.ensures.written not
    c.in-Ok.ensures.took c.in-Ok.ensures.journal)) (λ err. inl err) (c.tell_end.ensures.broken broke))
    (λ so. ⊎_elim (λ zero. c.was_written-written.ensures.took (c.tell_end.ensures.written zero))
    (λ none. c.in-Ok.ensures.took (none_placed c.args.place _ none)) so))

pub returns-in-Ok-clause-disk : goal.returns-in-Ok-clause-disk
returns-in-Ok-clause-disk g c = disk_there _ _ c.disk_of.ensures ∙ c.in-Ok.ensures.journal

pub returns-in-Err-clause-closed : goal.returns-in-Err-clause-closed
returns-in-Err-clause-closed g c = λ status. absurd (serving_told _ (sym c.tell.ensures ∙ status))

pub returns-in-Err-clause-refused : goal.returns-in-Err-clause-refused
returns-in-Err-clause-refused g c = λ status. c.in-Err.ensures.refused (sym c.tell.ensures ∙ status)

pub returns-in-Err-clause-others : goal.returns-in-Err-clause-others
returns-in-Err-clause-others g c = λ failed no_data.
    c.tell.ensures ∙ serving_failed _ (λ one. no_data (c.tell.ensures ∙ one)) c.in-Err.ensures.words
