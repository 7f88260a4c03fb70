use Rattle.std.proofs.Common.{sym, ◌∙◌}
use Rattle.ssb_serving.proofs.StreamLaws.{all_left}
use Rattle.ssb_serving.proofs.threads.run_all.Goals as goal
use Rattle.ssb_serving.proofs.threads.run_all.Goals.{in-Ok, in-Err}

pub returns-clause-spoken : goal.returns-clause-spoken
returns-clause-spoken g c = elim c.match-dispatched.branch [
  | in-Ok w ↦ all_left g.T.Leaves.leaves (λ h. h.promise.seat.value) c.args.crew.speaking.items
      w.start_clients-started.new.speaking.items c.args.crew.seats.items c.join_clients.new.spoken.items
      c.args.crew.no_speaking
      (rw (sym w.started-is ∙ c.in_ok-started.was) at w.start_clients-started.ensures.started)
      (rw w.speaking-is at c.join_clients.ensures)
  | in-Err w ↦ let no = sym w.started-is ∙ c.in_ok-started.was in absurd cc
]
