use Rattle.ssb_server.proofs.passes.StandingColumnsAnswersBatch.answer_batch.Goals as goal

pub answer_all-requires-clause-snapshot : goal.answer_all-requires-clause-snapshot
answer_all-requires-clause-snapshot g c = λ κs outlives. record {
  history = c.requires.few.history;
  stands = c.requires.few.stands;
  few = c.requires.few.few;
}

pub returns : goal.returns
returns g c history stands = c.in_ok-rows.ensures history stands
