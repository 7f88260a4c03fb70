use Rattle.std.proofs.Common.{inl, inr}
use Rattle.query_command.proofs.query.run_board.Goals as goal

pub returns-in-Ok-report_board-clause-reports : goal.returns-in-Ok-report_board-clause-reports
returns-in-Ok-report_board-clause-reports g c = λ status text known.
    let has = c.in-Ok-report_board.ensures.report in
    record {
      base = c.in-Ok-load.sourced.base;
      after = c.in-Ok-load.sourced.after;
      held = c.in-Ok-load.ensures.base;
      is = record {
        titles = c.in-Ok.board.titles.items;
        asked = c.in-Ok.board.asked.items;
        board = c.in-Ok.ensures.board text known;
        report = has.0;
        of_base = has.1;
        appends = has.2;
      };
    }

pub returns-clause-fault : goal.returns-clause-fault
returns-clause-fault g c = λ status.
    elim (c.in-Err-report_board.ensures.part) [
      | inl same ↦ inl same
      | inr has ↦ inr (λ text known. record {
        base = c.in-Ok-load.sourced.base;
        after = c.in-Ok-load.sourced.after;
        held = c.in-Ok-load.ensures.base;
        is = record {
          titles = c.in-Ok.board.titles.items;
          asked = c.in-Ok.board.asked.items;
          board = c.in-Ok.ensures.board text known;
          report = has.0;
          of_base = has.1;
          appends = has.2;
        };
      })
    ]
