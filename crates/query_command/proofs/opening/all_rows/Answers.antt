use Rattle.std.proofs.Common.{rules}
use Rattle.standing_columns.proofs.PassLaws.{row_of, pass_next, pass_last}
use Rattle.query_command.proofs.opening.all_rows.Goals as goal

pub loop-rest-preserved : goal.loop-rest-preserved
loop-rest-preserved g c history stands =
    pass_next (row_of c.args.columns.now.base history) c.args.questions.now c.loop-rest.rest.now
    c.split_at.result.0.now c.split_at.result.1.now _ c.loop-rest.rows.items c.in_ok-found.found.items
    c.append.new.self.items c.split_at.ensures.front c.split_at.ensures.back (c.in_ok-found.ensures history stands)
    c.in_ok-append.ensures.items (c.loop-rest.invariant history stands)

pub returns : goal.returns
returns g c history stands =
    pass_last (row_of c.args.columns.now.base history) c.args.questions.now c.loop-rest.rest.now c.loop-rest.rows.items
    (search rules) (c.loop-rest.invariant history stands)
