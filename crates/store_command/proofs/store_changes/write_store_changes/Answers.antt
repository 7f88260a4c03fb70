use Rattle.std.proofs.Common.{None, subst}
use Rattle.changes_command.specs.Written.{Changes}
use Rattle.store_command.proofs.store_changes.write_store_changes.Goals as goal

pub returns-in-Ok-clause-written : goal.returns-in-Ok-clause-written
returns-in-Ok-clause-written g c = λ texts are.
    let contents = g.W.Write.contents in
    let asked = c.in_ok-asked.asked in (
      asked.past,
      subst (λ format. Changes texts None asked.past c.args.place.now.start format (contents c.args.out.now)
          (contents c.write_changes.new.out)) c.in_ok-asked.ensures.format
          (subst (λ start. Changes texts None asked.past start asked.format (contents c.args.out.now)
          (contents c.write_changes.new.out)) c.in_ok-asked.ensures.start (c.in-Ok.ensures.written texts are).0),
    )
