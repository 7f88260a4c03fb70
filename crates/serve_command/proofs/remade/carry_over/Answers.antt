use Rattle.std.proofs.Common.{◌∙◌, rules, sym}
use Rattle.serve_command.proofs.RemadeLaws.{fetched_still, first_follows, nothing_behind, same_first}
use Rattle.serve_command.proofs.remade.carry_over.Goals as goal

pub returns-then-not-lags-clause-dispatchers : goal.returns-then-not-lags-clause-dispatchers
returns-then-not-lags-clause-dispatchers g c =
    same_first c.args.dispatchers.now _ (sym c.is_empty.ensures ∙ c.if-is_empty.false)

pub returns-clause-dispatchers : goal.returns-clause-dispatchers
returns-clause-dispatchers g c =
    first_follows c.args.dispatchers.now _ c.follow.new.self (sym c.is_empty.ensures ∙ c.if-is_empty.false)
    c.follow.ensures.followed

pub returns-clause-reader : goal.returns-clause-reader
returns-clause-reader g c = fetched_still c.args.reader.now c.commits_from.new.self c.commits_from.ensures.reads

pub returns-clause-same : goal.returns-clause-same
returns-clause-same g c =
    nothing_behind c.args.reader.now c.commits_from.new.self c.seen-seen.result c.in_ok-behind.behind.items
    c.commits_from.ensures.reads c.seen-seen.ensures c.in_ok-behind.ensures.commits (search rules)
