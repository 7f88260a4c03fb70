use Rattle.ssb_server.proofs.opening.Opened.close.Goals as goal

pub returns-clause-base : goal.returns-clause-base
returns-clause-base g c = c.end.ensures.base_is

pub returns-clause-legal : goal.returns-clause-legal
returns-clause-legal g c = c.end.ensures.legal

pub returns-clause-named : goal.returns-clause-named
returns-clause-named g c = c.end.ensures.named

pub returns-clause-seen : goal.returns-clause-seen
returns-clause-seen g c = (c.end.ensures.clients_saw, c.end.ensures.dispatchers_saw)

pub returns-clause-true_log : goal.returns-clause-true_log
returns-clause-true_log g c = c.end.ensures.true_log

pub returns-clause-owns : goal.returns-clause-owns
returns-clause-owns g c = c.end.ensures.owns
