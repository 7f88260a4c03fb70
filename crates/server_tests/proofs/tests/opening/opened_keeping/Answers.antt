use Rattle.ssb_clients.proofs.StayingLaws.{new_clients_are_quiet, those_that_answer_are_of_it}
use Rattle.server_tests.proofs.tests.opening.opened_keeping.Goals as goal

pub returns-in-Ok-clause-clients : goal.returns-in-Ok-clause-clients
returns-in-Ok-clause-clients g c =
    new_clients_are_quiet c.in-Ok.made.server c.in-Ok.made.clients.items c.in-Ok.ensures.clients

pub returns-in-Ok-clause-dispatchers : goal.returns-in-Ok-clause-dispatchers
returns-in-Ok-clause-dispatchers g c =
    those_that_answer_are_of_it c.in-Ok.made.server c.in-Ok.made.dispatchers.items c.in-Ok.made.reader
    c.in-Ok.ensures.dispatchers
