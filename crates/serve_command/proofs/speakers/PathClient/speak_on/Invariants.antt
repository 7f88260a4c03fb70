use Rattle.history.specs.Members.{number_of}
use Rattle.serve_command.specs.Sessions.{HasHad, IsBetween}
use Rattle.stream_sessions.specs.OneRequest.{AreAlike}
use Rattle.serve_command.proofs.speakers.PathClient.speak_on.Given as goal

-- it is the same client, which has had sessions between ends that were opened; they told of so many commits at most, and
-- took refreshes, where that is said
abbrev pub invariant-loop : goal.invariant-loop
invariant-loop g l =
    AreAlike l.fn.client l.client
    × HasHad (IsBetween g.F.File.Read.remaining g.F.File.Write.contents l.self.past) (number_of l.fn.client.who) l.fn.client l.client
    l.told_with l.took_refreshes
