use Rattle.std.proofs.Common.{subst}
use Rattle.ssb_script.specs.Ahead.{AskFirst}
use Rattle.ssb_script.specs.Requests.{request_of}
use Rattle.ssb_script.proofs.AheadLaws.{asks_first}
use Rattle.stream_sessions.specs.Ahead.{asked_ahead}
use Rattle.stream_sessions.proofs.AheadLaws.{stands_first}
use Rattle.stream_sessions.proofs.ahead.Requests.next.Goals as goal

pub unreachable-requires : goal.unreachable-requires
unreachable-requires c =
    let bytes = c.args.at_hand.now in
    let one = request_of c.in-Some-None.field-0-0 in
    let first = asks_first bytes one (asked_ahead c.next.new.self)
    (subst (AskFirst bytes) c.in-Some-None.ensures c.look.ensures) in
    c.in-Some-None.ensures'.none first.request first.more first.is first.joined

pub returns-in-Some-Some : goal.returns-in-Some-Some
returns-in-Some-Some c =
    let bytes = c.args.at_hand.now in
    stands_first bytes c.in-Some-Some.size _ (asked_ahead c.next.new.self)
    (subst (AskFirst bytes) c.in-Some-Some.ensures c.look.ensures) c.in-Some-Some.ensures'.whole
