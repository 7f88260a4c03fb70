use Rattle.std.proofs.Common.{Some, ap}
use Rattle.std.proofs.lemmas.List.Elements.{All-pop}
use Rattle.ssb_clients.specs.Counts.{has_reader}
use Rattle.ssb_server.specs.Opening.{IsNewDispatcher}
use Rattle.ssb_server.proofs.ReaderLaws.{idle_at_first}
use Rattle.ssb_server.proofs.opening.reader_of.Goals as goal

pub last_token-token-requires : goal.last_token-token-requires
last_token-token-requires g c = c.requires.some (ap has_reader c.in-Unread.is)

pub new-requires : goal.new-requires
new-requires g c = idle_at_first c.requires.base c.last_token-token.result (All-pop (IsNewDispatcher c.requires.base)
    c.args.tokens.now.items c.last_token-token.new.tokens.items (Some c.last_token-token.result)
    c.last_token-token.ensures c.requires.new).1
