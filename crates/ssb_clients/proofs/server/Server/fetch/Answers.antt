use Rattle.std.proofs.Common.{inr}
use Rattle.ssb_clients.proofs.server.Server.fetch.Goals as goal

pub copy_new-commits-requires-clause-taken : goal.copy_new-commits-requires-clause-taken
copy_new-commits-requires-clause-taken g c = inr c.requires.taken
