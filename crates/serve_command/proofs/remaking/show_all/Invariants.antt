use Rattle.std.proofs.Common.{◌≡◌, ℕ, ◌<◌, Some}
use Rattle.std.specs.Prelude.{slice_get}
use Rattle.history.specs.Tokens.{TokenRecord}
use Rattle.ssb_serving.specs.Members.{IsStill}
use Rattle.serve_command.specs.Seated.{AreSeated}
use Rattle.serve_command.proofs.remaking.show_all.Given as goal

-- the clients so far were shown the history
abbrev pub invariant-loop-place : goal.invariant-loop-place
invariant-loop-place g l = record {
  reader : IsStill l.initial.reader l.reader;
  same : l.reader.seen ≡ l.initial.reader.seen;
  clients : AreSeated l.server l.initial.reader.seen l.clients;
  shown : (i : ℕ) (client : TokenRecord) → i < l.place → slice_get l.clients i ≡ Some client
      → client.seen ≡ l.initial.reader.seen;
}
