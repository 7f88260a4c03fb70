use Rattle.std.proofs.Common.{◌≤◌, length, Option, Some, vec_capacity, subst, arith}
use Rattle.std.proofs.lemmas.List.{length_push}
use Rattle.history.specs.Tokens.{TokenRecord}
use Rattle.ssb_clients.specs.Tickets.{with_reader}
use Rattle.ssb_clients.proofs.tickets.gather_reader.Goals as goal

pub push_reserved-requires : goal.push_reserved-requires
push_reserved-requires g c =
    let tokens = c.args.tokens.now.items in
    let room : length (with_reader tokens (Some c.in-Some.reader)) ≤ vec_capacity c.args.tokens.now =
    subst (λ (o : Option TokenRecord). length (with_reader tokens o) ≤ vec_capacity c.args.tokens.now) c.in-Some.is
    c.requires in
    omega (arith, room, length_push tokens c.in-Some.reader, c.args.tokens.now.ok.0)
