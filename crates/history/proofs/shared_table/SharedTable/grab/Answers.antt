use Rattle.std.proofs.Common.{◌-◌, ap, subst, ◌∙◌, arith}
use Rattle.history.specs.Tokens.{TokenRecord, TableRecord, Grabs}
use Rattle.history.specs.TokenParts.{shown_token}
use Rattle.history.proofs.PassingLaws.{passed, grabbed_token}
use Rattle.history.proofs.AnsweringLaws.{has_room}
use Rattle.history.proofs.shared_table.SharedTable.grab.Goals as goal

pub insert-requires : goal.insert-requires
insert-requires g c = let p = c.token.inside in let low = c.requires.client.0 in let high = c.requires.client.1 in
    let clients = ap (λ (t : TokenRecord). t.table.clients) c.token.view_is ∙ ap (λ (h : TableRecord). h.clients) c.requires.table in (
      omega arith,
      (
        omega arith,
        has_room p (c.args.client - 1) c.in_ok-request.request c.token.invariant (omega arith)
            c.in_ok-request.ensures.1,
      ),
    )

pub returns : goal.returns
returns g c = let p = c.token.inside in let low = c.requires.client.0 in record {
  grabs = subst (λ t. Grabs t c.args.client c.in_ok-request.request.questions
      (shown_token (passed p c.insert.new.self c.grab.new.seat p.seen_len))) c.token.view_is
      (grabbed_token p c.insert.new.self c.grab.new.seat (c.args.client - 1) c.args.client c.in_ok-request.request _
      (omega arith) c.in_ok-request.ensures.0.0 c.in_ok-request.ensures.0.2);
}
