use Rattle.std.proofs.Common.{◌<◌, length, ap, sym, subst, ◌∙◌, arith}
use Rattle.atomic_table.specs.Table.{rest}
use Rattle.history.specs.Words.{request}
use Rattle.history.specs.Plays.{posted}
use Rattle.history.specs.Tokens.{TokenRecord, TableRecord}
use Rattle.history.specs.Tokens as public
use Rattle.history.proofs.SplittingLaws.{in_front}
use Rattle.history.proofs.PassingLaws.{is_before, box_in_front, posted_seated, posted_token}
use Rattle.history.proofs.shared_table.SharedTable.post.Goals as goal

pub post-requires-clause-table : goal.post-requires-clause-table
post-requires-clause-table g c = let is = c.token.invariant in let near =
    is_before c.token.inside c.args.token.now c.token.view_is is c.requires.client in let few = is.few in
    let table = ap (λ (t : TokenRecord). t.table) c.token.view_is ∙ (c.requires.table ∙ sym c.self.view_is) in let clients =
    ap (λ (h : TableRecord). h.clients) table in let words = c.self.invariant.words in
    (omega arith, omega arith, c.turn.ensures.0 ∙ ap (λ (h : TableRecord). h.id) table)

pub post-requires-clause-token : goal.post-requires-clause-token
post-requires-clause-token g c = let is = c.token.invariant in let near =
    is_before c.token.inside c.args.token.now c.token.view_is is c.requires.client in (
      ap (λ m. m.0.role) c.turn.ensures.2 ∙ is.role,
      subst (λ m. c.token.inside.place < m.0.terms.clients)
          (sym c.turn.ensures.2) near,
    )

pub post-requires-clause-mailbox : goal.post-requires-clause-mailbox
post-requires-clause-mailbox g c = let is = c.token.invariant in let near =
    is_before c.token.inside c.args.token.now c.token.view_is is c.requires.client in let quiet =
    ap (λ (t : TokenRecord). t.asked) c.token.view_is ∙ c.requires.mailbox in (
      ap (λ m. m.0.has_box) c.turn.ensures.2 ∙ (is.in_hand.0 near).0,
      ap (λ m. m.0.asked) c.turn.ensures.2 ∙ quiet,
      in_front _ _ _ (ap (λ m. m.1) c.turn.ensures.2 ∙ box_in_front c.token.inside is near quiet),
    )

pub post-requires-clause-floor : goal.post-requires-clause-floor
post-requires-clause-floor g c = c.token.invariant.seen_len ∙ ap (λ m. length m.0.member.seen) (sym c.turn.ensures.2)

pub invariant_of-token : goal.invariant_of-token
invariant_of-token g c = let is = c.token.invariant in let p = c.token.inside in let near =
    is_before p c.args.token.now c.token.view_is is c.requires.client in let quiet =
    ap (λ (t : TokenRecord). t.asked) c.token.view_is ∙ c.requires.mailbox in
    posted_seated p c.post.new.seat (request c.args.questions p.seen_len) is near
    (c.post.ensures.2 ∙ (ap (λ m. (posted m.0 (request c.args.questions p.seen_len), rest m.1)) c.turn.ensures.2
    ∙ ap (λ cs. (posted p.seat.me.0 (request c.args.questions p.seen_len), rest cs)) (box_in_front p is near quiet)))

pub returns : goal.returns
returns g c = let p = c.token.inside in record {
  posted = posted_token p c.post.new.seat c.args.questions _ c.token.invariant (c.post.ensures.0 ∙ c.turn.ensures.0)
      (c.post.ensures.2 ∙ ap (λ m. (posted m.0 (request c.args.questions p.seen_len), rest m.1)) c.turn.ensures.2)
      ∙ ap (λ t. public.posted t c.args.questions) c.token.view_is;
}
