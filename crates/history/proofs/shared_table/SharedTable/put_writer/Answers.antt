use Rattle.std.proofs.Common.{ap, sym, subst, ◌∙◌}
use Rattle.row_store.specs.History.{IsPrefix}
use Rattle.history.specs.Tokens.{TokenRecord}
use Rattle.history.specs.Tokens as public
use Rattle.history.proofs.PassingLaws.{is_behind, writer_back_seated, writer_back_token}
use Rattle.history.proofs.shared_table.SharedTable.put_writer.Goals as goal

pub put_writer-requires-clause-writer : goal.put_writer-requires-clause-writer
put_writer-requires-clause-writer g c = (
  c.requires.base ∙ sym (ap (λ (t : TokenRecord). t.table.base) c.token.view_is),
  subst (λ (t : TokenRecord). IsPrefix (g.W.Follower.commits c.args.writer) t.seen) (sym c.token.view_is) c.requires.follows,
)

pub invariant_of-token : goal.invariant_of-token
invariant_of-token g c = let is = c.token.invariant in let p = c.token.inside in
    writer_back_seated p c.put_writer.new.seat is (is_behind p c.args.token.now c.token.view_is is c.requires.dispatcher)
    (ap (λ (t : TokenRecord). t.has_rows) c.token.view_is ∙ c.requires.taken.1)
    (ap (λ (t : TokenRecord). t.has_writer) c.token.view_is ∙ c.requires.taken.0) c.put_writer.ensures.2

pub returns : goal.returns
returns g c = record {
  put = writer_back_token c.token.inside c.put_writer.new.seat _ c.put_writer.ensures.0
      c.put_writer.ensures.2 ∙ ap public.without_writer c.token.view_is;
}
