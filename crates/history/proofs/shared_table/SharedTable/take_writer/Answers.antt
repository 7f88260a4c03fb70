use Rattle.std.proofs.Common.{ap, ◌∙◌}
use Rattle.history.specs.Tokens.{TokenRecord}
use Rattle.history.specs.Tokens as public
use Rattle.history.proofs.PassingLaws.{is_behind, writer_taken_seated, writer_taken_token}
use Rattle.history.proofs.shared_table.SharedTable.take_writer.Goals as goal

pub take_writer-requires-clause-token : goal.take_writer-requires-clause-token
take_writer-requires-clause-token g c = (
  c.token.invariant.role,
  is_behind c.token.inside c.args.token.now c.token.view_is c.token.invariant c.requires.dispatcher,
)

pub invariant_of-token : goal.invariant_of-token
invariant_of-token g c = let is = c.token.invariant in let p = c.token.inside in
    writer_taken_seated p c.take_writer.new.seat (g.W.Follower.commits c.take_writer.result) is
    (is_behind p c.args.token.now c.token.view_is is c.requires.dispatcher)
    (ap (λ (t : TokenRecord). t.has_rows) c.token.view_is ∙ c.requires.free.0)
    (ap (λ (t : TokenRecord). t.has_writer) c.token.view_is ∙ c.requires.free.1) c.take_writer.ensures.1.2

pub returns-clause-base : goal.returns-clause-base
returns-clause-base g c = c.take_writer.ensures.0 ∙ ap (λ (t : TokenRecord). t.table.base) c.token.view_is

pub returns-clause-taken : goal.returns-clause-taken
returns-clause-taken g c = writer_taken_token c.token.inside c.take_writer.new.seat
    (g.W.Follower.commits c.take_writer.result) _ c.take_writer.ensures.1.0 c.take_writer.ensures.1.2
    ∙ ap (λ t. public.with_writer t (g.W.Follower.commits c.take_writer.result)) c.token.view_is
