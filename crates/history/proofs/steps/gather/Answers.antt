use Rattle.std.proofs.Common.{rules, ap, ◌∙◌}
use Rattle.history.specs.Rule.{terms_of}
use Rattle.history.specs.Plays.{gathers}
use Rattle.history.proofs.SplittingLaws.{yields, gathers_token}
use Rattle.history.proofs.steps.gather.Goals as goal

pub split_seat-token-requires : goal.split_seat-token-requires
split_seat-token-requires g c = let base_of = g.W.Follower.base in let free = c.requires.other in (
  search rules,
  search rules,
  yields base_of g.W.Follower.commits (terms_of c.args.ruled.now.shared.key) _ _
      free.token.0 free.token.1 free.gathered,
)

pub join_seat-requires : goal.join_seat-requires
join_seat-requires g c = let base_of = g.W.Follower.base in let free = c.requires.other in let token =
    c.split_seat-token.ensures.4 in (
      search rules,
      search rules,
      ap (λ m. m.1) token,
      search rules,
      gathers_token base_of g.W.Follower.commits (terms_of c.args.ruled.now.shared.key) _ _ _ _ c.requires.token.0
          free.token.0 c.requires.token.1 (ap (λ m. m.0.role) token ∙ free.token.1) (
            ap (λ m. m.0.holds_rows) token ∙ free.rows,
            ap (λ m. m.0.holds_writer) token ∙ free.writer,
            ap (λ m. m.0.asked) token ∙ free.asked,
          ),
    )

pub returns : goal.returns
returns g c = let did = c.join_seat.ensures in (
  did.0,
  did.1,
  did.2 ∙ ap (λ m. (gathers c.args.seat.now.me.0 m.0, c.args.seat.now.me.1)) c.split_seat-token.ensures.4,
)
