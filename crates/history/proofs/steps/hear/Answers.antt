use Rattle.std.proofs.Common.{rules, ap, ◌∙◌}
use Rattle.history.specs.Rule.{terms_of}
use Rattle.history.specs.Plays.{hears}
use Rattle.history.proofs.SplittingLaws.{tells, hears_note}
use Rattle.history.proofs.steps.hear.Goals as goal

pub split_seat-note-requires : goal.split_seat-note-requires
split_seat-note-requires g c = let base_of = g.W.Follower.base in (
  search rules,
  search rules,
  tells base_of g.W.Follower.commits (terms_of c.args.ruled.now.shared.key) _ _
      c.requires.token.1.0 c.requires.token.1.1,
)

pub join_seat-requires : goal.join_seat-requires
join_seat-requires g c = let base_of = g.W.Follower.base in let note = c.split_seat-note.ensures.4 in (
  search rules,
  search rules,
  ap (λ m. m.1) note,
  search rules,
  hears_note base_of g.W.Follower.commits (terms_of c.args.ruled.now.shared.key) _ _ _ _ c.requires.token.0.0
      c.requires.token.0.1 (ap (λ m. m.0.role) note),
)

pub returns-clause-own : goal.returns-clause-own
returns-clause-own g c = let did = c.join_seat.ensures in
    (did.0, did.1, did.2 ∙ ap (λ m. (hears c.args.seat.now.me.0 m.0, c.args.seat.now.me.1)) c.split_seat-note.ensures.4)

pub returns-clause-other : goal.returns-clause-other
returns-clause-other g c = let did = c.split_seat-note.ensures in (did.0, did.1, did.2)
