use Rattle.std.proofs.Common.{◌≡◌, sym, ◌∙◌, eqb-true, arith}
use Rattle.std.specs.Prelude.{vec_len}
use Rattle.standing_columns.proofs.KeptLaws.{kept_after, none_follow}
use Rattle.standing_columns.proofs.columns.StandingColumnsReplica.absorb.Goals as goal

pub invariant_of-self : goal.invariant_of-self
invariant_of-self c =
    let standing = c.self.inside.standing in
    let none : vec_len standing.batches ≡ 0 = eqb-true (vec_len standing.batches) 0 (sym c.is_empty.ensures
    ∙ c.if-is_empty.true) in
    record { follow = none_follow standing c.absorb.new.self.base _ (omega (arith, none)) }

pub invariant_of-self-2 : goal.invariant_of-self-2
invariant_of-self-2 c = record {
  follow = kept_after c.absorb_watched.result c.self.inside.standing c.absorb_watched.new.watch c.self.inside.columns
      c.absorb_watched.new.self c.absorb_watched.ensures.watched c.absorb_watched.ensures.unchanged
      c.absorb_watched.ensures.unwatched c.absorb_watched.ensures.base c.self.invariant.follow;
}
