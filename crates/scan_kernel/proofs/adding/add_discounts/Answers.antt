use Rattle.std.proofs.Common.{ℕ, ◌<◌, ◌*◌, ◌%◌, length, get_or, arith, refl, ◌∙◌, ap}
use Rattle.std.proofs.lemmas.List.{length-set}
use Rattle.std.proofs.lemmas.List.Elements.{All-get_or}
use Rattle.scan_kernel.proofs.AddLaws.{adds_none, adds_more}
use Rattle.scan_kernel.proofs.adding.add_discounts.Goals as goal

pub loop-at-init : goal.loop-at-init
loop-at-init c = record { len = refl; added = λ group are. adds_none _ group _ }

pub loop-at-preserved : goal.loop-at-preserved
loop-at-preserved c =
    let in_groups : c.loop-at.at < length c.args.groups.now = omega (arith, c.requires.groups) in
    let room = All-get_or (λ (g : ℕ). g < length c.args.sums.now) c.args.groups.now c.loop-at.at 0 in_groups
    c.requires.room in
    record {
      len = ap length c.add.ensures ∙ length-set c.loop-at.sums _ _ ∙ c.loop-at.invariant.len;
      added = λ group are. adds_more (λ place. get_or c.args.price.now place 0 * (get_or c.args.terms.now place 0 % 16))
          group c.args.places.now c.args.groups.now c.loop-at.at _ _ _ _ _ are (c.loop-at.invariant.added group are)
          c.loop-at-test.true room refl c.price_times_discount-amount.ensures c.add.ensures;
    }
