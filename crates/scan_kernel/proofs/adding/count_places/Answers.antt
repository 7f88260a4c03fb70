use Rattle.std.proofs.Common.{ℕ, ◌<◌, length, arith, refl, ◌∙◌, ap}
use Rattle.std.proofs.lemmas.List.{length-set}
use Rattle.std.proofs.lemmas.List.Elements.{All-get_or}
use Rattle.scan_kernel.proofs.AddLaws.{adds_none, adds_more}
use Rattle.scan_kernel.proofs.adding.count_places.Goals as goal

pub loop-at-init : goal.loop-at-init
loop-at-init c = record { len = refl; added = λ group are. adds_none _ group _ }

pub loop-at-preserved : goal.loop-at-preserved
loop-at-preserved c =
    let room = All-get_or (λ (g : ℕ). g < length c.args.counts.now) c.args.groups.now c.loop-at.at 0 c.loop-at-test.true
    c.requires.room in
    record {
      len = ap length c.add.ensures ∙ length-set c.loop-at.counts _ _ ∙ c.loop-at.invariant.len;
      added = λ group are. adds_more (λ place. 1) group c.args.places.now c.args.groups.now c.loop-at.at _ _ _ _ _ are
          (c.loop-at.invariant.added group are) (omega (arith, c.requires.groups)) room refl refl c.add.ensures;
    }
