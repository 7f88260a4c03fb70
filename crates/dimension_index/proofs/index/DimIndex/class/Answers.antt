use Rattle.std.proofs.Common.{◌≡◌, ◌∙◌, length, ap, arith}
use Rattle.ssb_base.specs.Base.{Tables}
use Rattle.dimension_index.specs.Classes.{classes_of}
use Rattle.dimension_index.specs.Keys.{keys_of}
use Rattle.dimension_index.proofs.ClassLaws.{classes_keys}
use Rattle.dimension_index.proofs.index.DimIndex.class.Goals as goal

pub bounds-classes-position : goal.bounds-classes-position
bounds-classes-position c =
    let base = c.self.inside.base.value in
    let t = c.args.table in
    let are : c.of-classes.result.now ≡ classes_of base.dimensions t =
    c.of-classes.ensures ∙ c.self.invariant.classes_are t in
    omega (
      arith,
      c.requires,
      ap (λ (b : Tables). length (keys_of b t)) c.self.view_is,
      classes_keys base t,
      ap length are,
    )
