use Rattle.std.proofs.Common.{◌≡◌, sym, ap, ◌∙◌, subst}
use Rattle.ssb_base.specs.Base.{IsSound, Tables}
use Rattle.export_command.specs.After.{tables_after}
use Rattle.export_command.specs.Standing.{tables_left}
use Rattle.export_command.proofs.SoundLaws.{tables_after_are_sound}
use Rattle.export_command.proofs.tables_after.TablesAfter.new.Goals as goal

pub invariant_of-result : goal.invariant_of-result
invariant_of-result c =
    let store = c.args.store in
    let same : tables_after store.base store.log ≡ tables_left store.base c.args.orders =
    ap (λ lines. record { limits = store.base.limits; dimensions = store.base.dimensions; lines = lines })
    c.requires.left.lines_are in
    let sound : IsSound store.base = subst IsSound c.base.ensures c.soundness-2.ensures in
    subst IsSound (same ∙ ap (λ (base : Tables). tables_left base c.args.orders) (sym c.into_parts-base.ensures.base))
    (tables_after_are_sound store.base store.log sound c.soundness.ensures.legal c.requires.adds)
