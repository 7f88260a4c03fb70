use Rattle.std.proofs.Common.{◌<◌, arith, get_or, length, subst, sym, take}
use Rattle.std.proofs.lemmas.List.{length-take, take_more}
use Rattle.fact_columns.specs.Zoned.{AreZonesOfPlaces, HasLine}
use Rattle.fact_columns.proofs.ZoneLaws.{keep_all_on, no_place, zones_push}
use Rattle.fact_columns.proofs.fact_table.mark_from.Goals as goal

pub loop-at-preserved : goal.loop-at-preserved
loop-at-preserved c =
    let places = c.args.columns.now.places in
    let at = c.loop-at.at in
    let old = c.loop-at.zones in
    let new = c.mark.new.self in
    let within : at < length places = omega (arith, c.loop-at-test.true, c.len-at-end.ensures) in
    let here = subst (HasLine new at) (c.scanned_line.ensures no_place) c.mark.ensures.here in
    record {
      zoned = subst (AreZonesOfPlaces new) (sym (take_more places at no_place within)) (zones_push old new
          (take at places) c.mark.ensures.kept c.loop-at.invariant.zoned at (get_or places at no_place)
          (omega (arith, within, length-take at places)) here);
      kept = keep_all_on c.args.zones.now old new c.loop-at.invariant.kept c.mark.ensures.kept;
    }
