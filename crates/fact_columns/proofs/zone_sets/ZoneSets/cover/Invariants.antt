use Rattle.std.proofs.Common.{◌+◌, ◌-◌, ◌/◌, vec_len}
use Rattle.scan_kernel.specs.Zones.{chunk_size}
use Rattle.fact_columns.specs.Zoned.{KeepSets}
use Rattle.fact_columns.specs.ZoneSets.{sets_of}
use Rattle.fact_columns.proofs.zone_sets.ZoneSets.cover.Given as goal

abbrev pub invariant-loop-self : goal.invariant-loop-self
invariant-loop-self l = KeepSets l.fn.self (sets_of l.self-inside)

abbrev pub decreases-loop-self : goal.decreases-loop-self
decreases-loop-self l = l.places / chunk_size + 1 - vec_len l.self-inside.sets
