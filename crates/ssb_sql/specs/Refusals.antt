-- A text is refused where it means nothing, or where memory runs out.
use Rattle.std.specs.Prelude.{◌≡◌, Option, None, ◌⊎◌}
use Rattle.ssb_sql.specs.declared.fault.SqlFault.{SqlFault}
use Rattle.ssb_sql.specs.declared.fault.SqlFault.TheVariants.{OutOfMemory}

abbrev pub Refuses : {X : Type 0} → Option X → SqlFault → Type 0
Refuses outcome fault = (fault ≡ OutOfMemory) ⊎ (outcome ≡ None)
