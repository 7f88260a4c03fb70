use Rattle.std.proofs.Common.{◌≡◌, [], drop, take}
use Rattle.ssb_base.specs.Places.{place_in}
use Rattle.ssb_base.specs.Base.{repeated_fault, has_key_of}
use Rattle.ssb_schema.specs.FirstFault.{rows_fault}
use Rattle.ssb_base.specs.Indexed.{IsIndexOf}
use Rattle.ssb_base.proofs.index.Index.of.Given as goal

abbrev pub invariant-loop-i : goal.invariant-loop-i
invariant-loop-i g l =
    let fault_after = repeated_fault g.F.Fields.of_table (has_key_of g.F.Keyed.key_of) in
    record {
      rest : rows_fault fault_after (take l.i l.rows) (drop l.i l.rows) ≡ rows_fault fault_after [] l.rows;
      index : IsIndexOf g.F.Keyed.key_of (take l.i l.rows) l.rows (place_in l.places);
    }
