use Rattle.std.proofs.Common.{◌≡◌, ◌++◌, [], drop}
use Rattle.csv.specs.Records.{fields_of, partial_of}
use Rattle.ssb_text.proofs.line.fields_from.Given as goal

-- the fields so far, and those not yet copied, are those from the place on
abbrev pub invariant-loop-place : goal.invariant-loop-place
invariant-loop-place l = record {
  fields : fields_of l.rest ++ drop l.place (fields_of l.record) ≡ drop l.first (fields_of l.record);
  partial : partial_of l.rest ≡ [];
}
