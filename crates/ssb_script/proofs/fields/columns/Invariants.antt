use Rattle.std.proofs.Common.{◌≡◌, ◌++◌, map, drop}
use Rattle.csv.specs.Records.{fields_of}
use Rattle.ssb_script.proofs.fields.columns.Given as goal

-- the columns so far, and the fields not yet read, are those from the place on
abbrev pub invariant-loop-place : goal.invariant-loop-place
invariant-loop-place l = map (λ column. column.now) l.columns.items
    ++ drop l.place (fields_of l.fields) ≡ drop l.from (fields_of l.fields)
