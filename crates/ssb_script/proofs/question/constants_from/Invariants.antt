use Rattle.std.proofs.Common.{◌≡◌, ◌+◌, ◌++◌, drop}
use Rattle.std.specs.Option.{option_map}
use Rattle.csv.specs.Records.{fields_of}
use Rattle.ssb_script.specs.Lines.{constants_from}
use Rattle.ssb_script.proofs.question.constants_from.Given as goal

-- the constants so far, and those of the fields not yet read, are all
abbrev pub invariant-loop-i : goal.invariant-loop-i
invariant-loop-i l = option_map (λ rest. l.constants.items ++ rest)
    (constants_from (l.place + l.i) (drop l.i l.kinds) (fields_of l.fields)) ≡ constants_from l.place l.kinds
    (fields_of l.fields)
