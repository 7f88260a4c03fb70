use Rattle.std.proofs.Common.{◌≡◌, ◌++◌, flat_map, map, take}
use Rattle.ssb_script.specs.Lines.{behind_bar}
use Rattle.ssb_script.proofs.statement.push_others.Given as goal

abbrev pub invariant-loop-field : goal.invariant-loop-field
invariant-loop-field l =
    l.text.items ≡ l.fn.text.items ++ flat_map behind_bar (map (λ field. field.now) (take l.field-index l.fields))
