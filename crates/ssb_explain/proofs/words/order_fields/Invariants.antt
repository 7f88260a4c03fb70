use Rattle.std.proofs.Common.{◌≡◌, ◌∷◌, codes, map, take}
use Rattle.std.specs.String.{string_bytes}
use Rattle.ssb_explain.specs.Words as spec
use Rattle.ssb_explain.proofs.words.order_fields.Given as goal

abbrev pub invariant-loop-key : goal.invariant-loop-key
invariant-loop-key l =
    map string_bytes l.fields.items ≡ codes "order" ∷ map (spec.key_text l.plan) (take l.key-index l.plan.order)
