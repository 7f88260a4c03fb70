use Rattle.std.proofs.Common.{◌≡◌, ◌∙◌, length, arith, ap}
use Rattle.std.proofs.lemmas.List.{take_at}
use Rattle.ssb_schema.proofs.text.Text.short.Goals as goal

pub invariant_of-result : goal.invariant_of-result
invariant_of-result c =
    let copied = c.copy_from_slice.ensures.after in
    let same : length c.copy_from_slice.new.self ≡ length c.args.text.now = ap length copied
    ∙ ap length c.as_bytes.ensures.value in (
      omega (arith, c.requires),
      rw (take_at c.copy_from_slice.new.self _ (length c.args.text.now) same, copied) c.as_bytes.ensures.utf8,
    )
