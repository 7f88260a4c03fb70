use Rattle.std.proofs.Common.{◌≡◌, ◌∙◌, length, sym, arith}
use Rattle.std.proofs.lemmas.List.{ext_get_or, get_or-map, length-map}
use Rattle.ssb_text.specs.Layouts.{as_bar, with_bars}
use Rattle.ssb_text.proofs.barred.put_bars.Goals as goal

pub returns : goal.returns
returns c =
    let l = c.loop-byte in
    let old = c.args.bytes.now in
    let long : length l.bytes ≡ length old = l.auto.bytes in
    ext_get_or 0 l.bytes (with_bars c.args.delimiter old) (long ∙ sym (length-map old (as_bar c.args.delimiter)))
    (λ k inside. l.invariant.done k (omega (arith, inside, c.loop-byte-test.false))
    ∙ sym (get_or-map (as_bar c.args.delimiter) old k 0 0 (omega (arith, inside, long))))
