use Rattle.std.proofs.Common.{◌+◌, ◌∙◌, ℕ, drop, ap, sym, arith}
use Rattle.terminal.specs.Typed.{open_behind}
use Rattle.terminal.proofs.QuoteLaws.{open_behind-end, open_behind-more}
use Rattle.terminal.proofs.quotes.open_at_end.Goals as goal

pub loop-byte-preserved : goal.loop-byte-preserved
loop-byte-preserved c =
    let text = c.args.text.now in
    let place = c.loop-byte.byte-index in
    ap (λ (quote : ℕ). open_behind quote (drop (place + 1) text)) c.quote_behind-quote.ensures
    ∙ sym (open_behind-more c.loop-byte.quote text place (omega arith))
    ∙ c.loop-byte.invariant

pub returns : goal.returns
returns c = sym (open_behind-end c.loop-byte.quote c.args.text.now c.loop-byte.byte-index (omega arith)) ∙ c.loop-byte.invariant
