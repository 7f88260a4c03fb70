use Rattle.std.proofs.Common.{◌+◌, ◌++◌, ◌∙◌, ℕ, List, drop, get_or, ap, sym, append_assoc, append-nil, arith}
use Rattle.terminal.specs.Typed.{meant_by, unquoted}
use Rattle.terminal.proofs.QuoteLaws.{unquoted-end, unquoted-more}
use Rattle.terminal.proofs.quotes.unquoted.Goals as goal

pub loop-byte-preserved : goal.loop-byte-preserved
loop-byte-preserved c =
    let text = c.args.text.now in
    let place = c.loop-byte.byte-index in
    let quote = c.loop-byte.quote in
    let meant = c.loop-byte.meant.items in
    let byte = get_or text place 0 in
    let rest = drop (place + 1) text in
    ap (λ (items : List ℕ). items ++ unquoted c.quote_behind-quote.result rest) c.in_ok-push_meant.ensures
    ∙ ap (λ (quote_after : ℕ). (meant ++ meant_by quote byte) ++ unquoted quote_after rest) c.quote_behind-quote.ensures
    ∙ append_assoc meant (meant_by quote byte) _
    ∙ ap (λ (behind : List ℕ). meant ++ behind) (sym (unquoted-more quote text place (omega arith)))
    ∙ c.loop-byte.invariant

pub returns : goal.returns
returns c =
    let meant = c.loop-byte.meant.items in
    sym (append-nil meant)
    ∙ ap (λ (behind : List ℕ). meant ++ behind)
    (sym (unquoted-end c.loop-byte.quote c.args.text.now c.loop-byte.byte-index (omega arith)))
    ∙ c.loop-byte.invariant
