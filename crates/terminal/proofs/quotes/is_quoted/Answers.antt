use Rattle.std.proofs.Common.{◌∙◌, ◌==◌, ◌&&◌, Bool, ap, sym, rules, tests}
use Rattle.std.proofs.lemmas.Iterator.{YieldsList-from_slice}
use Rattle.std.proofs.lemmas.Iterator.Search.{any_from_yields_List}
use Rattle.terminal.specs.Typed.{is_quote, open_behind}
use Rattle.terminal.proofs.quotes.is_quoted.Goals as goal

pub returns-else-any : goal.returns-else-any
returns-else-any c =
    let text = c.args.text.now in
    let found = any_from_yields_List is_quote _ _ c.any.result c.any.ensures.ran (YieldsList-from_slice text cc)
    (λ x b q k. search (rules, tests)) in
    c.if-any.false ∙ ap (λ (is_found : Bool). is_found && (open_behind 0 text == 0)) (sym c.if-any.false ∙ found)
