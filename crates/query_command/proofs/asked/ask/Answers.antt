use Rattle.std.proofs.Common.{◌≡◌, ◌∙◌, List, ℕ, map, sym, ap, rules}
use Rattle.query_command.specs.Asked.{constants_asked, values_spelled}
use Rattle.ssb_questions.specs.Queries.{standard_constants}
use Rattle.ssb_questions.specs.Query.{name_of}
use Rattle.query_command.proofs.AskedLaws.{given_asked, is_refused, none_asked}
use Rattle.query_command.proofs.asked.ask.Goals as goal

pub returns-then-is_empty-clause-words : goal.returns-then-is_empty-clause-words
returns-then-is_empty-clause-words c =
    let query = c.in_ok-query.query in
    let words : List (List ℕ) = map (λ word. word.now) c.args.constants.now in
    let named : name_of query ≡ c.args.name.now = search rules in
    let none : standard_constants query ≡ constants_asked query words = none_asked query (λ word. word.now)
    c.args.constants.now (sym c.is_empty.ensures ∙ c.if-is_empty.true) in
    is_refused c.args.name.now words query (standard_constants query) c.standard.result c.taken.result named none
    c.standard.ensures.fault c.taken.ensures.words

pub returns-clause-words : goal.returns-clause-words
returns-clause-words c =
    let query = c.in_ok-query.query in
    let words : List (List ℕ) = map (λ word. word.now) c.args.constants.now in
    let named : name_of query ≡ c.args.name.now = search rules in
    let spelled = c.in_ok-values.ensures ∙ ap (λ kinds. values_spelled kinds words) c.kinds_of.ensures in
    let given : c.in_ok-values.values.items ≡ constants_asked query words = spelled ∙ given_asked query
    (λ word. word.now) c.args.constants.now (sym c.is_empty.ensures ∙ c.if-is_empty.false) in
    is_refused c.args.name.now words query c.in_ok-values.values.items c.with.result c.taken-2.result named given
    c.with.ensures.fault c.taken-2.ensures.words
