use Rattle.std.proofs.Common.{◌≡◌, ◌∙◌, Option, List, IfOk, map, ap, subst, option_map}
use Rattle.std.specs.Option.{option_and_then}
use Rattle.ssb_questions.specs.declared.value.Value.{Value}
use Rattle.ssb_script.specs.Lines.{taken_by, texts_spelled, without_closing}
use Rattle.ssb_script.proofs.question.question_of_clauses.Goals as goal

pub returns : goal.returns
returns c =
    let columns = ap (map (λ column. column.now)) c.as_slice.ensures.value ∙ c.in_ok-columns.ensures in
    let texts = c.in_ok-texts_spelled.ensures
    ∙ ap texts_spelled (c.without_closing.ensures ∙ ap without_closing columns) in
    subst (λ (given : Option (List Value)). IfOk c.taken.result (λ question. question ≡ option_map
    (λ constants. (c.args.query, constants)) (option_and_then (taken_by c.args.query) given)))
    texts c.taken.ensures
