use Rattle.std.proofs.Common.{◌∙◌, List, ◌++◌, ap, append-nil, sym}
use Rattle.dimension_index.proofs.CodeLaws.{distinct_push}
use Rattle.dimension_index.specs.Codes.{distinct}
use Rattle.ssb_questions.specs.declared.value.Value.{Value}
use Rattle.query_command.proofs.SizeLaws.{one_taken, none_taken}
use Rattle.query_command.proofs.sizes.enter_taken.Goals as goal

pub returns : goal.returns
returns g c = λ values same.
    let value_of = g.F.QueryFields.value_of in
    let row = c.args.row.now in
    let place = c.args.place in
    rw (c.in_ok-enter.ensures.values, same, c.value.ensures) (sym (distinct_push values (value_of place row))
    ∙ ap (λ (more : List Value). distinct (values ++ more))
    (one_taken c.args.tests.now value_of row place c.if-not-passes.ensures))

pub returns-then-not-passes : goal.returns-then-not-passes
returns-then-not-passes g c = λ values same.
    same ∙ ap distinct (sym (append-nil values)) ∙ ap (λ (more : List Value). distinct (values ++ more))
    (none_taken c.args.tests.now g.F.QueryFields.value_of c.args.row.now c.args.place c.if-not-passes.ensures)
