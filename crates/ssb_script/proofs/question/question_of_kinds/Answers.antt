use Rattle.std.proofs.Common.{◌≡◌, ◌+◌, ◌∙◌, Option, Some, true, false, length, List, IfOk, refl, sym, subst}
use Rattle.std.proofs.Common.{option_map}
use Rattle.std.specs.Option.{option_and_then}
use Rattle.csv.specs.Records.{fields_of}
use Rattle.ssb_questions.specs.declared.value.Value.{Value}
use Rattle.ssb_text.specs.Records.{has_columns}
use Rattle.ssb_script.specs.Lines.{constants_given, constants_from, taken_by}
use Rattle.ssb_script.proofs.question.question_of_kinds.Goals as goal

pub returns : goal.returns
returns c =
    let fields = fields_of c.args.fields.now in
    let kinds = c.args.kinds.now in
    let some : has_columns c.args.place fields ≡ false = sym c.has_columns.ensures ∙ c.if-has_columns.false in
    let all : has_columns (c.args.place + length kinds) fields ≡ true =
    sym c.has_columns-2.ensures ∙ c.if-not-has_columns.false in
    let read : constants_from c.args.place kinds fields ≡ constants_given c.args.place c.args.query (Some kinds)
    fields =
    rw (some, all) refl in
    subst (λ (given : Option (List Value)). IfOk c.taken.result (λ question. question ≡ option_map
    (λ constants. (c.args.query, constants)) (option_and_then (taken_by c.args.query) given)))
    (c.in_ok-constants_from.ensures ∙ read) c.taken.ensures
