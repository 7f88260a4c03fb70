use Rattle.std.proofs.Common.{◌≡◌, ◌∙◌, ◌++◌, Some, rules, sym}
use Rattle.std.specs.Prelude.{codes, decimal}
use Rattle.std.proofs.lemmas.Bool.Decides.{Decides-eqb}
use Rattle.std.proofs.lemmas.Slice.Eq.{strip_prefix_is}
use Rattle.store_folder.specs.Texts.{line}
use Rattle.store_folder.proofs.HeadLaws.{behind_tables}
use Rattle.store_folder.proofs.LineLaws.{none_is, number_is, number_is_one_line, some_is}
use Rattle.store_folder.proofs.sizes.Sizes.of_text.Goals as goal

pub returns-in_default-line_behind : goal.returns-in_default-line_behind
returns-in_default-line_behind c = λ after store lines small one same.
    let titled = strip_prefix_is Decides-eqb c.args.text.now (codes "ssb_live tables 1\n") (Some c.in-Some.text) c.in-Some.ensures.cases in
    let behind = behind_tables after store lines c.args.text.now c.in-Some.text.now titled same in
    absurd (c.in_default-line_behind.ensures (decimal after) (line (codes "of") store ++ lines) (number_is_one_line after small) behind)

pub returns-in_default-line_behind-2 : goal.returns-in_default-line_behind-2
returns-in_default-line_behind-2 c = λ after store lines small one same.
    let titled = strip_prefix_is Decides-eqb c.args.text.now (codes "ssb_live tables 1\n") (Some c.in-Some.text) c.in-Some.ensures.cases in
    let behind = behind_tables after store lines c.args.text.now c.in-Some.text.now titled same in
    let first = c.in-Some-line_behind.ensures (decimal after) (line (codes "of") store ++ lines) (number_is_one_line after small) behind in
    absurd (c.in_default-line_behind-2.ensures store lines one first.1)

pub returns-in_default-number : goal.returns-in_default-number
returns-in_default-number c = λ after store lines small one same.
    let titled = strip_prefix_is Decides-eqb c.args.text.now (codes "ssb_live tables 1\n") (Some c.in-Some.text) c.in-Some.ensures.cases in
    let behind = behind_tables after store lines c.args.text.now c.in-Some.text.now titled same in
    let first = c.in-Some-line_behind.ensures (decimal after) (line (codes "of") store ++ lines) (number_is_one_line after small) behind in
    absurd (none_is after (sym c.in_default-number.is ∙ c.number.ensures ∙ number_is _ after small first.0))

pub returns : goal.returns
returns c = λ after store lines small one same.
    let titled = strip_prefix_is Decides-eqb c.args.text.now (codes "ssb_live tables 1\n") (Some c.in-Some.text) c.in-Some.ensures.cases in
    let behind = behind_tables after store lines c.args.text.now c.in-Some.text.now titled same in
    let first = c.in-Some-line_behind.ensures (decimal after) (line (codes "of") store ++ lines) (number_is_one_line after small) behind in
    let second = c.in-Some-line_behind-2.ensures store lines one first.1 in
    let copied : c.in_ok-to_vec.field-0.items ≡ c.in-Some-line_behind-2.of.now = search rules in
    let left : c.in_ok-to_vec-2.field-0.items ≡ c.in-Some-line_behind-2.lines.now = search rules in (
      some_is _ _ (sym c.in-Some-number.is ∙ c.number.ensures ∙ number_is _ after small first.0),
      copied ∙ second.0,
      left ∙ second.1,
    )
