use Rattle.std.proofs.Common.{◌≡◌, ◌∙◌, ◌++◌, None, Some, rules, sym}
use Rattle.std.specs.Prelude.{codes, decimal}
use Rattle.std.proofs.lemmas.Bool.Decides.{Decides-eqb}
use Rattle.std.proofs.lemmas.Slice.Eq.{strip_prefix_is}
use Rattle.store_folder.specs.Texts.{line}
use Rattle.store_folder.proofs.HeadLaws.{behind_title}
use Rattle.store_folder.proofs.LineLaws.{none_is, number_is, number_is_one_line, some_is}
use Rattle.store_folder.proofs.segment_head.SegmentHead.of_text.Goals as goal

pub returns-in_err-after : goal.returns-in_err-after
returns-in_err-after c = λ after before store rest is same.
    let titled = strip_prefix_is Decides-eqb c.args.text.now (codes "ssb_live journal 3\n") (Some c.in_ok-text.text) c.in_ok-text.ensures.cases in
    let lines = behind_title after before store rest c.args.text.now c.in_ok-text.text.now titled same in
    absurd (c.in_err-after.ensures (decimal after) (line (codes "of") store ++ (line (codes "before") (decimal before) ++ rest)) (number_is_one_line after is.after_fits) lines)

pub returns-in_err-of : goal.returns-in_err-of
returns-in_err-of c = λ after before store rest is same.
    let titled = strip_prefix_is Decides-eqb c.args.text.now (codes "ssb_live journal 3\n") (Some c.in_ok-text.text) c.in_ok-text.ensures.cases in
    let lines = behind_title after before store rest c.args.text.now c.in_ok-text.text.now titled same in
    let first = c.in_ok-after.ensures (decimal after) (line (codes "of") store ++ (line (codes "before") (decimal before) ++ rest)) (number_is_one_line after is.after_fits) lines in
    absurd (c.in_err-of.ensures store (line (codes "before") (decimal before) ++ rest) is.one_line first.1)

pub returns-in_err-before : goal.returns-in_err-before
returns-in_err-before c = λ after before store rest is same.
    let titled = strip_prefix_is Decides-eqb c.args.text.now (codes "ssb_live journal 3\n") (Some c.in_ok-text.text) c.in_ok-text.ensures.cases in
    let lines = behind_title after before store rest c.args.text.now c.in_ok-text.text.now titled same in
    let first = c.in_ok-after.ensures (decimal after) (line (codes "of") store ++ (line (codes "before") (decimal before) ++ rest)) (number_is_one_line after is.after_fits) lines in
    let second = c.in_ok-of.ensures store (line (codes "before") (decimal before) ++ rest) is.one_line first.1 in
    absurd (c.in_err-before.ensures (decimal before) rest (number_is_one_line before is.before_fits) second.1)

pub returns-in_err-number : goal.returns-in_err-number
returns-in_err-number c = λ after before store rest is same.
    let titled = strip_prefix_is Decides-eqb c.args.text.now (codes "ssb_live journal 3\n") (Some c.in_ok-text.text) c.in_ok-text.ensures.cases in
    let lines = behind_title after before store rest c.args.text.now c.in_ok-text.text.now titled same in
    let first = c.in_ok-after.ensures (decimal after) (line (codes "of") store ++ (line (codes "before") (decimal before) ++ rest)) (number_is_one_line after is.after_fits) lines in
    let none : c.number.result ≡ None = search rules in
    absurd (none_is after (sym none ∙ c.number.ensures ∙ number_is _ after is.after_fits first.0))

pub returns-in_err-number-2 : goal.returns-in_err-number-2
returns-in_err-number-2 c = λ after before store rest is same.
    let titled = strip_prefix_is Decides-eqb c.args.text.now (codes "ssb_live journal 3\n") (Some c.in_ok-text.text) c.in_ok-text.ensures.cases in
    let lines = behind_title after before store rest c.args.text.now c.in_ok-text.text.now titled same in
    let first = c.in_ok-after.ensures (decimal after) (line (codes "of") store ++ (line (codes "before") (decimal before) ++ rest)) (number_is_one_line after is.after_fits) lines in
    let second = c.in_ok-of.ensures store (line (codes "before") (decimal before) ++ rest) is.one_line first.1 in
    let third = c.in_ok-before.ensures (decimal before) rest (number_is_one_line before is.before_fits) second.1 in
    let none : c.number-2.result ≡ None = search rules in
    absurd (none_is before (sym none ∙ c.number-2.ensures ∙ number_is _ before is.before_fits third.0))

pub returns : goal.returns
returns c = λ after before store rest is same.
    let titled = strip_prefix_is Decides-eqb c.args.text.now (codes "ssb_live journal 3\n") (Some c.in_ok-text.text) c.in_ok-text.ensures.cases in
    let lines = behind_title after before store rest c.args.text.now c.in_ok-text.text.now titled same in
    let first = c.in_ok-after.ensures (decimal after) (line (codes "of") store ++ (line (codes "before") (decimal before) ++ rest)) (number_is_one_line after is.after_fits) lines in
    let second = c.in_ok-of.ensures store (line (codes "before") (decimal before) ++ rest) is.one_line first.1 in
    let third = c.in_ok-before.ensures (decimal before) rest (number_is_one_line before is.before_fits) second.1 in
    let some_after : c.number.result ≡ Some c.in_ok-number.field-0 = search rules in
    let some_before : c.number-2.result ≡ Some c.in_ok-number-2.field-0 = search rules in (
      some_is _ _ (sym some_after ∙ c.number.ensures ∙ number_is _ after is.after_fits first.0),
      second.0,
      some_is _ _ (sym some_before ∙ c.number-2.ensures ∙ number_is _ before is.before_fits third.0),
    )
