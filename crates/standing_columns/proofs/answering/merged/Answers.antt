use Rattle.std.proofs.Common.{◌≡◌, ◌<◌, Bool, Option, List, length, ap, subst, ◌∙◌, arith}
use Rattle.std.specs.Prelude.{IfSome}
use Rattle.std.specs.Vec.Iter.{into_iter_items, into_iter_len}
use Rattle.ssb_questions.specs.declared.query.Query.{Query}
use Rattle.ssb_questions.specs.declared.value.Value.{Value}
use Rattle.ssb_answers.specs.declared.answer.Rows.{Rows}
use Rattle.standing_columns.specs.Standing.{stands}
use Rattle.standing_columns.proofs.MergeLaws.{len_more, merged_more, some_left}
use Rattle.standing_columns.proofs.PassLaws.{row_of}
use Rattle.standing_columns.proofs.answering.merged.Goals as goal

pub own_or_next-requires : goal.own_or_next-requires
own_or_next-requires c = λ none.
    let test : Query × List Value → Bool = stands c.args.standing.now in
    let item = c.question-item.result in
    let left : List Rows = into_iter_items c.loop-question.found in
    let there = c.in_ok-own.ensures.stands ∙ ap test c.question-item.is in
    let some : 0 < length left = some_left test (row_of c.args.columns.now.base c.requires.snapshot.history)
    c.args.questions.now c.loop-question.question-index item c.loop-question-test.true c.in_ok-own.own left there none
    (c.loop-question.invariant.right c.requires.snapshot.history c.requires.snapshot.stands).1 in
    omega (arith, some, c.loop-question.invariant.len)

pub loop-question-preserved : goal.loop-question-preserved
loop-question-preserved c =
    let test : Query × List Value → Bool = stands c.args.standing.now in
    let item = c.question-item.result in
    let i = c.loop-question.question-index in
    let own : Option Rows = c.in_ok-own.own in
    let made : Rows = c.own_or_next.result in
    let left : List Rows = into_iter_items c.loop-question.found in
    let after : List Rows = into_iter_items c.own_or_next.new.found in
    let there = c.in_ok-own.ensures.stands ∙ ap test c.question-item.is in
    record {
      len = len_more own made left after (into_iter_len c.loop-question.found) (into_iter_len c.own_or_next.new.found)
          c.own_or_next.ensures.rows c.own_or_next.ensures.len c.loop-question.invariant.len;
      right = λ history holds.
          let row : Query × List Value → Rows = row_of c.args.columns.now.base history in
          let P : Query × List Value → Type 0 = λ question. IfSome own (λ r. r ≡ row question) in
          let before = c.loop-question.invariant.right history holds in
          merged_more test row c.args.questions.now i item c.loop-question-test.true own made left after
          c.loop-question.rows.items c.push.new.self.items there
          (subst P c.question-item.is (c.in_ok-own.ensures.rows history holds)) c.own_or_next.ensures.rows
          c.in_ok-push.ensures.items before.0 before.1;
    }
