use Rattle.std.proofs.Common.{◌∷◌, ◌++◌, Bool, cond, List, [], ap, sym, ◌∙◌}
use Rattle.ssb_questions.specs.declared.query.Query.{Query}
use Rattle.ssb_questions.specs.declared.value.Value.{Value}
use Rattle.standing_columns.specs.Standing.{is_among}
use Rattle.standing_columns.proofs.OnceLaws.{once_more}
use Rattle.standing_columns.proofs.once.each_once.Goals.{then-not-is_among+in_ok-share+in_ok-push, else-not-is_among}
use Rattle.standing_columns.proofs.once.each_once.Goals as goal

pub loop-question-preserved : goal.loop-question-preserved
loop-question-preserved c =
    let kept : List (Query × List Value) = c.loop-question.kept.items in
    let item = c.question-item.result in
    let next : Bool → List (Query × List Value) = λ b. cond b kept (kept ++ item ∷ []) in
    let told = c.is_among.ensures ∙ ap (λ l. is_among l item) c.deref.ensures.value in
    once_more c.args.questions.now kept c.if-not-is_among.kept.items c.loop-question.question-index item
    c.is_among.result c.loop-question-test.true c.question-item.is c.loop-question.invariant told
    (elim c.if-not-is_among.branch [
      | then-not-is_among+in_ok-share+in_ok-push w ↦ (λ j. (w.kept-is j).items) ∙ w.in_ok-push.ensures.items
          ∙ ap (λ one. kept ++ one ∷ []) w.in_ok-share.ensures ∙ ap next (sym w.if-not-is_among.true)
      | else-not-is_among w ↦ (λ j. (w.kept-is j).items) ∙ ap next (sym w.if-not-is_among.false)
    ])
