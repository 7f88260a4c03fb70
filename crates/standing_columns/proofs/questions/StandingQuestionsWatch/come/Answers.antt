use Rattle.std.proofs.Common.{◌≡◌, List, length, arith}
use Rattle.std.proofs.lemmas.List.{take_at}
use Rattle.std.proofs.lemmas.List.Elements.{All-same}
use Rattle.shared_scan.specs.Follows.{FollowsOver}
use Rattle.shared_scan.specs.declared.standing.Standing.{Standing}
use Rattle.standing_columns.proofs.questions.StandingQuestionsWatch.come.Goals as goal

pub returns : goal.returns
returns c = λ base fewer more one all.
    let old : List Standing = c.args.self.now.batches.items in
    let lent : List Standing = c.deref_mut.result.now in
    let new : List Standing = c.all_come.new.batches in
    let P : Standing → Type 0 = λ batch. FollowsOver batch base fewer in
    let Q : Standing → Type 0 = λ batch. FollowsOver batch base more in
    let long : length new ≡ c.args.self.now.batches.len = omega arith in
    All-same Q _ new (take_at _ _ _ long)
    (c.all_come.ensures base fewer more one (All-same P lent old c.deref_mut.ensures.value all))
