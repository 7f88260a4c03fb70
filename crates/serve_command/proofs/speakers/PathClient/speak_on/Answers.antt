use Rattle.std.proofs.Common.{◌≡◌, ◌∙◌, ap, max, rules}
use Rattle.std.specs.Option.{is_some}
use Rattle.history.specs.Members.{number_of}
use Rattle.serve_command.proofs.SessionLaws.{left_at_last, left_broken, none_had, of_number, one_more}
use Rattle.serve_command.specs.declared.speakers.SessionEnd.TheVariants.{Last}
use Rattle.stream_sessions.proofs.RequestLaws.{alike_itself, alike_both}
use Rattle.serve_command.proofs.speakers.PathClient.speak_on.Goals as goal

pub loop-init : goal.loop-init
loop-init g c = (alike_itself _ c.requires.quiet, rw c.nothing-told_with.ensures (none_had _ _ _))

pub speak_once-once_told-requires : goal.speak_once-once_told-requires
speak_once-once_told-requires g c = record {
  table = c.loop.invariant.0.table ∙ c.requires.table;
  quiet = ap is_some c.loop.invariant.0.quiet;
}

pub loop-preserved : goal.loop-preserved
loop-preserved g c = (
  alike_both _ _ _ c.loop.invariant.0 c.speak_once-once_told.ensures.same,
  one_more _ _ _ _ _ _ _ _ _ _ (c.add.ensures ∙ ap (max c.loop.told_with) c.speak_once-once_told.ensures.told) (search rules)
      c.loop.invariant.1
      (of_number _ _ _ _ _ _ (ap number_of c.loop.invariant.0.who) c.speak_once-once_told.ensures.served),
)

pub returns-in-Last-clause-same : goal.returns-in-Last-clause-same
returns-in-Last-clause-same g c = alike_both _ _ _ c.loop.invariant.0 c.speak_once-once_told.ensures.same

pub returns-in-Last-clause-left : goal.returns-in-Last-clause-left
returns-in-Last-clause-left g c =
    let is : c.speak_once-once_told.result.0.end ≡ Last = search rules in
    rw c.left_behind.ensures.left
    (left_at_last _ _ _ _ _ _ _ _ _ _ (c.add.ensures ∙ ap (max c.loop.told_with) c.speak_once-once_told.ensures.told)
    (search rules) c.loop.invariant.1
    (of_number _ _ _ _ _ _ (ap number_of c.loop.invariant.0.who) c.speak_once-once_told.ensures.served) is)

pub returns-in-Last-clause-told : goal.returns-in-Last-clause-told
returns-in-Last-clause-told g c = rw c.left_behind.ensures.left c.left_behind.ensures.told

pub returns-in-Broken-clause-same : goal.returns-in-Broken-clause-same
returns-in-Broken-clause-same g c = alike_both _ _ _ c.loop.invariant.0 c.speak_once-once_told.ensures.same

pub returns-in-Broken-clause-left : goal.returns-in-Broken-clause-left
returns-in-Broken-clause-left g c =
    rw c.left_behind-in-Broken.ensures.left
    (left_broken _ _ _ _ _ _
    (one_more _ _ _ _ _ _ _ _ _ _ (c.add.ensures ∙ ap (max c.loop.told_with) c.speak_once-once_told.ensures.told)
    (search rules) c.loop.invariant.1
    (of_number _ _ _ _ _ _ (ap number_of c.loop.invariant.0.who) c.speak_once-once_told.ensures.served)))

pub returns-in-Broken-clause-told : goal.returns-in-Broken-clause-told
returns-in-Broken-clause-told g c = rw c.left_behind-in-Broken.ensures.left c.left_behind-in-Broken.ensures.told
