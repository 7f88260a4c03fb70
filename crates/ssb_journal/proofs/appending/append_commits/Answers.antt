use Rattle.std.proofs.Common.{◌≡◌, List, [], ◌∷◌, ◌++◌, sym, subst}
use Rattle.journal.specs.Disk.{LeavesOnly}
use Rattle.journal.specs.Groups.{recovered, IsBeforeOrAfter}
use Rattle.journal.proofs.MomentLaws.{leaves}
use Rattle.journal.specs.declared.disk.DiskError.{DiskError}
use Rattle.row_store.specs.History.{CommitRecord}
use Rattle.ssb_journal.specs.declared.head.TableMark.{TableMark}
use Rattle.ssb_journal.specs.Kept.{IsGroupOf, KeepsCommits, KeepsWithOrWithout}
use Rattle.ssb_journal.proofs.KeptLaws.{if_ok, if_err, keeps_more, keeps_either}
use Rattle.ssb_journal.proofs.appending.append_commits.Goals as goal

pub returns-in-Ok-clause-acknowledged : goal.returns-in-Ok-clause-acknowledged
returns-in-Ok-clause-acknowledged g c =
    let seen = g.D.Disk.seen in
    let old = seen c.args.journal in
    let more = c.args.commits.items in
    let group = c.deref.result.now in
    let is : IsGroupOf more group = subst (IsGroupOf more) (sym c.deref.ensures.value) c.in-Ok.ensures.group in
    if_ok c.append.result (λ (after : g.row.D.Denot). recovered (seen after) ≡ recovered old ++ group ∷ [])
    (λ (after : g.row.D.Denot). (marks : List TableMark) → (before : List CommitRecord) → KeepsCommits marks before old → KeepsCommits marks (before ++ more) (seen after))
    c.append.ensures.acknowledged
    (λ after grown marks before kept. keeps_more marks before more old (seen after) group kept is grown)

pub returns-in-Ok-clause-any_moment : goal.returns-in-Ok-clause-any_moment
returns-in-Ok-clause-any_moment g c =
    let seen = g.D.Disk.seen in
    let start = c.args.journal in
    let old = seen start in
    let more = c.args.commits.items in
    let group = c.deref.result.now in
    let is : IsGroupOf more group = subst (IsGroupOf more) (sym c.deref.ensures.value) c.in-Ok.ensures.group in
    if_ok c.append.result (λ (after : g.row.D.Denot). LeavesOnly g.D.Disk.moment g.D.Disk.left_since start after (IsBeforeOrAfter (recovered old) group))
    (λ (after : g.row.D.Denot). (marks : List TableMark) → (before : List CommitRecord) → KeepsCommits marks before old → LeavesOnly g.D.Disk.moment g.D.Disk.left_since start after (KeepsWithOrWithout marks before more))
    c.append.ensures.any_moment
    (λ after run marks before kept. leaves g.D.Disk.moment g.D.Disk.left_since start after (IsBeforeOrAfter (recovered old) group) (KeepsWithOrWithout marks before more) run (λ f left. keeps_either marks before more old group f kept is left))

pub returns-in-Ok-clause-any_moment_err : goal.returns-in-Ok-clause-any_moment_err
returns-in-Ok-clause-any_moment_err g c =
    let seen = g.D.Disk.seen in
    let start = c.args.journal in
    let old = seen start in
    let more = c.args.commits.items in
    let group = c.deref.result.now in
    let is : IsGroupOf more group = subst (IsGroupOf more) (sym c.deref.ensures.value) c.in-Ok.ensures.group in
    if_err c.append.result (λ (e : DiskError × g.row.D.Denot). LeavesOnly g.D.Disk.moment g.D.Disk.left_since start e.1 (IsBeforeOrAfter (recovered old) group))
    (λ (e : DiskError × g.row.D.Denot). (marks : List TableMark) → (before : List CommitRecord) → KeepsCommits marks before old → LeavesOnly g.D.Disk.moment g.D.Disk.left_since start e.1 (KeepsWithOrWithout marks before more))
    c.append.ensures.any_moment_err
    (λ e run marks before kept. leaves g.D.Disk.moment g.D.Disk.left_since start e.1 (IsBeforeOrAfter (recovered old) group) (KeepsWithOrWithout marks before more) run (λ f left. keeps_either marks before more old group f kept is left))
