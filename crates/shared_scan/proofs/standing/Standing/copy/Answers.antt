use Rattle.std.proofs.Common.{rules, ◌≡◌, ◌∙◌, List, ap, sym, subst}
use Rattle.dimension_index.specs.Classes.{reduced}
use Rattle.scan_kernel.specs.declared.totals.Totals.{Totals}
use Rattle.shared_scan.specs.Standing.{HaveNumbersOf}
use Rattle.shared_scan.specs.Follows.{FollowWith}
use Rattle.shared_scan.specs.declared.standing.ReadyBatch.{ReadyBatch}
use Rattle.shared_scan.proofs.FollowLaws.{copies_follow}
use Rattle.shared_scan.proofs.standing.Standing.copy.Goals as goal

pub returns-clause-follows : goal.returns-clause-follows
returns-clause-follows c = λ base lines both.
    let own = c.args.self.now in
    let copy : List Totals = c.in_ok-copy_totals.field-0.items in
    let same : c.in_ok-try_clone.field-0.value ≡ own.batch.value = search rules in
    let N : List Totals → Type 0 = λ totals. HaveNumbersOf totals copy in
    let numbers : HaveNumbersOf own.totals.items copy = subst N c.deref.ensures.value c.in_ok-copy_totals.ensures in
    let P : ReadyBatch → Type 0 = λ batch. FollowWith (reduced batch.index.value) batch.masks batch.questions.items copy
    lines in (
      ap (λ (b : ReadyBatch). b.index.value) same ∙ both.0,
      subst P (sym same) (copies_follow (reduced own.batch.value.index.value) own.batch.value.masks
          own.batch.value.questions.items own.totals.items copy lines numbers both.1),
    )
