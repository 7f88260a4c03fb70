use Rattle.std.proofs.Common.{◌≡◌, ℕ, List, inr, subst}
use Rattle.ssb_journal.specs.Heads.{IsTitleFault}
use Rattle.ssb_journal.specs.Seals.{sealed}
use Rattle.ssb_journal.proofs.single.form_of_head.Goals as goal

pub returns-clause-fault : goal.returns-clause-fault
returns-clause-fault c =
    let is : c.args.group.now ≡ sealed c.in-Some.text.items = rw c.in-Some.is at c.in_ok-text.ensures in
    inr (inr (record {
      text = c.in-Some.text.items;
      is = is;
      told = subst (λ (text : List ℕ). IsTitleFault text c.title_fault.result) c.deref-in-None.ensures.value
          c.title_fault.ensures;
    }))
