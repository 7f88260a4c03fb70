use Rattle.std.proofs.Common.{subst, sym}
use Rattle.std.proofs.lemmas.Result.{IfOk-weaker}
use Rattle.ssb_questions.specs.Plan.{OrdersAllGroups}
use Rattle.ssb_questions.proofs.OrderLaws.{orders_all_groups}
use Rattle.shared_scan.proofs.sums.dense_rows.Goals as goal

pub returns : goal.returns
returns c = IfOk-weaker c.rows_of.result _ _ (λ rows right. record {
  fits = record {
    counts = rw (c.deref.ensures.value) at c.fit_64_bits.ensures;
    gains = rw (c.deref-2.ensures.value) at c.fit_64_bits-2.ensures;
    losses = rw (c.deref-3.ensures.value) at c.fit_64_bits-3.ensures;
  };
  right = rw (c.deref-4.ensures.value) at right;
}) (c.rows_of.ensures c.args.ready.now.question c.requires.plan)

pub rows_of-requires-clause-ordered : goal.rows_of-requires-clause-ordered
rows_of-requires-clause-ordered c =
    let question = c.args.ready.now.question in
    subst OrdersAllGroups (sym c.requires.plan) (orders_all_groups question.0 question.1)

pub rows_of-requires-clause-small : goal.rows_of-requires-clause-small
rows_of-requires-clause-small c = c.requires.fit.small (record {
  counts = rw (c.deref.ensures.value) at c.fit_64_bits.ensures;
  gains = rw (c.deref-2.ensures.value) at c.fit_64_bits-2.ensures;
  losses = rw (c.deref-3.ensures.value) at c.fit_64_bits-3.ensures;
})
