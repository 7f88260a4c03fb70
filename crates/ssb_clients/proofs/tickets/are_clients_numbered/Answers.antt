use Rattle.std.proofs.Common.{◌≡◌, refl, IsTrue, ℕ, ◌+◌, true, false, arith}
use Rattle.std.specs.Prelude.{◌==◌, count_by}
use borrow.Author.Count.{below_more}
use Rattle.history.specs.Tokens.{TokenRecord}
use Rattle.history.specs.Members.{number_of}
use Rattle.history.specs.Closing.{AreNumbered}
use Rattle.ssb_clients.proofs.tickets.are_clients_numbered.Goals as goal

pub returns-then-not-has_once : goal.returns-then-not-has_once
returns-then-not-has_once g c = (
  (λ (h : IsTrue false). absurd (cc)),
  λ (are : AreNumbered c.args.count c.args.clients.now).
      let yes = c.has_once.ensures.1 (are.each c.loop-before.before (omega arith)) in
      let was = c.if-not-has_once.true in absurd (cc),
)

pub loop-before-preserved : goal.loop-before-preserved
loop-before-preserved g c =
    let P : ℕ → Type 0 = λ k. count_by (λ (t : TokenRecord). number_of t.who == k + 1) c.args.clients.now ≡ 1 in
    let was = c.if-not-has_once.false in
    below_more P c.loop-before.before c.loop-before.invariant (c.has_once.ensures.0 (cc))

pub returns : goal.returns
returns g c = (
  (λ (h : IsTrue true). record {
    count_is = let same = c.if-clients-count.false in
        omega arith;
    each = λ k low. c.loop-before.invariant k (omega arith);
  }),
  λ (are : AreNumbered c.args.count c.args.clients.now). refl,
)
