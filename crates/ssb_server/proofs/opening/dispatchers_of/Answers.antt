use Rattle.std.proofs.Common.{rules, ◌≡◌, ◌∷◌, [], ◌++◌, length, Option, IfSome, ap, sym, subst, ◌∙◌, arith}
use Rattle.std.specs.Prelude.{All}
use Rattle.std.proofs.lemmas.List.{length_push}
use Rattle.std.proofs.lemmas.List.Elements.{All-head, All-tail, All-pop}
use Rattle.twin_cell.specs.Twin.{Reading}
use Rattle.ssb_server.specs.Opening.{IsNewDispatcher, IsNewReader}
use Rattle.ssb_server.proofs.opening.dispatchers_of.Goals as goal

pub loop-token-init : goal.loop-token-init
loop-token-init g c =
    let gives = c.into_iter-token-iterator.ensures.into_iter_gives in
    record {
      base = c.requires.base;
      tokens = subst (All (IsNewDispatcher c.requires.base)) (sym gives.0) c.requires.tokens_are;
      readers = c.requires.readers_are;
      count = c.requires.count ∙ ap length (sym gives.0);
      made = search rules;
    }

pub new-requires-in-loop-token-clause-token : goal.new-requires-in-loop-token-clause-token
new-requires-in-loop-token-clause-token g c =
    let new = IsNewDispatcher c.loop-token.invariant.base in
    let known = IsNewReader c.loop-token.invariant.base in
    let here : new c.in-Some.token = All-head new c.in-Some.token c.next.new.self.rest.items
    (subst (All new) c.in-Some.ensures.steps.0 c.loop-token.invariant.tokens) in
    let popped = All-pop known c.loop-token.readers.items c.pop.new.self.items c.pop.result c.pop.ensures.items
    c.loop-token.invariant.readers in
    let reader : known c.in-Some-pop.reader = subst (λ (o : Option Reading). IfSome o known) c.in-Some-pop.is popped.1 in
    subst (λ b. IsNewDispatcher b c.in-Some.token) (sym reader.0) here

pub new-requires-in-loop-token-clause-reader : goal.new-requires-in-loop-token-clause-reader
new-requires-in-loop-token-clause-reader g c =
    let known = IsNewReader c.loop-token.invariant.base in
    let popped = All-pop known c.loop-token.readers.items c.pop.new.self.items c.pop.result c.pop.ensures.items
    c.loop-token.invariant.readers in
    let reader : known c.in-Some-pop.reader = subst (λ (o : Option Reading). IfSome o known) c.in-Some-pop.is popped.1 in
    reader.1

pub loop-token-preserved : goal.loop-token-preserved
loop-token-preserved g c =
    let new = IsNewDispatcher c.loop-token.invariant.base in
    let known = IsNewReader c.loop-token.invariant.base in
    let popped = All-pop known c.loop-token.readers.items c.pop.new.self.items c.pop.result c.pop.ensures.items
    c.loop-token.invariant.readers in
    let fewer : length c.loop-token.readers.items ≡ length (c.pop.new.self.items ++ c.in-Some-pop.reader ∷ []) =
    ap length c.in-Some-pop.ensures.items in
    let rest : length c.loop-token.token-iterator.rest.items ≡ length (c.in-Some.token ∷ c.next.new.self.rest.items) =
    ap length c.in-Some.ensures.steps.0 in
    let count = c.loop-token.invariant.count in
    record {
      base = c.loop-token.invariant.base;
      tokens = All-tail new c.in-Some.token c.next.new.self.rest.items
          (subst (All new) c.in-Some.ensures.steps.0 c.loop-token.invariant.tokens);
      readers = popped.0;
      count = omega (arith, length_push c.pop.new.self.items c.in-Some-pop.reader);
      made = c.in_ok-push.ensures.items ∙ (ap (λ d. c.loop-token.dispatchers.items ++ d ∷ []) c.new-in-loop-token.ensures
          ∙ ap (λ xs. xs ++ c.in-Some.token ∷ []) c.loop-token.invariant.made);
    }

pub unreachable-requires : goal.unreachable-requires
unreachable-requires g c =
    let none : length c.loop-token.readers.items ≡ 0 = search rules in
    let some : length c.loop-token.token-iterator.rest.items ≡ length (c.in-Some.token ∷ c.next.new.self.rest.items) =
    ap length c.in-Some.ensures.steps.0 in
    let count = c.loop-token.invariant.count in
    omega arith
