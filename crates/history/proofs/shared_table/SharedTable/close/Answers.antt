use Rattle.std.proofs.Common.{◌≡◌, ◌++◌, ◌∷◌, [], List, sym, ap, subst, ◌∙◌, arith}
use Rattle.std.proofs.lemmas.Grind.{common_steps}
use Rattle.std.proofs.Common.{rules}
use Rattle.history.specs.declared.view.Member.{Member}
use Rattle.history.specs.declared.view.Terms.{Terms}
use Rattle.history.specs.Seats.{members_of, AreAll, IsClosed}
use Rattle.history.specs.Tokens.{TableRecord, TokenRecord}
use Rattle.history.specs.Closing.{IsClientOf, IsDispatcherOf, members_in, terms_in}
use Rattle.history.specs.TokenParts.{table_of}
use Rattle.history.proofs.HandingLaws.{none_left, handed_first, handed_more, last_has, left_have, all_there}
use Rattle.history.proofs.HandingLaws.{clients_saw, dispatchers_saw, clients_own, log_is_true}
use Rattle.history.proofs.shared_table.SharedTable.close.Goals as goal

pub loop-token-init : goal.loop-token-init
loop-token-init g c = let seat = c.into_seat-seat.ensures in let left = c.pop.new.self.items in let last : TokenRecord =
    c.in-Some.last in
    let all : c.args.dispatchers.items ≡ left ++ last ∷ [] = c.in-Some.ensures.items in
    let mine = last_has (IsDispatcherOf c.args.self) c.args.dispatchers.items left last c.requires.dispatchers.left all
    in record {
      table = seat.table ∙ mine.table_is;
      token = seat.role;
      nothing = (seat.rows ∙ mine.free.rows, seat.writer ∙ mine.free.writer, seat.dispatcher mine.dispatcher);
      left = left_have (IsDispatcherOf c.args.self) c.args.dispatchers.items left last c.requires.dispatchers.left all;
      members = ap members_in all ∙ handed_first left last c.into_seat-seat.result.me.0 seat.member seat.gathered;
    }

pub gather-requires-clause-table : goal.gather-requires-clause-table
gather-requires-clause-table g c = let inv = c.loop-token.invariant in let here =
    ap (λ (h : TableRecord). h.id) c.self.view_is in let words = c.self.invariant.words in
    let mine = last_has (IsDispatcherOf c.args.self) c.loop-token.dispatchers.items c.pop-in-loop-token.new.self.items
    c.in-Some-pop.token inv.left c.in-Some-pop.ensures.items in (
      omega arith,
      ap (λ (h : TableRecord). h.id) inv.table ∙ sym here,
      ap (λ (h : TableRecord). h.id) (c.into_seat.ensures.table ∙ mine.table_is) ∙ sym here,
    )

pub gather-requires-clause-other : goal.gather-requires-clause-other
gather-requires-clause-other g c = let inv = c.loop-token.invariant in let seat = c.into_seat.ensures in
    let mine = last_has (IsDispatcherOf c.args.self) c.loop-token.dispatchers.items c.pop-in-loop-token.new.self.items
    c.in-Some-pop.token inv.left c.in-Some-pop.ensures.items in
    record {
      token = seat.role;
      rows = seat.rows ∙ mine.free.rows;
      writer = seat.writer ∙ mine.free.writer;
      asked = seat.dispatcher mine.dispatcher;
      gathered = seat.gathered;
    }

pub loop-token-preserved : goal.loop-token-preserved
loop-token-preserved g c = let inv = c.loop-token.invariant in let did = c.gather.ensures in let left =
    c.pop-in-loop-token.new.self.items in let next : TokenRecord = c.in-Some-pop.token in
    let all : c.loop-token.dispatchers.items ≡ left ++ next ∷ [] = c.in-Some-pop.ensures.items in record {
      table = (λ i. table_of (did.0 i) (did.2 i).0.terms) ∙ inv.table;
      token = (inv.token.0, ap (λ m. m.0.role) did.2 ∙ inv.token.1);
      nothing = (
        ap (λ m. m.0.holds_rows) did.2 ∙ inv.nothing.0,
        ap (λ m. m.0.holds_writer) did.2 ∙ inv.nothing.1,
        ap (λ m. m.0.asked) did.2 ∙ inv.nothing.2,
      );
      left = left_have (IsDispatcherOf c.args.self) c.loop-token.dispatchers.items left next inv.left all;
      members = inv.members ∙ (ap (λ ts. members_in ts ++ members_of c.loop-token.seat.me.0) all
          ∙ (handed_more left next c.loop-token.seat.me.0 c.into_seat.result.me.0 c.into_seat.ensures.member
          ∙ ap (λ m. members_in left ++ members_of m.0) (sym did.2)));
    }

pub loop-token-2-init : goal.loop-token-2-init
loop-token-2-init g c = let inv = c.loop-token.invariant in let none : c.loop-token.dispatchers.items ≡ [] =
    none_left _ (first_of (search rules, grind (arith, common_steps))) in record {
      table = inv.table;
      token = inv.token;
      nothing = inv.nothing;
      left = c.requires.clients.left;
      members = ap (λ ms. members_in c.args.clients.items ++ ms)
          (inv.members ∙ ap (λ ts. members_in ts ++ members_of c.loop-token.seat.me.0) none);
    }

pub gather-requires-in-Some-pop-2-clause-table : goal.gather-requires-in-Some-pop-2-clause-table
gather-requires-in-Some-pop-2-clause-table g c = let inv = c.loop-token-2.invariant in let here =
    ap (λ (h : TableRecord). h.id) c.self.view_is in let words = c.self.invariant.words in
    let mine = last_has (IsClientOf c.args.self) c.loop-token-2.clients.items c.pop-in-loop-token-2.new.self.items
    c.in-Some-pop-2.token inv.left c.in-Some-pop-2.ensures.items in (
      omega arith,
      ap (λ (h : TableRecord). h.id) inv.table ∙ sym here,
      ap (λ (h : TableRecord). h.id) (c.into_seat-in-Some-pop-2.ensures.table ∙ mine.table_is) ∙ sym here,
    )

pub gather-requires-in-Some-pop-2-clause-other : goal.gather-requires-in-Some-pop-2-clause-other
gather-requires-in-Some-pop-2-clause-other g c = let inv = c.loop-token-2.invariant in let seat =
    c.into_seat-in-Some-pop-2.ensures in
    let mine = last_has (IsClientOf c.args.self) c.loop-token-2.clients.items c.pop-in-loop-token-2.new.self.items
    c.in-Some-pop-2.token inv.left c.in-Some-pop-2.ensures.items in
    record {
      token = seat.role;
      rows = seat.rows ∙ mine.rows;
      writer = seat.client mine.client;
      asked = seat.asked ∙ mine.quiet;
      gathered = seat.gathered;
    }

pub loop-token-2-preserved : goal.loop-token-2-preserved
loop-token-2-preserved g c = let inv = c.loop-token-2.invariant in let did = c.gather-in-Some-pop-2.ensures in let left =
    c.pop-in-loop-token-2.new.self.items in let next : TokenRecord = c.in-Some-pop-2.token in
    let all : c.loop-token-2.clients.items ≡ left ++ next ∷ [] = c.in-Some-pop-2.ensures.items in record {
      table = (λ i. table_of (did.0 i) (did.2 i).0.terms) ∙ inv.table;
      token = (inv.token.0, ap (λ m. m.0.role) did.2 ∙ inv.token.1);
      nothing = (
        ap (λ m. m.0.holds_rows) did.2 ∙ inv.nothing.0,
        ap (λ m. m.0.holds_writer) did.2 ∙ inv.nothing.1,
        ap (λ m. m.0.asked) did.2 ∙ inv.nothing.2,
      );
      left = left_have (IsClientOf c.args.self) c.loop-token-2.clients.items left next inv.left all;
      members = inv.members ∙ (ap (λ ts. members_in ts ++ members_of c.loop-token-2.seat.me.0) all
          ∙ (handed_more left next c.loop-token-2.seat.me.0 c.into_seat-in-Some-pop-2.result.me.0
          c.into_seat-in-Some-pop-2.ensures.member ∙ ap (λ m. members_in left ++ members_of m.0) (sym did.2)));
    }

pub finish-requires-clause-all : goal.finish-requires-clause-all
finish-requires-clause-all g c = let inv = c.loop-token-2.invariant in let none : c.loop-token-2.clients.items ≡ [] =
    none_left _ (first_of (search rules, grind (arith, common_steps))) in
    let members = inv.members ∙ ap (λ ts. members_in ts ++ members_of c.loop-token-2.seat.me.0) none in let terms =
    ap terms_in inv.table in
    subst (λ (x : Terms × List Member). AreAll x.0 x.1) (λ i. (sym terms i, members i))
    (all_there c.args.self c.args.clients.items c.args.dispatchers.items c.requires.clients c.requires.dispatchers)

pub returns-clause-seen : goal.returns-clause-seen
returns-clause-seen g c = let inv = c.loop-token-2.invariant in let none : c.loop-token-2.clients.items ≡ [] =
    none_left _ (first_of (search rules, grind (arith, common_steps))) in
    let members = inv.members ∙ ap (λ ts. members_in ts ++ members_of c.loop-token-2.seat.me.0) none in let terms =
    ap terms_in inv.table in
    let closed = subst (λ (x : Terms × List Member). IsClosed x.0 x.1 c.finish.result) (λ i. (terms i, sym members i))
    c.finish.ensures in (
      clients_saw c.args.self c.args.clients.items c.args.dispatchers.items c.finish.result closed,
      dispatchers_saw c.args.self c.args.clients.items c.args.dispatchers.items c.finish.result closed,
    )

pub returns-clause-owns : goal.returns-clause-owns
returns-clause-owns g c = let inv = c.loop-token-2.invariant in let none : c.loop-token-2.clients.items ≡ [] =
    none_left _ (first_of (search rules, grind (arith, common_steps))) in
    let members = inv.members ∙ ap (λ ts. members_in ts ++ members_of c.loop-token-2.seat.me.0) none in let terms =
    ap terms_in inv.table in
    let closed = subst (λ (x : Terms × List Member). IsClosed x.0 x.1 c.finish.result) (λ i. (terms i, sym members i))
    c.finish.ensures in
    clients_own c.args.self c.args.clients.items c.args.dispatchers.items c.finish.result closed

pub returns-clause-true_log : goal.returns-clause-true_log
returns-clause-true_log g c = let inv = c.loop-token-2.invariant in let none : c.loop-token-2.clients.items ≡ [] =
    none_left _ (first_of (search rules, grind (arith, common_steps))) in
    let members = inv.members ∙ ap (λ ts. members_in ts ++ members_of c.loop-token-2.seat.me.0) none in let terms =
    ap terms_in inv.table in
    let closed = subst (λ (x : Terms × List Member). IsClosed x.0 x.1 c.finish.result) (λ i. (terms i, sym members i))
    c.finish.ensures in
    log_is_true c.args.self c.args.clients.items c.args.dispatchers.items c.finish.result closed
