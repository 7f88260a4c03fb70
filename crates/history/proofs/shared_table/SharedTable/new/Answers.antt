use Rattle.std.proofs.Common.{◌≡◌, ◌+◌, ◌-◌, ◌++◌, ◌∷◌, [], map, sym, ap, ◌∙◌, arith}
use Rattle.std.proofs.lemmas.List.FromFn.{map-range_with_len_more}
use Rattle.std.specs.List.{range_with_len}
use Rattle.history_core.specs.declared.event.Who.TheVariants.{Client, Dispatcher}
use Rattle.history.specs.Rule.{terms_of}
use Rattle.history.specs.Members.{who_at}
use Rattle.history.specs.Tokens.{new_token}
use Rattle.history.specs.TokenParts.{table_of}
use Rattle.history.proofs.MemberLaws.{who_client, who_dispatcher}
use Rattle.history.proofs.shared_table.SharedTable.new.Goals as goal

pub loop-place-preserved : goal.loop-place-preserved
loop-place-preserved g c = let inv = c.loop-place.invariant in let did = c.deal.ensures in let place =
    c.loop-place.place in let ruled = c.in_ok-ruled.ruled.shared in let near = c.loop-place-test.true in record {
      table = did.dealer.0 ∙ inv.table;
      dealer = did.dealer.1;
      dealt = c.in_ok-push.ensures.items ∙ ((λ i. inv.dealt i
          ++ (did.dealt ∙ ap (new_token (table_of ruled.table_id (terms_of ruled.key)))
          (who_client c.args.clients place (omega arith))) i ∷ [])
          ∙ sym (map-range_with_len_more (λ number. new_token (table_of ruled.table_id (terms_of ruled.key))
          (Client number))
          1 place (place + 1) (omega arith)));
    }

pub loop-number-preserved : goal.loop-number-preserved
loop-number-preserved g c = let inv = c.loop-number.invariant in let did = c.deal-in-loop-number.ensures in let number =
    c.loop-number.number in let ruled = c.in_ok-ruled.ruled.shared in let clients = c.args.clients in
    let name : who_at clients (clients + number) ≡ Dispatcher (number + 1) =
    who_dispatcher clients (clients + number) (omega arith)
    ∙ (let n : ((clients + number) - clients) + 1 ≡ number + 1 = omega arith in ap (λ k. Dispatcher k) n) in
    record {
      table = did.dealer.0 ∙ inv.table;
      dealer = (
        did.dealer.1.0 ∙ (let n : (clients + number) + 1 ≡ clients + (number + 1) = omega arith in
            ap (λ k. Rattle.history.specs.declared.view.Role.TheVariants.Dealer k) n),
        did.dealer.1.1,
      );
      dealt = c.in_ok-push-2.ensures.items ∙ ((λ i. inv.dealt i
          ++ (did.dealt ∙ ap (new_token (table_of ruled.table_id (terms_of ruled.key))) name) i ∷ [])
          ∙ sym (map-range_with_len_more (λ k. new_token (table_of ruled.table_id (terms_of ruled.key)) (Dispatcher k)) 1
          number (number + 1) (omega arith)));
    }

pub returns-clause-clients : goal.returns-clause-clients
returns-clause-clients g c = let ruled = c.in_ok-ruled.ruled.shared in let over = c.loop-place-test.false in let under =
    c.loop-place.auto.place-end in let same = ap (λ k. k.clients) c.in_ok-ruled.ensures.3 in
    let all : c.loop-place.place ≡ ruled.key.clients = omega arith in
    c.loop-place.invariant.dealt ∙ ap (λ n. map (λ number. new_token (table_of ruled.table_id (terms_of ruled.key))
    (Client number)) (range_with_len 1 n)) all

pub returns-clause-dispatchers : goal.returns-clause-dispatchers
returns-clause-dispatchers g c = let ruled = c.in_ok-ruled.ruled.shared in let over = c.loop-number-test.false in
    let under = c.loop-number.auto.number-end in let same = ap (λ k. k.dispatchers) c.in_ok-ruled.ensures.3 in
    let all : c.loop-number.number ≡ ruled.key.dispatchers = omega arith in
    c.loop-number.invariant.dealt ∙ ap (λ n. map (λ number. new_token (table_of ruled.table_id (terms_of ruled.key))
    (Dispatcher number)) (range_with_len 1 n)) all
