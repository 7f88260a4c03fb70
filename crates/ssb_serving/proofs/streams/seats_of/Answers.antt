use Rattle.std.proofs.Common.{rules, ◌≡◌, length, map, ap, sym, ◌∙◌}
use Rattle.ssb_serving.proofs.ListLaws.{none_before, none_left}
use Rattle.ssb_serving.proofs.streams.seats_of.Goals as goal

pub loop-client-init : goal.loop-client-init
loop-client-init g c = record {
  clients = ap (map _) c.new-seats.ensures.items;
  speakers = none_before _ _ _ _ c.new-seats.ensures.items c.into_iter-speakers.ensures.rest;
  count = search rules;
}

pub returns-clause-speakers : goal.returns-clause-speakers
returns-clause-speakers g c =
    let none : length c.loop-client.client-iterator.rest.items ≡ 0 = search rules in
    none_left _ _ _ c.loop-client.invariant.speakers (sym c.loop-client.invariant.count ∙ none)
