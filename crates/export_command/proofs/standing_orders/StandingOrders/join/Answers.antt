use Rattle.std.proofs.Common.{◌≡◌, ◌+◌, ◌++◌, refl, sym, subst, rules}
use Rattle.std.specs.List.{AllByRecursion}
use Rattle.ssb_schema.specs.declared.line.LineFields.{LineFields}
use Rattle.export_command.specs.Standing.{AreLeft, lines_at}
use Rattle.export_command.specs.declared.standing_orders.StandingOrders.{StandingOrders}
use Rattle.export_command.proofs.StandingOrderLaws.{order_comes}
use Rattle.export_command.proofs.standing_orders.StandingOrders.join.Goals as goal

pub returns-clause-left : goal.returns-clause-left
returns-clause-left c = λ loaded lines absent left.
    let key = c.args.key in
    let place = c.args.place in
    let refresh = c.in_ok-refresh.refresh in
    let same : refresh.value ≡ c.args.refresh.now.value = search rules in
    let new : StandingOrders = record {
      gone = c.args.self.now.gone;
      numbers = c.insert.new.self;
      added = c.push.new.self;
      count = c.args.self.now.count + 1;
    } in
    subst (λ actions. AreLeft loaded (lines ++ lines_at actions place) new) same
    (order_comes loaded lines
    (record { key = key; number = c.args.self.now.count + 1; refresh = refresh; place = place })
    c.args.self.now new absent
    refl refl refl c.in_ok-push.ensures.items c.in_ok-insert.ensures.updates.0
    (subst (λ actions. AllByRecursion (λ (line : LineFields). line.order_key ≡ key) (lines_at actions place)) (sym same)
    c.requires.own) left)
