use Rattle.std.proofs.Common.{rules, not, nat_eq}
use Rattle.std.specs.List.{list_any}
use Rattle.std.proofs.lemmas.Fn.{filter_same}
use Rattle.row_store.proofs.plain.drop_orders.Goals as goal

pub returns-clause-lines : goal.returns-clause-lines
returns-clause-lines c = filter_same _ (λ line. not (list_any (λ key. nat_eq key line.order_key) c.args.keys.now)) _
    (λ x b f' k. search rules) _ _ c.retain.ensures.filtered
