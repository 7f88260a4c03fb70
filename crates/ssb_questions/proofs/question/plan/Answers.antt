use Rattle.std.proofs.Common.{rules}
use Rattle.ssb_questions.proofs.ConstantLaws.{looks_for_constants}
use Rattle.ssb_questions.proofs.OrderLaws.{orders_all_groups}
use Rattle.ssb_questions.proofs.StarLaws.{few_groups, over_columns}
use Rattle.ssb_questions.proofs.question.plan.Goals as goal

pub returns-clause-constants : goal.returns-clause-constants
returns-clause-constants c =
    let looks = looks_for_constants c.args.question.now.0 c.args.question.now.1 c.constants.ensures.fit in
    search (rules, looks)

pub returns-clause-columns : goal.returns-clause-columns
returns-clause-columns c =
    let over = over_columns c.args.question.now.0 c.args.question.now.1 in
    search (rules, over)

pub returns-clause-without_ties : goal.returns-clause-without_ties
returns-clause-without_ties c =
    let orders = orders_all_groups c.args.question.now.0 c.args.question.now.1 in
    search (rules, orders)

pub returns-clause-few : goal.returns-clause-few
returns-clause-few c =
    let few = few_groups c.args.question.now.0 c.args.question.now.1 c.constants.ensures.fit in
    search (rules, few)
