use Rattle.std.proofs.Common.{◌≢◌, take}
use Rattle.std.specs.List.{AllByRecursion}
use Rattle.ssb_questions.specs.Query.{name_of}
use Rattle.ssb_questions.proofs.query.Query.by_name.Given as goal

abbrev pub invariant-loop-query : goal.invariant-loop-query
invariant-loop-query l = AllByRecursion (λ query. name_of query ≢ l.name) (take l.query-index l.query-items)
