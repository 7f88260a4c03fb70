use Rattle.std.proofs.Common.{◌≡◌, ◌∙◌, ◌+◌, ◌++◌, List, ap, arith, length, length-append, rules}
use Rattle.std.proofs.lemmas.List.{take_all}
use Rattle.row_store.specs.History.{CommitRecord}
use Rattle.ssb_journal.proofs.reading.kept_more.Goals as goal

pub invariant_of-result : goal.invariant_of-result
invariant_of-result c =
    let old = c.args.kept.commits.items in
    let more = c.args.commits.now in
    let sum : c.in-Some.count ≡ c.args.kept.count + length more = search rules in
    let all : c.loop-commit.all.items ≡ old ++ more =
    c.loop-commit.invariant ∙ ap (λ (l : List CommitRecord). old ++ l) (take_all c.loop-commit.commit-index more (omega arith)) in
    record { counted = omega (arith, sum, ap length all, length-append old more, c.args.kept.counted) }
