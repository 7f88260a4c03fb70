use Rattle.std.proofs.Common.{ℕ, get_or}
use Rattle.shared_scan.proofs.GroupLaws.{dimensions_alone}
use Rattle.shared_scan.proofs.TotalLaws.{summed_answer, summed_totals}
use Rattle.shared_scan.proofs.laws.totals_answer.Goals as goal

pub returns : goal.returns
returns c = λ base question plans k places lines masks columns grouping totals rows sound within are few at_k tell
    grouped summed counts_fit gains_fit losses_fit right.
    let count : ℕ → ℕ = λ g. get_or totals.counts.items g 0 in
    let gain : ℕ → ℕ = λ g. get_or totals.gains.items g 0 in
    let loss : ℕ → ℕ = λ g. get_or totals.losses.items g 0 in
    summed_answer base question plans k places lines masks columns grouping.measure grouping.columns.items grouping.size
    sound within are at_k tell grouped (dimensions_alone question.0 question.1)
    count gain loss few (summed_totals lines masks k grouping _ totals summed counts_fit gains_fit losses_fit) rows
    right
