use Rattle.std.proofs.Common.{◌≡◌, vec_len}
use Rattle.confirmed_commits.proofs.seconds.Seconds.new.Given as goal

-- one was pushed in each round
abbrev pub invariant-loop : goal.invariant-loop
invariant-loop l = vec_len l.each ≡ l.counter
