use Rattle.std.proofs.Common.{◌≡◌, take, drop}
use Rattle.ssb_audit.specs.Traces.{first_from, commit_fault}
use Rattle.ssb_audit.proofs.commits.check_commits.Given as goal

-- the store has the commits so far, and the first fault is that of the others
abbrev pub invariant-loop-place : goal.invariant-loop-place
invariant-loop-place l = record {
  applied : l.store ≡ record { base = l.fn.base.value; log = take l.place l.commits };
  first : first_from (commit_fault l.fn.base.value l.commits) 0 l.commits
      ≡ first_from (commit_fault l.fn.base.value l.commits) l.place (drop l.place l.commits);
}
