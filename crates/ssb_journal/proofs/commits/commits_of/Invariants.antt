use Rattle.std.proofs.Common.{◌≤◌, drop, length, take}
use Rattle.std.specs.List.{AllZip}
use Rattle.journal.specs.Groups.{lists}
use Rattle.ssb_journal.specs.Gathered.{IsBatchOf}
use Rattle.ssb_journal.specs.Kept.{SpellCommits}
use Rattle.ssb_journal.proofs.commits.commits_of.Given as goal

abbrev pub invariant-loop-batch : goal.invariant-loop-batch
invariant-loop-batch g l =
    (l.count ≤ length l.texts) × SpellCommits (take l.count (lists l.texts)) l.commits.items
    × AllZip (λ text batch. IsBatchOf text.items batch) (drop l.count l.texts) l.batch-iterator.rest.items
