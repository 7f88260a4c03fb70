use Rattle.std.proofs.Common.{◌≡◌, ◌+◌, ◌*◌, ◌^◌, ◌≤◌, drop}
use Rattle.journal.specs.Groups.{number_from}
use Rattle.journal.proofs.groups.number_of.Given as goal

abbrev pub invariant-loop-digit : goal.invariant-loop-digit
invariant-loop-digit l = record {
  value : number_from l.number (drop l.digit-index l.digits) ≡ number_from 0 l.digits;
  small : l.number + 23 ≤ 23 * 10 ^ l.digit-index;
}
