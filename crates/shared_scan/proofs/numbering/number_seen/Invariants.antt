use Rattle.std.proofs.Common.{◌≡◌, ◌≢◌, ℕ, ◌<◌, ◌≤◌, length, get_or}
use Rattle.std.specs.Prelude.{vec_len}
use Rattle.std.specs.Int.{bit_at}
use Rattle.shared_scan.specs.Numbering.{AreNumbered}
use Rattle.shared_scan.proofs.numbering.number_seen.Given as goal

abbrev pub invariant-loop-code : goal.invariant-loop-code
invariant-loop-code l = record {
  len : vec_len l.numbering.numbers ≡ length l.seen;
  few : vec_len l.numbering.kept ≤ l.code;
  numbered : AreNumbered l.numbering.numbers.items l.numbering.kept.items;
  each : (code : ℕ) → code < l.code → bit_at (get_or l.seen code 0) l.question ≡ 1
      → get_or l.numbering.numbers.items code 0 ≢ 4294967295;
  only : (number : ℕ) → number < length l.numbering.kept.items
      → bit_at (get_or l.seen (get_or l.numbering.kept.items number 0) 0) l.question ≡ 1;
}
