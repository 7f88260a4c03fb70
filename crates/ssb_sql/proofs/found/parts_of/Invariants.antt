use Rattle.std.proofs.Common.{◌≡◌, ◌+◌, ◌-◌, ◌≤◌, length}
use denote.Shadow.{shadow}
use denote.Text.{Utf8}
use Rattle.ssb_sql.proofs.PartLaws.{reading}
use Rattle.ssb_sql.specs.Tokens.{all_of, found_now}
use Rattle.ssb_sql.proofs.found.parts_of.Given as goal

abbrev pub invariant-loop-number : goal.invariant-loop-number
invariant-loop-number l = record {
  text : shadow (Utf8 l.rest);
  told : reading (found_now l.found) (length l.text - l._number) l.rest ≡ all_of l.text;
  left : length l.rest + l._number ≤ length l.text;
}
