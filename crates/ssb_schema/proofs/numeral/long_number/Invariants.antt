use Rattle.std.proofs.Common.{◌≡◌, ◌<◌, ◌≤◌, ◌^◌, true, length, take}
use Rattle.std.specs.List.{list_all}
use Rattle.std.specs.Char.{is_ascii_digit}
use Rattle.ssb_schema.specs.Numerals.{decimal_value}
use Rattle.ssb_schema.proofs.numeral.long_number.Given as goal

abbrev pub invariant-loop-b : goal.invariant-loop-b
invariant-loop-b l = record {
  some : 0 < length l.bytes;
  few : length l.bytes ≤ 20;
  digits : list_all is_ascii_digit (take l.b-index l.bytes) ≡ true;
  fits : l.value < 2 ^ 64;
  value : l.value ≡ decimal_value (take l.b-index l.bytes);
}
