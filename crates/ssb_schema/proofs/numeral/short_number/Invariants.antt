use Rattle.std.proofs.Common.{◌≡◌, ◌<◌, ◌^◌, true, take}
use Rattle.std.specs.List.{list_all}
use Rattle.std.specs.Char.{is_ascii_digit}
use Rattle.ssb_schema.specs.Numerals.{decimal_value}
use Rattle.ssb_schema.proofs.numeral.short_number.Given as goal

abbrev pub invariant-loop-b : goal.invariant-loop-b
invariant-loop-b l = record {
  digits : list_all is_ascii_digit (take l.b-index l.bytes) ≡ true;
  small : l.value < 10 ^ l.b-index;
  value : l.value ≡ decimal_value (take l.b-index l.bytes);
}
