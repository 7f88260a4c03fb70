use Rattle.std.proofs.Common.{◌≡◌, ◌<◌, ◌≤◌, ◌^◌, true, take}
use Rattle.std.specs.List.{list_all}
use Rattle.std.specs.Char.{is_ascii_digit}
use Rattle.ssb_schema.specs.Numerals.{decimal_value}
use Rattle.ssb_text.proofs.direct.take_number.Given as goal

abbrev pub invariant-loop-at : goal.invariant-loop-at
invariant-loop-at l = record {
  few : l.at ≤ 19;
  digits : list_all is_ascii_digit (take l.at l.text) ≡ true;
  small : l.value < 10 ^ l.at;
  value : l.value ≡ decimal_value (take l.at l.text);
}
