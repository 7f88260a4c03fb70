use Rattle.std.proofs.Common.{◌≡◌, ◌∙◌, ◌≤◌, ◌+◌, ◌^◌, true, take, get_or, sym, ap, refl, arith, Some}
use Rattle.std.proofs.lemmas.List.{take_all}
use Rattle.std.specs.Char.{is_ascii_digit}
use Rattle.std.proofs.lemmas.List.Folds.{list_all_more}
use Rattle.ssb_schema.specs.Numerals.{decimal_value}
use Rattle.ssb_schema.proofs.DigitLaws.{decimal_value-take, number_of-too_large, number_of-digits}
use Rattle.ssb_schema.proofs.numeral.long_number.Goals as goal

pub returns-in_default : goal.returns-in_default
returns-in_default c =
    let bytes = c.args.bytes.now in
    let i = c.loop-b.b-index in
    let large : 2 ^ 64 ≤ decimal_value (take (i + 1) bytes) =
    omega (arith, decimal_value-take bytes i c.loop-b-test.true, c.loop-b.invariant.value, c.in_default.ensures) in
    sym (number_of-too_large bytes (i + 1) large)

pub loop-b-preserved : goal.loop-b-preserved
loop-b-preserved c =
    let bytes = c.args.bytes.now in
    let i = c.loop-b.b-index in
    let digit : is_ascii_digit (get_or bytes i 0) ≡ true =
    sym c.is_ascii_digit.ensures.value ∙ c.if-not-is_ascii_digit.false in
    record {
      some = c.loop-b.invariant.some;
      few = c.loop-b.invariant.few;
      digits = list_all_more is_ascii_digit bytes i 0 c.loop-b-test.true ∙ rw (c.loop-b.invariant.digits, digit) refl;
      fits = omega (arith, c.in-Some.ensures.0, c.in-Some.ensures.1);
      value = c.in-Some.ensures.1 ∙ sym (rw (← c.loop-b.invariant.value) at
          (decimal_value-take bytes i c.loop-b-test.true));
    }

pub returns : goal.returns
returns c =
    let bytes = c.args.bytes.now in
    let inv = c.loop-b.invariant in
    let all = take_all c.loop-b.b-index bytes c.loop-b-test.false in
    let value : c.loop-b.value ≡ decimal_value bytes = rw all at inv.value in
    ap Some value ∙ sym (number_of-digits bytes inv.some inv.few (rw all at inv.digits)
    (omega (arith, value, inv.fits)))
