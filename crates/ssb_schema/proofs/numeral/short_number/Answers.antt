use Rattle.std.proofs.Common.{◌≡◌, ◌<◌, ◌≤◌, ◌∙◌, ◌+◌, ◌-◌, ◌*◌, ◌^◌, true, take, get_or, sym, ap, refl, arith, Some}
use Rattle.std.proofs.lemmas.List.{take_all}
use Rattle.std.specs.Char.{is_ascii_digit}
use Rattle.std.proofs.lemmas.List.Folds.{list_all_more}
use Rattle.ssb_schema.specs.Numerals.{decimal_value}
use Rattle.ssb_schema.proofs.DigitLaws.{decimal_value-take, digit_most, few_digits, number_of-digits, power}
use Rattle.ssb_schema.proofs.numeral.short_number.Goals as goal

pub overflow_mul-value : goal.overflow_mul-value
overflow_mul-value c =
    let i = c.loop-b.b-index in
    omega (arith, c.loop-b.invariant.small, power i, few_digits (i + 1) (omega (arith, c.requires.few, c.loop-b-test.true)))

pub overflow_add-value : goal.overflow_add-value
overflow_add-value c =
    let i = c.loop-b.b-index in
    let digit : is_ascii_digit (get_or c.args.bytes.now i 0) ≡ true =
    sym c.is_ascii_digit.ensures.value ∙ c.if-not-is_ascii_digit.false in
    omega (
      arith,
      c.loop-b.invariant.small,
      power i,
      few_digits (i + 1) (omega (arith, c.requires.few, c.loop-b-test.true)),
      digit_most (get_or c.args.bytes.now i 0) digit,
    )

pub loop-b-preserved : goal.loop-b-preserved
loop-b-preserved c =
    let bytes = c.args.bytes.now in
    let i = c.loop-b.b-index in
    let digit : is_ascii_digit (get_or bytes i 0) ≡ true =
    sym c.is_ascii_digit.ensures.value ∙ c.if-not-is_ascii_digit.false in
    record {
      digits = list_all_more is_ascii_digit bytes i 0 c.loop-b-test.true ∙ rw (c.loop-b.invariant.digits, digit) refl;
      small = omega (arith, c.loop-b.invariant.small, power i, digit_most (get_or bytes i 0) digit);
      value = omega (arith, c.loop-b.invariant.value, decimal_value-take bytes i c.loop-b-test.true);
    }

pub returns : goal.returns
returns c =
    let bytes = c.args.bytes.now in
    let inv = c.loop-b.invariant in
    let all = take_all c.loop-b.b-index bytes c.loop-b-test.false in
    let value : c.loop-b.value ≡ decimal_value bytes = rw all at inv.value in
    ap Some value ∙ sym (number_of-digits bytes c.requires.some (omega (arith, c.requires.few)) (rw all at inv.digits)
    (omega (arith, value, inv.small, few_digits c.loop-b.b-index (omega (arith, c.requires.few)))))
