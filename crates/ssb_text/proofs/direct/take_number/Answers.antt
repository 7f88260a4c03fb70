use Rattle.std.proofs.Common.{◌≡◌, ◌∙◌, ◌+◌, true, length, length-take, take, get_or, sym, ap, refl, arith, Some}
use Rattle.std.specs.Char.{is_ascii_digit}
use Rattle.std.proofs.lemmas.List.Folds.{list_all_more}
use Rattle.ssb_schema.specs.Numerals.{number_of}
use Rattle.ssb_schema.proofs.DigitLaws.{decimal_value-take, digit_most, few_digits, number_of-digits, power}
use Rattle.ssb_text.proofs.DirectLaws.{field_at}
use Rattle.ssb_text.proofs.NumberTextLaws.{digits_kept, digits_plain}
use Rattle.ssb_text.proofs.direct.take_number.Goals as goal

pub returns-then-at-gt0 : goal.returns-then-at-gt0
returns-then-at-gt0 c =
    let text = c.args.text.now in
    let i = c.loop-at.at in
    let field = take i text in
    let inv = c.loop-at.invariant in
    let count : length field ≡ i = omega (arith, length-take i text, c.loop-at-test.true) in
    record {
      field = field;
      begins = field_at text i c.loop-at-test.true c.if-b-eq-BAR.true (digits_plain field inv.digits);
      spelled = ap number_of (digits_kept field inv.digits) ∙ number_of-digits field
          (omega (arith, count, c.if-at-gt0.true)) (omega (arith, count, inv.few)) inv.digits
          (omega (arith, c.loop-at.auto.value-fits, inv.value)) ∙ ap Some (sym inv.value);
    }

pub overflow_mul-value : goal.overflow_mul-value
overflow_mul-value c =
    let i = c.loop-at.at in
    omega (arith, c.loop-at.invariant.small, power i, few_digits (i + 1) (omega (arith, c.if-at-ge-DIGITS.false)))

pub overflow_add-value : goal.overflow_add-value
overflow_add-value c =
    let i = c.loop-at.at in
    let digit : is_ascii_digit (get_or c.args.text.now i 0) ≡ true =
    sym c.is_ascii_digit.ensures.value ∙ c.if-not-is_ascii_digit.false in
    omega (
      arith,
      c.from.ensures,
      c.loop-at.invariant.small,
      power i,
      few_digits (i + 1) (omega (arith, c.if-at-ge-DIGITS.false)),
      digit_most (get_or c.args.text.now i 0) digit,
    )

pub loop-at-preserved : goal.loop-at-preserved
loop-at-preserved c =
    let text = c.args.text.now in
    let i = c.loop-at.at in
    let digit : is_ascii_digit (get_or text i 0) ≡ true =
    sym c.is_ascii_digit.ensures.value ∙ c.if-not-is_ascii_digit.false in
    record {
      few = omega (arith, c.if-at-ge-DIGITS.false);
      digits = list_all_more is_ascii_digit text i 0 c.loop-at-test.true ∙ rw (c.loop-at.invariant.digits, digit) refl;
      small = omega (arith, c.from.ensures, c.loop-at.invariant.small, power i, digit_most (get_or text i 0) digit);
      value = omega (arith, c.from.ensures, c.loop-at.invariant.value, decimal_value-take text i c.loop-at-test.true);
    }
