use Rattle.std.proofs.Common.{◌<◌, suc, lit<, ◌≡◌, ◌+◌, ◌*◌, ◌^◌, ◌≤◌, ℕ, get_or, drop, length, sym, ◌∙◌, ap, arith}
use Rattle.std.proofs.Common.{add-one}
use Rattle.std.proofs.Math.Nat.{pow-succ', pow-le-pow_right}
use Rattle.std.proofs.lemmas.List.{at_drop_more, at_drop_all}
use Rattle.journal.specs.Groups.{number_from}
use Rattle.journal.proofs.DigitLaws.{number_step, number_end}
use Rattle.journal.proofs.groups.number_of.Goals as goal

pub loop-digit-preserved : goal.loop-digit-preserved
loop-digit-preserved c =
    let i = c.loop-digit.digit-index in
    let digits = c.args.digits.now in
    let one_more = at_drop_more (number_from c.loop-digit.number) digits i 0 c.loop-digit-test.true in
    let step = number_step c.loop-digit.number (get_or digits i 0) (drop (i + 1) digits) in
    let power : 10 ^ (i + 1) ≡ 10 * 10 ^ i = ap (λ (k : ℕ). 10 ^ k) (add-one i) ∙ pow-succ' 10 i in
    let fits = c.type_inv.digits i in
    record {
      value = ap (λ (d : ℕ). number_from (10 * c.loop-digit.number + d) (drop (i + 1) digits)) c.saturating_sub.ensures ∙ sym step ∙ sym one_more ∙ c.loop-digit.invariant.value;
      small = omega (arith, fits);
    }

pub returns-clause-value : goal.returns-clause-value
returns-clause-value c =
    let e = at_drop_all (number_from c.loop-digit.number) c.args.digits.now c.loop-digit.digit-index (omega arith) in
    sym (number_end c.loop-digit.number) ∙ sym e ∙ c.loop-digit.invariant.value

-- the number before the last digits has room for one more
room : (i n count : ℕ) → i < n → n ≤ 15 → count + 23 ≤ 23 * 10 ^ i → 10 * count + 230 ≤ 23 * 10 ^ 15
room i n count inside short small =
    let power = pow-succ' 10 i in
    let most = pow-le-pow_right {n = 10} (lit< tt) {i = suc i} {j = 15} (omega arith) in
    omega (arith, power, most, small)

pub overflow_mul-number : goal.overflow_mul-number
overflow_mul-number c =
    let fits = room c.loop-digit.digit-index (length c.args.digits.now) c.loop-digit.number c.loop-digit-test.true c.requires c.loop-digit.invariant.small in
    record { fits = omega (arith, fits) }

pub overflow_add-number : goal.overflow_add-number
overflow_add-number c =
    let fits = room c.loop-digit.digit-index (length c.args.digits.now) c.loop-digit.number c.loop-digit-test.true c.requires c.loop-digit.invariant.small in
    record { fits = omega (arith, fits, c.saturating_sub.ensures, c.type_inv.digits c.loop-digit.digit-index) }

pub returns-clause-small : goal.returns-clause-small
returns-clause-small c =
    let most = pow-le-pow_right {n = 10} (lit< tt) {i = c.loop-digit.digit-index} {j = 15} (omega arith) in
    omega (arith, most, c.loop-digit.invariant.small)
