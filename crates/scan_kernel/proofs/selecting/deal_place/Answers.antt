use Rattle.std.proofs.Common.{◌≡◌, ◌≢◌, ◌<◌, ◌*◌, ◌%◌, ◌^◌, ◌++◌, ◌∙◌, ◌∷◌, [], Vec, Global, ℕ, ap, bit_and, length}
use Rattle.std.proofs.Common.{subst, sym, arith}
use Rattle.std.specs.Int.{bit_at, bit_not, trailing_zeros, w16}
use Rattle.std.specs.Prelude.{vec_capacity, vec_len}
use Rattle.std.proofs.lemmas.Nat.{and_le_l}
use Rattle.std.proofs.lemmas.Nat.Bits.{bit_at-trailing_zeros, bit_at_clear_same, bit_at_clear_other}
use Rattle.scan_kernel.proofs.DealtLaws.{gives_all, gives_more, gives_none}
use Rattle.scan_kernel.proofs.selecting.deal_place.Goals as goal

pub loop-rest-init : goal.loop-rest-init
loop-rest-init c = gives_none c.args.place c.args.mask c.args.lists.now (omega arith)

pub loop-rest-preserved : goal.loop-rest-preserved
loop-rest-preserved c =
    let inv = c.loop-rest.invariant in
    let rest = c.loop-rest.rest in
    let n = trailing_zeros w16 rest in
    let cleared = bit_not w16 (1 * 2 ^ n % 2 ^ 16) in
    let one = c.index-lists-number.result in
    let is = c.index-lists-number.is in
    let some : 0 < rest = omega (arith, c.loop-rest-test.true) in
    let lowest = bit_at-trailing_zeros w16 rest some inv.fits in
    let low : n < 16 = lowest.0 in
    let within : n < length c.loop-rest.lists = omega (arith, low, c.loop-rest.auto.lists, c.requires.all) in
    let fits : bit_and rest cleared < 2 ^ 16 = omega (arith, and_le_l rest cleared, inv.fits) in
    gives_more c.args.place c.args.mask rest (bit_and rest cleared) n c.args.lists.now c.loop-rest.lists one
    c.push_reserved.new.self within low is
    (c.push_reserved.ensures.items ∙ ap (λ (v : Vec ℕ Global). v.items ++ c.args.place ∷ []) (sym is))
    (c.push_reserved.ensures.capacity ∙ ap vec_capacity (sym is)) lowest.1 (bit_at_clear_same w16 rest n low)
    (λ k h ne. bit_at_clear_other w16 rest n low k h ne) fits inv

pub returns-clause-gives : goal.returns-clause-gives
returns-clause-gives c =
    gives_all c.args.place c.args.mask c.loop-rest.rest c.args.lists.now c.loop-rest.lists
    (omega (arith, c.loop-rest-test.false)) c.loop-rest.invariant

pub push_reserved-requires : goal.push_reserved-requires
push_reserved-requires c =
    let inv = c.loop-rest.invariant in
    let rest = c.loop-rest.rest in
    let n = trailing_zeros w16 rest in
    let one = c.index-lists-number.result in
    let some : 0 < rest = omega (arith, c.loop-rest-test.true) in
    let lowest = bit_at-trailing_zeros w16 rest some inv.fits in
    let same = inv.left n one lowest.0 (lowest.1 ∙ sym (inv.within n lowest.0 lowest.1)) in
    subst (λ (v : Vec ℕ Global). vec_len v < vec_capacity v) (sym same) (c.requires.room n one lowest.0)

pub loop-rest-smaller : goal.loop-rest-smaller
loop-rest-smaller c =
    let rest = c.loop-rest.rest in
    let n = trailing_zeros w16 rest in
    let cleared = bit_not w16 (1 * 2 ^ n % 2 ^ 16) in
    let some : 0 < rest = omega (arith, c.loop-rest-test.true) in
    let lowest = bit_at-trailing_zeros w16 rest some c.loop-rest.invariant.fits in
    let gone : bit_at (bit_and rest cleared) n ≡ 0 = bit_at_clear_same w16 rest n lowest.0 in
    let other : bit_and rest cleared ≢ rest =
    λ e. absurd (omega (arith, gone, lowest.1, ap (λ m. bit_at m n) e)) in
    omega (arith, and_le_l rest cleared, other)
