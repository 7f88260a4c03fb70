use Rattle.std.proofs.Common.{◌≡◌, ◌<◌, ◌≤◌, ℕ, List, ◌++◌, ◌∷◌, [], length, get_or, arith, ap, subst, sym, ◌∙◌}
use Rattle.std.specs.List.{range_with_len}
use Rattle.std.specs.List.Sorted.{IsPermutation}
use Rattle.std.proofs.lemmas.List.{take_all, take_more}
use Rattle.scan_kernel.proofs.FoundLaws.{range_push}
use Rattle.scan_kernel.proofs.parts.are_all.Goals as goal

pub loop-number-preserved : goal.loop-number-preserved
loop-number-preserved c =
    let n = c.loop-number.number in
    let parts : List ℕ = c.sort_unstable.new.self.items in
    let here = c.index.result.now in
    let below : n < length parts =
    omega (arith, c.loop-number-test.true, c.if-len-count.false, c.len.ensures, c.sort_unstable.new.self.ok) in
    take_more parts n here below ∙ ap (λ (xs : List ℕ). xs ++ get_or parts n here ∷ []) c.loop-number.invariant
    ∙ ap (λ (m : ℕ). range_with_len 0 n ++ m ∷ []) (sym c.index.ensures ∙ c.if-index-number.false) ∙ sym (range_push n)

pub returns : goal.returns
returns c told =
    let n = c.loop-number.number in
    let parts : List ℕ = c.sort_unstable.new.self.items in
    let all : n ≡ c.args.count = omega arith in
    let no_more : length parts ≤ n =
    omega (arith, c.loop-number-test.false, c.if-len-count.false, c.len.ensures, c.sort_unstable.new.self.ok) in
    let numbers : IsPermutation c.args.parts.items (range_with_len 0 n) =
    subst (IsPermutation c.args.parts.items) (sym (take_all n parts no_more) ∙ c.loop-number.invariant)
    c.sort_unstable.ensures.permutation in
    subst (λ count. IsPermutation c.args.parts.items (range_with_len 0 count)) all numbers
