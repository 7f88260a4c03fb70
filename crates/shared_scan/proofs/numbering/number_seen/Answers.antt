use Rattle.std.proofs.Common.{ℕ, ◌≡◌, ◌+◌, ◌<◌, true, false, length, get_or, below_more, sym, ap, subst, ◌∙◌, arith}
use Rattle.std.specs.Cmp.{unsigned_Decides}
use Rattle.std.specs.Int.{bit_at}
use Rattle.std.specs.Prelude.{nat_eq, vec_len}
use Rattle.shared_scan.specs.Numbering.{AreNumbered}
use Rattle.shared_scan.specs.declared.numbering.Numbering.{Numbering}
use Rattle.shared_scan.proofs.NumberingLaws.{seen_more}
use Rattle.shared_scan.proofs.numbering.number_seen.Goals as goal
use Rattle.shared_scan.proofs.numbering.number_seen.Goals.{then-has_bit+in_ok-number_code, else-has_bit}

pub loop-code-preserved : goal.loop-code-preserved
loop-code-preserved c =
    let q = c.args.question in
    let i = c.loop-code.code in
    let bit_of : ℕ → ℕ = λ code. bit_at (get_or c.args.seen.now code 0) q in
    let Seen : Numbering → Type 0 = λ n. (number : ℕ) → number < length n.kept.items
    → bit_of (get_or n.kept.items number 0) ≡ 1 in
    let Each : Numbering → Type 0 = λ n. (code : ℕ) → code < i + 1 → bit_of code ≡ 1
    → get_or n.numbers.items code 0 ≡ 4294967295 → ⊥ in
    let Numbered : Numbering → Type 0 = λ n. AreNumbered n.numbers.items n.kept.items in
    elim c.if-has_bit.branch [
      | then-has_bit+in_ok-number_code w ↦
          let new : Numbering = w.number_code.new.numbering in
          let kept = w.in_ok-number_code.ensures.keeps_or_adds in
          let test : nat_eq (bit_of i) 1 ≡ true = cc in
          let bit : bit_of i ≡ 1 = (unsigned_Decides (bit_of i) 1).0 test in
          let each : Each new = below_more (λ code. bit_of code ≡ 1 → get_or new.numbers.items code 0 ≡ 4294967295 → ⊥)
          i
          (λ code less set. w.in_ok-number_code.ensures.keeps code (c.loop-code.invariant.each code less set))
          (λ set. w.in_ok-number_code.ensures.has) in
          record {
            len = ap (λ (n : Numbering). vec_len n.numbers) w.numbering-is ∙ w.in_ok-number_code.ensures.len
                ∙ c.loop-code.invariant.len;
            few = omega (
              arith,
              ap (λ (n : Numbering). vec_len n.kept) w.numbering-is,
              w.in_ok-number_code.ensures.grows,
              c.loop-code.invariant.few,
            );
            numbered = subst Numbered (sym w.numbering-is) w.in_ok-number_code.ensures.is;
            each = subst Each (sym w.numbering-is) each;
            only = subst Seen (sym w.numbering-is) (seen_more c.args.seen.now c.loop-code.numbering.kept.items
                new.kept.items q i c.loop-code.invariant.only bit kept);
          }
      | else-has_bit w ↦
          let old : Numbering = c.loop-code.numbering in
          let test : nat_eq (bit_of i) 1 ≡ false = cc in
          let each : Each old = below_more (λ code. bit_of code ≡ 1 → get_or old.numbers.items code 0 ≡ 4294967295 → ⊥)
          i
          c.loop-code.invariant.each
          (λ set none. let yes_it : nat_eq (bit_of i) 1 ≡ true = (unsigned_Decides (bit_of i) 1).1 set in cc) in
          record {
            len = ap (λ (n : Numbering). vec_len n.numbers) w.numbering-is ∙ c.loop-code.invariant.len;
            few = omega (arith, ap (λ (n : Numbering). vec_len n.kept) w.numbering-is, c.loop-code.invariant.few);
            numbered = subst Numbered (sym w.numbering-is) c.loop-code.invariant.numbered;
            each = subst Each (sym w.numbering-is) each;
            only = subst Seen (sym w.numbering-is) c.loop-code.invariant.only;
          }
    ]
