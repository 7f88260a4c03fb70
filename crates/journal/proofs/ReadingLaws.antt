-- What a reader of groups has read of a file.
use Rattle.std.proofs.Common.{◌≡◌, ◌≢◌, ℕ, zero, suc, ◌+◌, ◌*◌, ◌<◌, ◌≤◌, ◌^◌, Bool, true, false, List, [], ◌∷◌, ◌++◌, length, drop}
use Rattle.std.proofs.Common.{refl, sym, ◌∙◌, ap, subst, arith, append_assoc, length-append, length-drop}
use Rattle.std.proofs.lemmas.Bool.{both_ways}
use Rattle.std.proofs.lemmas.List.{append-nil, drop-drop, drop_at}
use Rattle.journal.specs.Groups.{AreTorn, block, blocks, behind, recovered, IsFirst}
use Rattle.journal.specs.Reading.{AreRead, HasFirst}
use Rattle.journal.proofs.GroupLaws.{blocks-push, length-block}

-- one group more
pub passed : (taken : List ℕ) (Ended : Type 0) (groups : List (List ℕ)) (buffer group : List ℕ) (place end next : ℕ) (done : Bool)
    → AreRead taken Ended groups buffer place end done → done ≡ false → IsFirst (drop place buffer) group
    → next ≡ end + (18 + length group)
    → AreRead taken Ended (groups ++ group ∷ []) buffer (place + (18 + length group)) next done
passed taken Ended groups buffer group place end next done was going first is =
    let n = 18 + length group in
    let rest = drop (place + n) buffer in
    let behind_it : drop n (drop place buffer) ≡ rest = drop-drop n place buffer in
    record {
      inside = omega (arith, first.long, length-drop place buffer, was.inside);
      bytes = was.bytes ∙ ap (λ (l : List ℕ). blocks groups ++ l) (first.bytes ∙ ap (λ (l : List ℕ). block group ++ l) behind_it)
          ∙ sym (append_assoc (blocks groups) (block group) rest) ∙ ap (λ (l : List ℕ). l ++ rest) (sym (blocks-push groups group));
      count = λ more.
          ap (λ (l : List ℕ). recovered (l ++ more)) (blocks-push groups group)
          ∙ ap recovered (append_assoc (blocks groups) (block group) more)
          ∙ was.count (block group ++ more) ∙ ap (λ (l : List (List ℕ)). groups ++ l) (first.counts more)
          ∙ sym (append_assoc groups (group ∷ []) (recovered more));
      reach = omega (arith, is, was.reach, ap length (blocks-push groups group), length-append (blocks groups) (block group), length-block group);
      none = λ is_done. absurd (both_ways done going is_done);
      ended = λ is_done. absurd (both_ways done going is_done);
      front = λ is_done. absurd (both_ways done going is_done);
    }

-- each group takes a gate and a head
pub many_blocks : (groups : List (List ℕ)) → 18 * length groups ≤ length (blocks groups)
many_blocks [] = omega arith
many_blocks (group ∷ groups) =
    omega (arith, many_blocks groups, length-append (block group) (blocks groups), length-block group)

module _ (taken : List ℕ) (Ended : Type 0) (groups : List (List ℕ)) (buffer : List ℕ) (place end : ℕ) (done : Bool) (are : AreRead taken Ended groups buffer place end done) where
  pub first_groups : (more : List ℕ) → HasFirst groups (taken ++ more)
  first_groups more = (
    recovered (drop place buffer ++ more),
    ap (λ (l : List ℕ). recovered (l ++ more)) are.bytes ∙ ap recovered (append_assoc (blocks groups) (drop place buffer) more)
        ∙ are.count (drop place buffer ++ more),
  )

  pub all_groups : done ≡ true → recovered taken ≡ groups
  all_groups is_done =
      ap recovered are.bytes ∙ are.count (drop place buffer) ∙ ap (λ (l : List (List ℕ)). groups ++ l) (are.none is_done) ∙ append-nil groups

  pub rest_behind : done ≡ true → behind taken ≡ drop place buffer
  rest_behind is_done =
      ap (λ (gs : List (List ℕ)). drop (length (blocks gs)) taken) (all_groups is_done)
      ∙ ap (λ (l : List ℕ). drop (length (blocks groups)) l) are.bytes
      ∙ drop_at (blocks groups) (drop place buffer) (length (blocks groups)) refl

  pub few_groups : end < 2 ^ 64 → length groups < 2 ^ 60
  few_groups small = omega (arith, small, many_blocks groups, are.reach)

  -- in the end the buffer is what stands behind the groups
  pub buffer_behind : (seen : List ℕ) → done ≡ true → seen ≡ taken → behind seen ≡ buffer
  buffer_behind seen is_done same =
      ap behind same ∙ rest_behind is_done ∙ ap (λ (n : ℕ). drop n buffer) (are.front is_done)

pub are_torn : (seen rest torn : List ℕ) → behind seen ≡ rest → (rest ≡ 48 ∷ [] → torn ≡ []) → (rest ≢ 48 ∷ [] → torn ≡ rest)
    → AreTorn seen torn
are_torn seen rest torn is at_rest cut = record {
  none = λ closed. at_rest (sym is ∙ closed);
  all = λ other. cut (λ closed. other (is ∙ closed)) ∙ sym is;
}
