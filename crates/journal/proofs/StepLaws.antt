-- What a crash leaves in each step of an append and of a recovery.
use Rattle.std.proofs.Common.{◌≡◌, inl, inr, ℕ, ◌+◌, ◌-◌, ◌≤◌, ◌^◌, false, List, [], ◌∷◌, ◌++◌, refl, length, get_or}
use Rattle.std.proofs.Common.{take, drop, sym, ◌∙◌, ap, subst, arith, append_assoc, length-append, length-drop}
use Rattle.std.proofs.Common.{take-append-drop}
use Rattle.std.proofs.lemmas.Bool.{cases_eq}
use Rattle.std.proofs.lemmas.List.{take_at, drop_at, drop_more, take_all, drop_all, append-nil}
use Rattle.std.proofs.Math.Seq.{take-append-add}
use Rattle.journal.specs.Disk.{Holds, Torn, Cut, Only}
use Rattle.journal.specs.Groups.{head, block, is_whole, recovered, blocks, at_rest, IsSettled, IsBeforeOrAfter}
use Rattle.journal.specs.Groups.{IsMending, IsAppending, behind_gate}
use Rattle.journal.specs.declared.gated.GatedFile.{GatedFile}
use Rattle.journal.proofs.DigitLaws.{number-digits}
use Rattle.journal.proofs.GroupLaws.{IsTold, AllTold, recovered-blocks, recovered_then_none, blocks-push, closed}
use Rattle.journal.proofs.GroupLaws.{short_none, length-head, parts, front_nothing}

-- what is written behind the closed gate
abbrev pub tail : List ℕ → List ℕ
tail = behind_gate

pub length-tail : (group : List ℕ) → length (tail group) ≡ 18 + length group
length-tail group = omega (arith, length-append (head (length group) ++ group) (48 ∷ []), length-append (head (length group)) group, length-head (length group))

pub short_told : (group : List ℕ) → length group ≤ 2 ^ 49 → IsTold group
short_told group short = number-digits 15 (length group) (omega arith)

pub tail_block : (group : List ℕ) → 49 ∷ tail group ≡ block group ++ 48 ∷ []
unfolding block
tail_block group = append_assoc (49 ∷ head (length group)) group (48 ∷ []) ∙ sym (append_assoc (49 ∷ head (length group)) group (48 ∷ []))

pub closed_gate : (rest : List ℕ) → is_whole (48 ∷ rest) ≡ false
closed_gate rest = closed 48 rest (omega arith)

module _ (groups : List (List ℕ)) (size : ℕ) (is_size : size ≡ length (blocks groups)) (told : AllTold groups) where
  pub length-at_rest : length (at_rest groups) ≡ size + 1
  length-at_rest = omega (arith, length-append (blocks groups) (48 ∷ []))

  pub recovered-at_rest : recovered (at_rest groups) ≡ groups
  recovered-at_rest = recovered_then_none groups (48 ∷ []) told (closed_gate [])

  -- the closed gate stands in each outcome of a write behind it
  stands_closed : (n : ℕ) (c : List ℕ) → Torn (size + 1) n (at_rest groups) c → c ≡ blocks groups ++ 48 ∷ drop (size + 1) c
  stands_closed n c torn =
      let rest = drop (size + 1) c in
      let front : take (size + 1) c ≡ at_rest groups = torn.before ∙ take_all (size + 1) (at_rest groups) (omega (arith, length-at_rest)) in
      sym (take-append-drop (size + 1) c) ∙ ap (λ (l : List ℕ). l ++ rest) front ∙ append_assoc (blocks groups) (48 ∷ []) rest

  pub torn_behind : (n : ℕ) (c : List ℕ) → Torn (size + 1) n (at_rest groups) c → recovered c ≡ groups
  torn_behind n c torn =
      let rest = drop (size + 1) c in
      ap recovered (stands_closed n c torn) ∙ recovered_then_none groups (48 ∷ rest) told (closed_gate rest)

  pub appending_behind : (group c : List ℕ) → Torn (size + 1) (length (tail group)) (at_rest groups) c → IsAppending groups group c
  appending_behind group c torn =
      let n = length (tail group) in
      let rest = drop (size + 1) c in
      let short : length rest ≤ n = omega (arith, length-drop (size + 1) c, torn.no_longer, length-at_rest) in
      (48, rest, stands_closed n c torn, inr (refl, short))

  pub written_behind : (bytes c : List ℕ) → Holds (at_rest groups) (size + 1) bytes c → c ≡ blocks groups ++ 48 ∷ bytes
  written_behind bytes c holds =
      let n = size + 1 + length bytes in
      holds
      ∙ ap (λ (l : List ℕ). l ++ bytes ++ drop n (at_rest groups)) (take_all (size + 1) (at_rest groups) (omega (arith, length-at_rest)))
      ∙ ap (λ (l : List ℕ). at_rest groups ++ bytes ++ l) (drop_all n (at_rest groups) (omega (arith, length-at_rest)))
      ∙ append-nil (at_rest groups ++ bytes)
      ∙ append_assoc (blocks groups) (48 ∷ []) bytes

  front : (bytes : List ℕ) → take size (blocks groups ++ 48 ∷ bytes) ≡ blocks groups
  front bytes = take_at (blocks groups) (48 ∷ bytes) size (sym is_size)

  back : (bytes : List ℕ) → drop (size + 1) (blocks groups ++ 48 ∷ bytes) ≡ bytes
  back bytes = ap (λ (l : List ℕ). drop (size + 1) l) (sym (append_assoc (blocks groups) (48 ∷ []) bytes)) ∙ drop_at (at_rest groups) bytes (size + 1) length-at_rest

  pub length-staged : (bytes : List ℕ) → length (blocks groups ++ 48 ∷ bytes) ≡ size + 1 + length bytes
  length-staged bytes = omega (arith, length-append (blocks groups) (48 ∷ bytes))

  -- a whole group behind any gate counts or it doesn't
  gated : (group : List ℕ) (gate : ℕ) → IsTold group → IsBeforeOrAfter groups group (blocks groups ++ gate ∷ tail group)
  gated group gate is_told = elim (cases_eq gate 49) [
    | inl is_open ↦
        let bytes : gate ∷ tail group ≡ block group ++ 48 ∷ [] = ap (λ (g : ℕ). g ∷ tail group) is_open ∙ tail_block group in
        let one : recovered (block group ++ 48 ∷ []) ≡ group ∷ [] = ap (λ (l : List ℕ). recovered (l ++ 48 ∷ [])) (sym (append-nil (block group))) ∙ recovered_then_none (group ∷ []) (48 ∷ []) (is_told, tt) (closed_gate []) in
        inr (recovered-blocks groups (gate ∷ tail group) told ∙ ap (λ (l : List ℕ). groups ++ recovered l) bytes ∙ ap (λ (l : List (List ℕ)). groups ++ l) one)
    | inr shut ↦ inl (recovered_then_none groups (gate ∷ tail group) told (closed gate (tail group) shut))
  ]

  -- the group stands whole in each outcome of the write that opens its gate
  stands_whole : (group c : List ℕ) → Torn size 1 (blocks groups ++ 48 ∷ tail group) c → c ≡ blocks groups ++ get_or c size 0 ∷ tail group
  stands_whole group c torn =
      let gate = get_or c size 0 in
      let rest : drop size c ≡ gate ∷ tail group = drop_more c size 0 (omega (arith, torn.no_shorter, length-staged (tail group))) ∙ ap (λ (l : List ℕ). gate ∷ l) (torn.after ∙ back (tail group)) in
      sym (take-append-drop size c) ∙ ap (λ (l : List ℕ). l ++ drop size c) (torn.before ∙ front (tail group)) ∙ ap (λ (l : List ℕ). blocks groups ++ l) rest

  pub torn_gate : (group c : List ℕ) → IsTold group → Torn size 1 (blocks groups ++ 48 ∷ tail group) c → IsBeforeOrAfter groups group c
  torn_gate group c is_told torn = subst (IsBeforeOrAfter groups group) (sym (stands_whole group c torn)) (gated group (get_or c size 0) is_told)

  pub appending_gate : (group c : List ℕ) → Torn size 1 (blocks groups ++ 48 ∷ tail group) c → IsAppending groups group c
  appending_gate group c torn = (get_or c size 0, tail group, stands_whole group c torn, inl refl)

  pub written_gate : (group c : List ℕ) → Holds (blocks groups ++ 48 ∷ tail group) size (49 ∷ []) c → c ≡ at_rest (groups ++ group ∷ [])
  written_gate group c holds =
      let staged = blocks groups ++ 48 ∷ tail group in
      holds
      ∙ ap (λ (l : List ℕ). l ++ (49 ∷ []) ++ drop (size + 1) staged) (front (tail group))
      ∙ ap (λ (l : List ℕ). blocks groups ++ (49 ∷ []) ++ l) (back (tail group))
      ∙ append_assoc (blocks groups) (49 ∷ []) (tail group)
      ∙ ap (λ (l : List ℕ). blocks groups ++ l) (tail_block group)
      ∙ sym (append_assoc (blocks groups) (block group) (48 ∷ []))
      ∙ ap (λ (l : List ℕ). l ++ 48 ∷ []) (sym (blocks-push groups group))

-- a file at rest, all of it on the disk
pub settled : {D : Type 0} (seen : D → List ℕ) (may_leave : D → List ℕ → Type 0) (gated : GatedFile D) (groups : List (List ℕ)) → AllTold groups → seen gated.disk ≡ at_rest groups → gated.size ≡ length (blocks groups) → Only (seen gated.disk) (may_leave gated.disk) → IsSettled seen may_leave gated × (recovered (seen gated.disk) ≡ groups)
settled seen may_leave gated groups told is counts only =
    let stands_for : recovered (seen gated.disk) ≡ groups = ap recovered is ∙ recovered_then_none groups (48 ∷ []) told (closed_gate []) in (
      record {
        file = is ∙ ap at_rest (sym stands_for);
        size = counts ∙ ap (λ (l : List (List ℕ)). length (blocks l)) (sym stands_for);
        durable = only;
      },
      stands_for,
    )

module _ (file : List ℕ) (size : ℕ) (is_size : size ≡ length (blocks (recovered file))) where
  abbrev groups : List (List ℕ)
  groups = recovered file

  pub inside : size ≤ length file
  inside = omega (arith, ap length (parts file).split, length-append (blocks groups) (parts file).end)

  -- any cut behind the groups keeps them
  pub cut_keeps : (c : List ℕ) → Cut size file c → recovered c ≡ groups
  cut_keeps c cut =
      let n = length c - size in
      let long : length c ≡ length (blocks groups) + n = omega (arith, cut.no_shorter, inside) in
      let end = (parts file).end in
      let whole : c ≡ blocks groups ++ take n end =
      sym cut.front ∙ ap (λ (l : List ℕ). take (length c) l) (parts file).split ∙ ap (λ (k : ℕ). take k (blocks groups ++ end)) long ∙ take-append-add (blocks groups) end n in
      ap recovered whole ∙ recovered_then_none groups (take n end) (parts file).all_told (front_nothing n end (parts file).nothing)

  pub cut_done : take size file ≡ blocks groups
  cut_done = ap (λ (l : List ℕ). take size l) (parts file).split ∙ take_at (blocks groups) (parts file).end size (sym is_size)

  -- one byte behind the groups is no group
  stands_before : (c : List ℕ) → Torn size 1 (blocks groups) c → c ≡ blocks groups ++ drop size c
  stands_before c torn =
      let rest = drop size c in
      let start : take size c ≡ blocks groups = torn.before ∙ take_all size (blocks groups) (omega arith) in
      sym (take-append-drop size c) ∙ ap (λ (l : List ℕ). l ++ rest) start

  pub torn_end : (c : List ℕ) → Torn size 1 (blocks groups) c → recovered c ≡ groups
  torn_end c torn =
      let rest = drop size c in
      let short = short_none rest (omega (arith, length-drop size c, torn.no_longer)) in
      ap recovered (stands_before c torn) ∙ recovered_then_none groups rest (parts file).all_told short

  pub mending_cut : (c : List ℕ) → Cut size file c → IsMending file c
  mending_cut c cut = inl (sym cut.front)

  pub mending_end : (c : List ℕ) → Torn size 1 (blocks groups) c → IsMending file c
  mending_end c torn = inr (drop size c, stands_before c torn, omega (arith, length-drop size c, torn.no_longer))

  pub written_end : (c : List ℕ) → Holds (blocks groups) size (48 ∷ []) c → c ≡ at_rest groups
  written_end c holds =
      holds
      ∙ ap (λ (l : List ℕ). l ++ (48 ∷ []) ++ drop (size + 1) (blocks groups)) (take_all size (blocks groups) (omega arith))
      ∙ ap (λ (l : List ℕ). blocks groups ++ (48 ∷ []) ++ l) (drop_all (size + 1) (blocks groups) (omega arith))
      ∙ append-nil (at_rest groups)
