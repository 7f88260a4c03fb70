-- What a reader finds of a file that grows while it is read.
use Rattle.std.proofs.Common.{◌≡◌, ◌≢◌, ◌⊎◌, inl, inr, ℕ, suc, ◌+◌, ◌-◌, ◌<◌, ◌≤◌, ◌^◌, List, [], ◌∷◌, ◌++◌, refl, length}
use Rattle.std.proofs.Common.{take, drop, sym, ◌∙◌, ap, subst, arith, append_assoc, length-append, take-append-drop, get_or}
use Rattle.std.proofs.lemmas.Bool.{cases_eq, cases_lt}
use Rattle.std.proofs.lemmas.List.{drop_at, take_at, append-nil, take-append-le}
use Rattle.std.proofs.Math.Seq.{take-append-add}
use Rattle.journal.specs.Groups.{recovered, block, blocks, behind, IsAppending}
use Rattle.journal.specs.Growing.{HasGrown, IsShut, IsLater, read_across, Moment, GoesOn, IsReadOf}
use Rattle.journal.specs.Reading.{HasFirst}
use Rattle.journal.proofs.GroupLaws.{AllTold, all_told_push, parts, recovered-blocks, recovered_then_none, closed, blocks-push}
use Rattle.journal.proofs.StepLaws.{short_told, tail_block}

pub blocks-append : (front back : List (List ℕ)) → blocks (front ++ back) ≡ blocks front ++ blocks back
blocks-append [] back = refl
blocks-append (group ∷ front) back = ap (λ (l : List ℕ). block group ++ l) (blocks-append front back) ∙ sym (append_assoc (block group) (blocks front) (blocks back))

told_front : (front back : List (List ℕ)) → AllTold (front ++ back) → AllTold front
told_front [] back told = tt
told_front (group ∷ front) back told = (told.0, told_front front back told.1)

-- what a file stands for stands at its front
pub begins : (groups : List (List ℕ)) (file : List ℕ) → HasFirst groups file → (rest : List ℕ) × (file ≡ blocks groups ++ rest)
begins groups file has =
    let p = parts file in
    (blocks has.0 ++ p.end, p.split ∙ ap (λ (l : List (List ℕ)). blocks l ++ p.end) has.1 ∙ ap (λ (l : List ℕ). l ++ p.end) (blocks-append groups has.0) ∙ append_assoc (blocks groups) (blocks has.0) p.end)

pub all_told : (groups : List (List ℕ)) (file : List ℕ) → HasFirst groups file → AllTold groups
all_told groups file has = told_front groups has.0 (subst AllTold has.1 (parts file).all_told)

pub grown_again : (groups : List (List ℕ)) (second third : List ℕ) → HasFirst groups second → HasGrown second third → HasFirst groups third
grown_again groups second third has grown =
    (has.0 ++ grown.0, grown.1 ∙ ap (λ (l : List (List ℕ)). l ++ grown.0) has.1 ∙ append_assoc groups has.0 grown.0)

pub alike : (old new : List ℕ) → recovered new ≡ recovered old → HasGrown old new
alike old new same = ([], same ∙ sym (append-nil (recovered old)))

-- behind whole groups stands something that is not an open gate, or nothing
pub ends_shut : (groups : List (List ℕ)) (gate : ℕ) (rest file : List ℕ) → AllTold groups → gate ≢ 49 → file ≡ blocks groups ++ gate ∷ rest → (recovered file ≡ groups) × IsShut file
ends_shut groups gate rest file told shut is =
    let stands : recovered file ≡ groups = ap recovered is ∙ recovered_then_none groups (gate ∷ rest) told (closed gate rest shut) in
    let end : behind file ≡ gate ∷ rest = ap (λ (l : List (List ℕ)). drop (length (blocks l)) file) stands ∙ ap (drop (length (blocks groups))) is ∙ drop_at (blocks groups) (gate ∷ rest) (length (blocks groups)) refl in
    (stands, λ more stands_open. shut (ap (λ (l : List ℕ). get_or l 0 0) (sym end ∙ stands_open)))

-- what a read stands for that begins in one moment and ends in another
pub record Across (old new bytes : List ℕ) : Type 0 where
  pub one : (recovered bytes ≡ recovered old) ⊎ (recovered bytes ≡ recovered new)
  pub shut : IsShut bytes

module _ (old new : List ℕ) (at : ℕ) (inside : at ≤ length old) (shut : IsShut old) (grown : HasGrown old new) where
  abbrev front : List ℕ
  front = blocks (recovered old)

  abbrev end : List ℕ
  end = (parts old).end

  split : old ≡ front ++ end
  split = (parts old).split

  -- it has come no further than the groups: all is as it is now
  early : at ≤ length front → read_across at old new ≡ new
  early few =
      let b = begins (recovered old) new grown in
      let same : take at old ≡ take at new = ap (take at) split ∙ take-append-le at front end few ∙ sym (take-append-le at front b.0 few) ∙ ap (take at) (sym b.1) in
      ap (λ (l : List ℕ). l ++ drop at new) same ∙ take-append-drop at new

  -- it has come to the gate behind them, which was not open
  late : (gate : ℕ) (rest : List ℕ) (k : ℕ) → end ≡ gate ∷ rest → at ≡ length front + suc k → read_across at old new ≡ front ++ gate ∷ (take k rest ++ drop at new)
  late gate rest k is far =
      let taken : take at old ≡ front ++ gate ∷ take k rest = ap (λ (n : ℕ). take n old) far ∙ ap (take (length front + suc k)) split ∙ take-append-add front end (suc k) ∙ ap (λ (l : List ℕ). front ++ take (suc k) l) is in
      ap (λ (l : List ℕ). l ++ drop at new) taken ∙ append_assoc front (gate ∷ take k rest) (drop at new)

  gate_shut : (gate : ℕ) (rest : List ℕ) → end ≡ gate ∷ rest → gate ≢ 49
  gate_shut gate rest is opened =
      let there : behind old ≡ gate ∷ rest = ap (drop (length front)) split ∙ drop_at front end (length front) refl ∙ is in
      shut rest (there ∙ ap (λ (g : ℕ). g ∷ rest) opened)

  later_end : length front < at → (bytes : List ℕ) → end ≡ bytes → Across old new (read_across at old new)
  later_end far [] is = absurd (omega (arith, ap length split, length-append front end, ap length is))
  later_end far (gate ∷ rest) is =
      let k = at - suc (length front) in
      let s = ends_shut (recovered old) gate (take k rest ++ drop at new) (read_across at old new) (parts old).all_told (gate_shut gate rest is) (late gate rest k is (omega arith)) in
      record { one = inl s.0; shut = s.1 }

  pub across : IsShut new → Across old new (read_across at old new)
  across new_shut = elim (cases_lt (length front) at) [
    | inl far ↦ later_end far end refl
    | inr few ↦ record { one = inr (ap recovered (early few)); shut = subst IsShut (sym (early few)) new_shut }
  ]

-- what a read has that grows with its file
pub record Reads (first bytes last : List ℕ) : Type 0 where
  pub begun : HasGrown first bytes
  pub ended : HasGrown bytes last
  pub shut : IsShut bytes

goes : (first before was bytes : List ℕ) (moment : Moment) → Reads first before was → GoesOn before was moment → bytes ≡ read_across moment.at before moment.file → Reads first bytes moment.file
goes first before was bytes moment r on is =
    let next = moment.file in
    let grown : HasGrown before next = grown_again (recovered before) was next r.ended on.later.grown in
    let a = subst (Across before next) (sym is) (across before next moment.at on.inside r.shut grown on.later.shut) in
    elim a.one [
      | inl as_before ↦ record {
        begun = grown_again (recovered first) before bytes r.begun (alike before bytes as_before);
        ended = grown_again (recovered bytes) before next (alike bytes before (sym as_before)) grown;
        shut = a.shut;
      }
      | inr as_now ↦ record {
        begun = grown_again (recovered first) next bytes (grown_again (recovered first) before next r.begun grown) (alike next bytes as_now);
        ended = alike bytes next (sym as_now);
        shut = a.shut;
      }
    ]

pub reads : (first : List ℕ) (moments : List Moment) (bytes last : List ℕ) → IsShut first → IsReadOf first moments bytes last → Reads first bytes last
reads first [] bytes last shut read =
    record {
      begun = alike first bytes (ap recovered read.0);
      ended = alike bytes last (ap recovered (read.1 ∙ sym read.0));
      shut = subst IsShut (sym read.0) shut;
    }
reads first (moment ∷ moments) bytes last shut read =
    let before = read.0 in
    let was = read.1 in
    let r = reads first moments before was shut read.2 in
    subst (Reads first bytes) (sym read.5) (goes first before was bytes moment r read.3 read.4)

-- what an append leaves for a reader at each moment
pub appending_later : (old group file : List ℕ) → length group ≤ 2 ^ 49 → IsAppending (recovered old) group file → IsLater old file
appending_later old group file short appending =
    let groups = recovered old in
    let told = (parts old).all_told in
    let gate = appending.0 in
    let rest = appending.1 in
    let is : file ≡ blocks groups ++ gate ∷ rest = appending.2 in
    let shut_gate : gate ≢ 49 → IsLater old file = λ shut. (let s = ends_shut groups gate rest file told shut is in record { grown = alike old file s.0; shut = s.1 }) in
    elim appending.3 [
      | inl whole ↦ elim (cases_eq gate 49) [
        | inl opened ↦
            let bytes : gate ∷ rest ≡ block group ++ 48 ∷ [] = ap (λ (g : ℕ). g ∷ rest) opened ∙ ap (λ (l : List ℕ). 49 ∷ l) whole ∙ tail_block group in
            let all : file ≡ blocks (groups ++ group ∷ []) ++ 48 ∷ [] = is ∙ ap (λ (l : List ℕ). blocks groups ++ l) bytes ∙ sym (append_assoc (blocks groups) (block group) (48 ∷ [])) ∙ ap (λ (l : List ℕ). l ++ 48 ∷ []) (sym (blocks-push groups group)) in
            let s = ends_shut (groups ++ group ∷ []) 48 [] file (all_told_push groups group told (short_told group short)) (omega arith) all in
            record { grown = (group ∷ [], s.0); shut = s.1 }
        | inr shut ↦ shut_gate shut
      ]
      | inr closed_one ↦ shut_gate (λ opened. omega (arith, closed_one.0, opened))
    ]

-- what is read behind the groups of a file makes it one that has grown
pub read_behind_grows : (seen bytes : List ℕ) (at : ℕ) → at ≡ length (blocks (recovered seen))
    → HasGrown seen (take at seen ++ bytes)
read_behind_grows seen bytes at is =
    let p = parts seen in
    let front : take at seen ≡ blocks (recovered seen) =
    ap (take at) p.split ∙ take_at (blocks (recovered seen)) p.end at (sym is) in (
      recovered bytes,
      ap (λ (l : List ℕ). recovered (l ++ bytes)) front ∙ recovered-blocks (recovered seen) bytes p.all_told,
    )
