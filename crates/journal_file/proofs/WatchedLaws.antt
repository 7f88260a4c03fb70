-- What was read of a file that another process writes, and synced.
use Rattle.std.proofs.Common.{◌≡◌, ◌≤◌, ℕ, ◌+◌, List, [], ◌∷◌, ◌++◌, length, take, drop, refl, sym, ◌∙◌, ap, subst, arith}
use Rattle.std.proofs.Common.{length-append, take-append-drop, append_assoc}
use Rattle.std.proofs.lemmas.List.{take_at, take_all, take-append-le}
use Rattle.std.proofs.lemmas.List.Sums.{fold-append}
use Rattle.journal.specs.Groups.{recovered, blocks}
use Rattle.journal.specs.Growing.{HasGrown}
use Rattle.journal.specs.Promises.{AreLeft}
use Rattle.journal.specs.Reading.{HasFirst}
use Rattle.journal.proofs.GrowingLaws.{read_behind_grows}
use Rattle.journal_file.specs.Watched.{read_more, seen_by, seen_by_first, AreCounted, BeginsAlike}
use Rattle.journal_file.specs.declared.watched_file.ReadPart.{ReadPart}

pub seen_more : (parts : List ReadPart) (part : ReadPart)
    → seen_by (parts ++ part ∷ []) ≡ take part.at (seen_by parts) ++ part.bytes.items
seen_more parts part = fold-append read_more [] parts (part ∷ [])

alike_again : (first second third : List ℕ) → BeginsAlike first second → HasGrown second third → BeginsAlike first third
alike_again first second third alike grown =
    let n = length (recovered first) in
    let rest = drop n (recovered second) in
    let split : recovered second ≡ recovered first ++ rest =
    sym (take-append-drop n (recovered second)) ∙ ap (λ (l : List (List ℕ)). l ++ rest) alike in
    let all : recovered third ≡ recovered first ++ (rest ++ grown.0) =
    grown.1 ∙ ap (λ (l : List (List ℕ)). l ++ grown.0) split ∙ append_assoc (recovered first) rest grown.0 in
    ap (take n) all ∙ take_at (recovered first) (rest ++ grown.0) n refl

-- one read more
pub read_counted : (parts : List ReadPart) (part : ReadPart) (count next synced : ℕ) → AreCounted parts count synced
    → part.at ≡ length (blocks (recovered (seen_by parts))) → next ≡ count + 1
    → AreCounted (parts ++ part ∷ []) next synced
read_counted parts part count next synced was behind is =
    let few : synced ≤ length parts = omega (arith, was.0, was.1) in
    let same : seen_by_first synced (parts ++ part ∷ []) ≡ seen_by_first synced parts =
    ap seen_by (take-append-le synced parts (part ∷ []) few) in
    let grown = alike_again (seen_by_first synced parts) (seen_by parts)
    (take part.at (seen_by parts) ++ part.bytes.items) was.2
    (read_behind_grows (seen_by parts) part.bytes.items part.at behind) in (
      omega (arith, is, was.0, length-append parts (part ∷ [])),
      omega (arith, is, was.1),
      subst (λ (l : List ℕ). BeginsAlike l (seen_by (parts ++ part ∷ []))) (sym same)
          (subst (BeginsAlike (seen_by_first synced parts)) (sym (seen_more parts part)) grown),
    )

all_seen : (parts : List ReadPart) (count : ℕ) → count ≡ length parts → seen_by_first count parts ≡ seen_by parts
all_seen parts count is = ap seen_by (take_all count parts (omega (arith, is)))

-- no crash takes away what was synced
pub sync_left : (parts : List ReadPart) (count synced : ℕ) → AreCounted parts count synced
    → AreLeft (recovered (seen_by parts)) (HasFirst (recovered (seen_by_first count parts)))
sync_left parts count synced was = λ file left.
    subst (λ (l : List ℕ). HasFirst (recovered l) file) (all_seen parts count was.0) left

-- nor what was synced before
pub sync_keeps : (parts : List ReadPart) (count synced : ℕ) → AreCounted parts count synced → (file : List ℕ)
    → HasFirst (recovered (seen_by_first count parts)) file → HasFirst (recovered (seen_by_first synced parts)) file
sync_keeps parts count synced was file left =
    let old = recovered (seen_by_first synced parts) in
    let n = length old in
    let rest = drop n (recovered (seen_by parts)) in
    let now = sync_left parts count synced was file left in
    let split : recovered (seen_by parts) ≡ old ++ rest =
    sym (take-append-drop n (recovered (seen_by parts))) ∙ ap (λ (l : List (List ℕ)). l ++ rest) was.2 in
    (rest ++ now.0, now.1 ∙ ap (λ (l : List (List ℕ)). l ++ now.0) split ∙ append_assoc old rest now.0)
