-- What a reader of a growing file has taken of it.
use Rattle.std.proofs.Common.{◌≡◌, ℕ, ◌+◌, Bool, false, List, [], ◌∷◌, ◌++◌, length, drop, refl, sym, ◌∙◌, ap, subst}
use Rattle.std.proofs.Common.{arith, append_assoc}
use Rattle.std.proofs.lemmas.Bool.{both_ways}
use Rattle.std.proofs.lemmas.List.{append-nil, drop-drop}
use Rattle.journal.specs.Groups.{recovered, IsFirst}
use Rattle.journal.specs.Growing.{AreFollowed}
use Rattle.journal.specs.Promises.{AreLeft}
use Rattle.journal.specs.Reading.{AreRead, HasFirst}
use Rattle.journal.proofs.ReadingLaws.{passed, first_groups}

-- of a file of which nothing was read
none_yet : (may_leave : List ℕ → Type 0) → AreFollowed [] may_leave [] [] 0 0 false
none_yet may_leave =
    record {
      read = record {
        inside = omega arith;
        bytes = refl;
        count = λ rest. refl;
        reach = refl;
        none = λ done. absurd (both_ways false refl done);
        ended = λ done. absurd (both_ways false refl done);
        front = λ done. absurd (both_ways false refl done);
      };
      left = λ file may. (recovered file, refl);
      more = λ synced. absurd (both_ways false refl synced);
    }

pub none_followed : (seen : List ℕ) (may_leave : List ℕ → Type 0) (groups : List (List ℕ)) (buffer : List ℕ) → seen ≡ []
    → groups ≡ [] → buffer ≡ [] → AreFollowed seen may_leave groups buffer 0 0 false
none_followed seen may_leave groups buffer nothing none empty =
    subst (λ (s : List ℕ). AreFollowed s may_leave groups buffer 0 0 false) (sym nothing)
    (subst (λ (gs : List (List ℕ)). AreFollowed [] may_leave gs buffer 0 0 false) (sym none)
    (subst (λ (b : List ℕ). AreFollowed [] may_leave [] b 0 0 false) (sym empty) (none_yet may_leave)))

-- the first group of a buffer, and those behind it
pub first_then : (buffer group : List ℕ) (place : ℕ) → IsFirst (drop place buffer) group
    → recovered (drop place buffer) ≡ group ∷ recovered (drop (place + (18 + length group)) buffer)
first_then buffer group place first =
    let n = 18 + length group in
    ap recovered first.bytes ∙ first.counts (drop n (drop place buffer))
    ∙ ap (λ (l : List ℕ). group ∷ recovered l) (drop-drop n place buffer)

-- one group more, which is on the disk
pub followed_more : (seen : List ℕ) (may_leave : List ℕ → Type 0) (groups : List (List ℕ)) (buffer group : List ℕ)
    (place end next : ℕ) (synced : Bool) → AreFollowed seen may_leave groups buffer place end synced
    → AreLeft (groups ++ recovered (drop place buffer)) may_leave → IsFirst (drop place buffer) group
    → next ≡ end + (18 + length group)
    → AreFollowed seen may_leave (groups ++ group ∷ []) buffer (place + (18 + length group)) next synced
followed_more seen may_leave groups buffer group place end next synced was left first is =
    let rest = recovered (drop (place + (18 + length group)) buffer) in
    let all : groups ++ recovered (drop place buffer) ≡ (groups ++ group ∷ []) ++ rest =
    ap (λ (l : List (List ℕ)). groups ++ l) (first_then buffer group place first) ∙ sym (append_assoc groups (group ∷ []) rest) in
    let more : AreLeft ((groups ++ group ∷ []) ++ rest) may_leave = subst (λ (gs : List (List ℕ)). AreLeft gs may_leave) all left in
    record {
      read = passed seen (Unit {0}) groups buffer group place end next false was.read refl first is;
      left = λ file may. (let f = more file may in (rest ++ f.0, f.1 ∙ append_assoc (groups ++ group ∷ []) rest f.0));
      more = λ _. more;
    }

-- the groups are the first of what was read
pub followed_first : (seen : List ℕ) (groups : List (List ℕ)) (buffer : List ℕ) (place end : ℕ)
    → AreRead seen (Unit {0}) groups buffer place end false → HasFirst groups seen
followed_first seen groups buffer place end read =
    subst (λ (l : List ℕ). HasFirst groups l) (append-nil seen) (first_groups seen (Unit {0}) groups buffer place end false read [])
