-- What a crash may leave after the calls of a disk: what a read returns, and what was promised.
use Rattle.std.proofs.Common.{◌≡◌, ◌∙◌, ℕ, ◌+◌, ◌≤◌, true, false, nat_le, List, [], ◌∷◌, ◌++◌, length, take, drop, refl}
use Rattle.std.proofs.Common.{sym, ap, arith, append_assoc, length-append, length-drop, take-append-drop}
use Rattle.std.proofs.lemmas.Bool.{and_parts, leb-true}
use Rattle.std.proofs.lemmas.List.{take_at, take_min, drop_at, take_all, length-take, length-take-le}
use Rattle.journal.specs.Calls.{Call, opened, wrote, trimmed, synced, promised, seen_after, left_after, are_inside, Keeps}
use Rattle.journal.specs.Disk.{Torn, Cut}
use Rattle.journal.specs.Groups.{recovered}
use Rattle.journal.specs.Promises.{AreLeft}
use Rattle.journal.proofs.MomentLaws.{torn_same}

-- a write that was not cut short
torn_whole : (at : ℕ) (bytes file : List ℕ) → at ≤ length file
    → Torn at (length bytes) file (take at file ++ bytes ++ drop (at + length bytes) file)
torn_whole at bytes file inside =
    let n = length bytes in
    let rest = drop (at + n) file in
    let front : length (take at file) ≡ at = length-take-le at file inside in
    let written : length (take at file ++ bytes) ≡ at + n = omega (arith, length-append (take at file) bytes, front) in
    let size = length-append (take at file ++ bytes) rest in
    let more = length-drop (at + n) file in
    record {
      before = ap (take at) (append_assoc (take at file) bytes rest) ∙ take_at (take at file) (bytes ++ rest) at front;
      after = drop_at (take at file ++ bytes) rest (at + n) written;
      no_shorter = omega (arith, size, written, more);
      no_longer = omega (arith, size, written, more);
    }

cut_same : (n : ℕ) (file : List ℕ) → Cut n file file
cut_same n file = record { no_shorter = omega arith; front = take_all (length file) file (omega arith) }

cut_whole : (n : ℕ) (file : List ℕ) → Cut n file (take n file)
cut_whole n file = record {
  no_shorter = omega (arith, length-take n file);
  front = ap (λ (k : ℕ). take k file) (length-take n file) ∙ take_min n file;
}

-- a crash may leave what a read returns
may_be_read_in : (calls : List Call) → are_inside calls ≡ true → left_after calls (seen_after calls)
may_be_read_in [] inside = refl
may_be_read_in (opened bytes ∷ calls) inside = refl
may_be_read_in (wrote at bytes true ∷ calls) inside =
    let both = and_parts (nat_le at (length (seen_after calls))) (are_inside calls) inside in
    (seen_after calls, may_be_read_in calls both.1, torn_whole at bytes (seen_after calls) (leb-true _ _ both.0))
may_be_read_in (wrote at bytes false ∷ calls) inside =
    let both = and_parts (nat_le at (length (seen_after calls))) (are_inside calls) inside in
    (seen_after calls, may_be_read_in calls both.1, torn_same at (length bytes) (seen_after calls))
may_be_read_in (trimmed len true ∷ calls) inside = (seen_after calls, may_be_read_in calls inside, cut_whole len (seen_after calls))
may_be_read_in (trimmed len false ∷ calls) inside = (seen_after calls, may_be_read_in calls inside, cut_same len (seen_after calls))
may_be_read_in (synced ok ∷ calls) inside = (may_be_read_in calls inside, λ is. refl)
may_be_read_in (promised ∷ calls) inside = may_be_read_in calls inside

pub may_be_read : (calls : List Call) (groups : List (List ℕ)) → Keeps calls groups → left_after calls (seen_after calls)
may_be_read calls groups kept = may_be_read_in calls kept.0

pub still_left : (calls : List Call) (groups : List (List ℕ)) → Keeps calls groups → AreLeft groups (left_after calls)
still_left calls groups kept file left =
    let n = length groups in
    (drop n (recovered file), sym (take-append-drop n (recovered file)) ∙ ap (λ (l : List (List ℕ)). l ++ drop n (recovered file)) (kept.1 file left))
