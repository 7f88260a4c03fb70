use Rattle.std.proofs.Common.{arith}
-- Writing one text after another, where a part of a text may be all of it.
use Rattle.std.proofs.Common.{◌≡◌, ℕ, ◌+◌, ◌<◌, List, [], ◌∷◌, ◌++◌, length, take, drop, get_or, flat_map, Option}
use Rattle.std.proofs.Common.{Result, Ok, Err, IsErrAnd, sym, ◌∙◌, ap, append_assoc, append-nil}
use Rattle.std.specs.Io.KnownBytes.{Appends}
use Rattle.std.proofs.lemmas.List.{take_more, take-append-drop}
use Rattle.std.proofs.lemmas.List.Concat.{flat_map-append}
use Rattle.ssb_text.specs.Written.{AppendsPart}
use Rattle.ssb_text.proofs.WrittenLaws.{appends_both}
use Rattle.ssb_formats.specs.Formats.{Shows}

-- a text and then a part of another
pub part_then : (a b c : Option (List ℕ)) (x y : List ℕ) → Appends a b x → AppendsPart b c y → AppendsPart a c (x ++ y)
part_then a b c x y first second = grind (arith, append_assoc, appends_both)

-- a part of a text is one of a longer text
pub part_longer : (a b : Option (List ℕ)) (x y : List ℕ) → AppendsPart a b x → AppendsPart a b (x ++ y)
part_longer a b x y written = grind (arith, append_assoc)

-- a text, and then what shows another
pub shows_next : {X E : Type 0} (a b c : Option (List ℕ)) (x y : List ℕ) (r : Result X E) → Appends a b x
    → Shows b c r y → Shows a c r (x ++ y)
shows_next a b c x y (Ok v) first second = appends_both a b c x y first second
shows_next a b c x y (Err e) first second = part_then a b c x y first second

-- what stopped with an error has written a part
pub shows_stopped : {X E : Type 0} (Q : E → Type 0) (r : Result X E) (a b : Option (List ℕ)) (x : List ℕ)
    → IsErrAnd r Q → AppendsPart a b x → Shows a b r x
shows_stopped Q (Ok v) a b x failed part = absurd failed
shows_stopped Q (Err e) a b x failed part = part

-- a part of the next item's text is one of all texts
pub part_item : {X : Type 0} (f : X → List ℕ) (xs : List X) (i : ℕ) (x d : X) (a b c : Option (List ℕ)) → i < length xs
    → x ≡ get_or xs i d
    → Appends a b (flat_map f (take i xs)) → AppendsPart b c (f x) → AppendsPart a c (flat_map f xs)
part_item f xs i x d a b c within is first second =
    let more : flat_map f (take (i + 1) xs) ≡ flat_map f (take i xs) ++ f x
    = ap (flat_map f) (take_more xs i d within) ∙ flat_map-append f (take i xs) (get_or xs i d ∷ [])
    ∙ ap (λ y. flat_map f (take i xs) ++ y) (append-nil (f (get_or xs i d)) ∙ ap f (sym is)) in
    let whole : flat_map f xs ≡ (flat_map f (take i xs) ++ f x) ++ flat_map f (drop (i + 1) xs)
    = ap (flat_map f) (sym (take-append-drop (i + 1) xs)) ∙ flat_map-append f (take (i + 1) xs) (drop (i + 1) xs)
    ∙ ap (λ t. t ++ flat_map f (drop (i + 1) xs)) more in
    rw whole (part_longer a c (flat_map f (take i xs) ++ f x) (flat_map f (drop (i + 1) xs))
    (part_then a b c (flat_map f (take i xs)) (f x) first second))
