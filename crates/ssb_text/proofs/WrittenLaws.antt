-- Writing one text after another.
use Rattle.std.proofs.Common.{◌≡◌, ℕ, ◌+◌, ◌<◌, List, [], ◌∷◌, ◌++◌, length, take, drop, get_or, flat_map, Option, None}
use Rattle.std.proofs.Common.{Some, Result, Ok, Err, IsErrAnd, sym, ◌∙◌, ap, arith, append_assoc, append-nil}
use Rattle.std.proofs.Common.{length-append}
use Rattle.std.specs.Io.KnownBytes.{Appends}
use Rattle.std.proofs.lemmas.List.{take_more, take-append-drop}
use Rattle.std.proofs.lemmas.List.Concat.{flat_map-append}
use Rattle.ssb_text.specs.Written.{AppendsPart, StopsShort, Writes}

-- nothing is appended
pub appends_none : (a : Option (List ℕ)) → Appends a a []
appends_none None = tt
appends_none (Some xs) = sym (append-nil xs)

-- one text and then another
pub appends_both : (a b c : Option (List ℕ)) (x y : List ℕ) → Appends a b x → Appends b c y → Appends a c (x ++ y)
appends_both None b c x y first second = tt
appends_both (Some xs) None c x y first second = absurd first
appends_both (Some xs) (Some ys) None x y first second = absurd second
appends_both (Some xs) (Some ys) (Some zs) x y first second = second ∙ ap (λ t. t ++ y) first ∙ append_assoc xs x y

-- a text and then a part of another
pub appends_part : (a b c : Option (List ℕ)) (x y : List ℕ) → Appends a b x → StopsShort b c y → StopsShort a c (x ++ y)
appends_part a b c x y first second = grind (arith, append_assoc, appends_both)

-- a part of a text is one of a longer text
pub part_longer : (a b : Option (List ℕ)) (x y : List ℕ) → StopsShort a b x → StopsShort a b (x ++ y)
part_longer a b x y written = grind (arith, append_assoc, length-append)

-- a text, and then what writes another
pub writes_next : {X E : Type 0} (a b c : Option (List ℕ)) (x y : List ℕ) (r : Result X E) → Appends a b x
    → Writes b c r y → Writes a c r (x ++ y)
writes_next a b c x y (Ok v) first second = appends_both a b c x y first second
writes_next a b c x y (Err e) first second = appends_part a b c x y first second

-- what stopped with an error has written a part
pub writes_stopped : {X E : Type 0} (Q : E → Type 0) (r : Result X E) (a b : Option (List ℕ)) (x : List ℕ)
    → IsErrAnd r Q → StopsShort a b x → Writes a b r x
writes_stopped Q (Ok v) a b x failed part = absurd failed
writes_stopped Q (Err e) a b x failed part = part

-- the texts of the first items, and that of the next
one_more : {X : Type 0} (f : X → List ℕ) (xs : List X) (i : ℕ) (x d : X) → i < length xs → x ≡ get_or xs i d
    → flat_map f (take (i + 1) xs) ≡ flat_map f (take i xs) ++ f x
one_more f xs i x d within is =
    ap (flat_map f) (take_more xs i d within) ∙ flat_map-append f (take i xs) (get_or xs i d ∷ [])
    ∙ ap (λ y. flat_map f (take i xs) ++ y) (append-nil (f (get_or xs i d)) ∙ ap f (sym is))

pub appends_item : {X : Type 0} (f : X → List ℕ) (xs : List X) (i : ℕ) (x d : X) (a b c : Option (List ℕ))
    → i < length xs → x ≡ get_or xs i d
    → Appends a b (flat_map f (take i xs)) → Appends b c (f x) → Appends a c (flat_map f (take (i + 1) xs))
appends_item f xs i x d a b c within is first second = grind (arith, one_more, appends_both)

-- a part of the next item's text is one of all texts
pub part_item : {X : Type 0} (f : X → List ℕ) (xs : List X) (i : ℕ) (x d : X) (a b c : Option (List ℕ)) → i < length xs
    → x ≡ get_or xs i d
    → Appends a b (flat_map f (take i xs)) → StopsShort b c (f x) → StopsShort a c (flat_map f xs)
part_item f xs i x d a b c within is first second =
    let whole : flat_map f xs ≡ (flat_map f (take i xs) ++ f x) ++ flat_map f (drop (i + 1) xs)
    = ap (flat_map f) (sym (take-append-drop (i + 1) xs)) ∙ flat_map-append f (take (i + 1) xs) (drop (i + 1) xs)
    ∙ ap (λ t. t ++ flat_map f (drop (i + 1) xs)) (one_more f xs i x d within is) in
    rw whole (part_longer a c (flat_map f (take i xs) ++ f x) (flat_map f (drop (i + 1) xs))
    (appends_part a b c (flat_map f (take i xs)) (f x) first second))

-- a part of which something is left is a part
pub part_of_short : (a b : Option (List ℕ)) (x : List ℕ) → StopsShort a b x → AppendsPart a b x
part_of_short a b x short = grind arith
