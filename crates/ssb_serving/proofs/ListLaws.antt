-- Lists that grow by one place after another.
use Rattle.std.proofs.Common.{◌≡◌, List, [], ◌∷◌, ◌++◌, length, map, flat_map, sym, ◌∙◌, ap, append_assoc, append-nil}
use Rattle.std.proofs.Common.{arith}
use Rattle.std.proofs.lemmas.Grind.{flat_map-append}
use Rattle.std.proofs.lemmas.List.{map-append}

-- what is read of a list that grew by one
pub map_push : {X Y : Type 0} (read : X → Y) (before now after : List X) (done : List Y) (last : X) (y : Y)
    → map read now ≡ map read before ++ done
    → after ≡ now ++ last ∷ [] → read last ≡ y → map read after ≡ map read before ++ (done ++ y ∷ [])
map_push read before now after done last y was grown is =
    ap (map read) grown ∙ (map-append read now (last ∷ []) ∙ (ap (λ ys. ys ++ read last ∷ []) was
    ∙ (append_assoc (map read before) done (read last ∷ []) ∙ ap (λ z. map read before ++ (done ++ z ∷ [])) is)))

-- a list that is made of another's elements, and one more of each
pub push_made : {X Y : Type 0} (make : X → Y) (done : List X) (now after : List Y) (last : X) (y : Y)
    → now ≡ map make done → after ≡ now ++ y ∷ [] → y ≡ make last
    → after ≡ map make (done ++ last ∷ [])
push_made make done now after last y was grown is =
    grown ∙ (ap (λ ys. ys ++ y ∷ []) was ∙ (ap (λ z. map make done ++ z ∷ []) is
    ∙ sym (map-append make done (last ∷ []))))

-- the same of what is read of it
pub push_read : {X Y Z : Type 0} (make : X → Y) (read : Z → Y) (done : List X) (now after : List Z) (last : X) (z : Z)
    → map read now ≡ map make done → after ≡ now ++ z ∷ [] → read z ≡ make last
    → map read after ≡ map make (done ++ last ∷ [])
push_read make read done now after last z was grown is = grind (arith, map-append)

-- the same of lists one behind the other
pub push_flat : {X Y : Type 0} (make : X → List Y) (done : List X) (now after : List Y) (last : X) (ys : List Y)
    → now ≡ flat_map make done → after ≡ now ++ ys → ys ≡ make last
    → after ≡ flat_map make (done ++ last ∷ [])
push_flat make done now after last ys was grown is =
    grown ∙ (ap (λ zs. zs ++ ys) was ∙ (ap (λ zs. flat_map make done ++ zs) (is ∙ sym (append-nil (make last)))
    ∙ sym (flat_map-append make done (last ∷ []))))

pub to_the_end : {Y : Type 0} (whole before done all : List Y) → whole ≡ before ++ done → done ≡ all → whole ≡ before
    ++ all
to_the_end whole before done all was is = was ∙ ap (λ ys. before ++ ys) is

-- where nothing is left behind it, a beginning is all
pub none_left : {Y : Type 0} (front rest all : List Y) → front ++ rest ≡ all → length rest ≡ 0 → front ≡ all
none_left front [] all whole none = sym (append-nil front) ∙ whole
none_left front (y ∷ rest) all whole none = absurd (omega (arith, none))

pub none_before : {X Y : Type 0} (read : X → Y) (before : List X) (rest all : List Y) → before ≡ [] → rest ≡ all
    → map read before ++ rest ≡ all
none_before read before rest all none is = ap (λ xs. map read xs ++ rest) none ∙ is
