-- The scripts of a run, and what it prints.
use Rattle.std.proofs.Common.{◌≡◌, ◌∙◌, ℕ, ◌+◌, ◌<◌, List, [], ◌∷◌, ◌++◌, length, map, take, drop, get_or, Option}
use Rattle.std.proofs.Common.{sym, ap, arith, append_assoc, append-nil}
use Rattle.std.proofs.lemmas.List.{length-map, length-take-le, map-append, take-append-drop, take_more}
use Rattle.std.specs.Io.KnownBytes.{Appends}
use Rattle.run_command.specs.Served.{client_text, clients_text}
use Rattle.ssb_text.proofs.WrittenLaws.{appends_both, appends_part, part_longer}
use Rattle.ssb_text.specs.Written.{StopsShort}

-- the reports of some clients, and then those of the next ones
clients_append : (number : ℕ) (xs ys : List (List ℕ)) → clients_text number (xs ++ ys) ≡ clients_text number xs ++
    clients_text (number + length xs) ys
clients_append number [] ys = grind arith
clients_append number (x ∷ xs) ys = grind (arith, append_assoc, clients_append (number + 1) xs ys)

-- the reports of the first clients, and that of the next
clients_more : {X : Type 0} (f : X → List ℕ) (xs : List X) (i : ℕ) (x d : X) → i < length xs → x ≡ get_or xs i d
    → clients_text 1 (map f (take (i + 1) xs)) ≡ clients_text 1 (map f (take i xs)) ++ client_text (i + 1) (f x)
clients_more f xs i x d within is =
    let count : length (map f (take i xs)) ≡ i = length-map (take i xs) f
    ∙ length-take-le i xs (omega (arith, within)) in
    ap (λ ys. clients_text 1 (map f ys)) (take_more xs i d within)
    ∙ ap (clients_text 1) (map-append f (take i xs) (get_or xs i d ∷ []))
    ∙ clients_append 1 (map f (take i xs)) (f (get_or xs i d) ∷ [])
    ∙ ap (λ t. clients_text 1 (map f (take i xs)) ++ t)
    (append-nil (client_text (1 + length (map f (take i xs))) (f (get_or xs i d)))
    ∙ ap (λ n. client_text n (f (get_or xs i d))) (omega (arith, count))
    ∙ ap (λ y. client_text (i + 1) (f y)) (sym is))

pub appends_client : {X : Type 0} (f : X → List ℕ) (xs : List X) (i : ℕ) (x d : X) (a b c : Option (List ℕ))
    → i < length xs → x ≡ get_or xs i d
    → Appends a b (clients_text 1 (map f (take i xs))) → Appends b c (client_text (i + 1) (f x))
    → Appends a c (clients_text 1 (map f (take (i + 1) xs)))
appends_client f xs i x d a b c within is first second =
    rw (clients_more f xs i x d within is)
    (appends_both a b c (clients_text 1 (map f (take i xs))) (client_text (i + 1) (f x)) first second)

-- a part of the next client's report is a part of all
pub part_client : {X : Type 0} (f : X → List ℕ) (xs : List X) (i : ℕ) (x d : X) (a b c : Option (List ℕ))
    → i < length xs → x ≡ get_or xs i d
    → Appends a b (clients_text 1 (map f (take i xs))) → StopsShort b c (client_text (i + 1) (f x))
    → StopsShort a c (clients_text 1 (map f xs))
part_client f xs i x d a b c within is first second =
    let later = clients_text (1 + length (map f (take (i + 1) xs))) (map f (drop (i + 1) xs)) in
    let whole : clients_text 1 (map f xs) ≡ (clients_text 1 (map f (take i xs)) ++ client_text (i + 1) (f x)) ++ later
    = ap (λ ys. clients_text 1 (map f ys)) (sym (take-append-drop (i + 1) xs))
    ∙ ap (clients_text 1) (map-append f (take (i + 1) xs) (drop (i + 1) xs))
    ∙ clients_append 1 (map f (take (i + 1) xs)) (map f (drop (i + 1) xs))
    ∙ ap (λ t. t ++ later) (clients_more f xs i x d within is) in
    rw whole (part_longer a c (clients_text 1 (map f (take i xs)) ++ client_text (i + 1) (f x)) later
    (appends_part a b c (clients_text 1 (map f (take i xs))) (client_text (i + 1) (f x)) first second))
