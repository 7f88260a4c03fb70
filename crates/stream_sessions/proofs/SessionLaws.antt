-- Requests that were answered, and one more.
use Rattle.std.proofs.Common.{◌≡◌, ℕ, suc, List, [], ◌∷◌, ◌++◌, length, take, refl, sym, ap, ◌∙◌, subst}
use Rattle.std.proofs.Math.Seq.{take-length, take-append_seam}
use Rattle.std.specs.List.{AllByRecursion}
use Rattle.ssb_script.specs.Cutting.{IsRequest}
use Rattle.stream_sessions.specs.Answers.{IsAnswered, AreAnswered}
use Rattle.stream_sessions.specs.Session.{all_of}
use Rattle.stream_sessions.specs.Speaking.{SpeakingRecord}

-- one request more
pub answered_push : (number : ℕ) (old mid new : SpeakingRecord) (requests texts : List (List ℕ)) (request text : List ℕ)
    → AreAnswered number old requests texts mid → IsAnswered number request mid new text
    → AreAnswered number old (requests ++ request ∷ []) (texts ++ text ∷ []) new
answered_push number old mid new [] [] request text are next =
    (new, subst (λ t. IsAnswered number request t new text) are next, refl)
answered_push number old mid new [] (other ∷ texts) request text are next = absurd are
answered_push number old mid new (other ∷ requests) [] request text are next = absurd are
answered_push number old mid new (first ∷ requests) (one ∷ texts) request text are next =
    (are.0, are.1, answered_push number are.0 mid new requests texts request text are.2 next)

-- as many replies as requests
pub as_many : (number : ℕ) (old new : SpeakingRecord) (requests texts : List (List ℕ))
    → AreAnswered number old requests texts new
    → length texts ≡ length requests
as_many number old new [] [] are = refl
as_many number old new [] (text ∷ texts) are = absurd are
as_many number old new (request ∷ requests) [] are = absurd are
as_many number old new (request ∷ requests) (text ∷ texts) are =
    ap suc (as_many number are.0 new requests texts are.2)

pub each_push : (requests : List (List ℕ)) (request : List ℕ) → AllByRecursion IsRequest requests → IsRequest request
    → AllByRecursion IsRequest (requests ++ request ∷ [])
each_push [] request each is = (is, tt)
each_push (first ∷ requests) request each is = (each.0, each_push requests request each.1 is)

-- the first of all texts are the requests
pub first_are : (requests : List (List ℕ)) (rest : List ℕ) (done : ℕ) → length requests ≡ done
    → take done (all_of requests rest) ≡ requests
first_are requests [] done count = ap (λ n. take n requests) (sym count) ∙ take-length requests
first_are requests (b ∷ rest) done count =
    ap (λ n. take n (requests ++ (b ∷ rest) ∷ [])) (sym count) ∙ take-append_seam requests ((b ∷ rest) ∷ [])
