-- What the next request of a text is among all of its requests.
use Rattle.std.proofs.Common.{◌≡◌, ◌<◌, ◌≤◌, ℕ, List, [], ◌∷◌, ◌++◌, length, Option, Some, None, sym, ap, ◌∙◌}
use Rattle.std.proofs.Common.{append_assoc, append-nil, arith, inl, inr, Result, Ok, Err}
use Rattle.std.specs.Option.{IfSome}
use Rattle.std.specs.List.{concat}
use Rattle.std.specs.Io.KnownBytes.{Consumes}
use Rattle.ssb_script.specs.Cutting.{IsUnfinished, IsCutInto}
use Rattle.ssb_script.specs.NextRequest.{IsFound, IsRequestFault, CutsNext, IsLessThan, BeginsBeyond, first_text}
use Rattle.ssb_script.specs.declared.request_error.RequestError.{RequestError}
use Rattle.ssb_script.specs.declared.request_error.RequestError.TheVariants as error
use Rattle.std.specs.Result.{IfOk, IfErr, IsErrOf}
use Rattle.std.proofs.lemmas.Bool.Decides.{leb_tells}
use Rattle.ssb_script.specs.declared.cutting.NextRequest.{NextRequest}
use Rattle.ssb_script.specs.declared.cutting.NextRequest.TheVariants as found
use Rattle.ssb_script.proofs.CuttingLaws.{goes_on}
use Rattle.ssb_script.proofs.RequestLaws.{open_is_unfinished, nothing_open}

nothing_unfinished : IsUnfinished []
nothing_unfinished = open_is_unfinished None [] [] nothing_open tt

pub found_next : (what : NextRequest) (a b : Option (List ℕ)) (bytes : List ℕ)
    → Consumes a b bytes → IsFound what a bytes → CutsNext what a b bytes
found_next what None b bytes taken is = tt
found_next what (Some text) None bytes taken is = taken
found_next found.Request (Some text) (Some left) bytes taken is = λ requests rest cut.
    goes_on (bytes ∷ []) requests [] left rest (is, tt) cut.each cut.unfinished
    (ap (λ t. t ++ left) (append-nil (bytes ++ []) ∙ append-nil bytes) ∙ sym taken ∙ cut.joined)
found_next found.Rest (Some text) (Some left) bytes taken is =
    record { joined = is.2; each = tt; unfinished = is.0 }
found_next found.Nothing (Some text) (Some left) bytes taken is =
    record { joined = is.1 ∙ is.0; each = tt; unfinished = nothing_unfinished }

-- of two beginnings of one text the shorter begins the longer
begins : (p q x y : List ℕ) → length p ≤ length q → p ++ x ≡ q ++ y → (more : List ℕ) × (q ≡ p ++ more)
begins [] q x y short e = grind arith
begins (a ∷ p) [] x y short e = grind arith
begins (a ∷ p) (b ∷ q) x y short e = grind (arith, begins p q x y (omega arith) cc)

beyond : (text bytes left : List ℕ) (requests : List (List ℕ)) (rest : List ℕ) → text ≡ bytes ++ left
    → IsUnfinished bytes → length bytes < length text → IsCutInto text requests rest
    → length bytes < length (first_text requests rest)
beyond text bytes left [] rest taken none more cut = omega (arith, more, ap length cut.joined)
beyond text bytes left (p ∷ requests) rest taken none more cut = elim (leb_tells (length p) (length bytes)) [
  | inl short ↦ let joined = sym (append_assoc p (concat requests) rest) ∙ sym cut.joined ∙ taken in
      let front = begins p bytes (concat requests ++ rest) left short.1 joined in
      absurd (none p front.0 cut.each.0 front.1)
  | inr longer ↦ omega (arith, longer.1)
]

pub too_long : (limit : ℕ) (a b : Option (List ℕ)) (bytes : List ℕ) → Consumes a b bytes → IsUnfinished bytes
    → length bytes ≡ limit → IsLessThan a bytes → IfSome a (BeginsBeyond limit)
too_long limit None b bytes taken none full more = grind arith
too_long limit (Some text) None bytes taken none full more = grind arith
too_long limit (Some text) (Some left) bytes taken none full more = grind (arith, beyond)

pub found_next_of : (result : Result NextRequest RequestError) (a b : Option (List ℕ)) (bytes : List ℕ)
    → Consumes a b bytes → IfOk result (λ what. IsFound what a bytes) → IfOk result (λ what. CutsNext what a b bytes)
found_next_of (Ok what) a b bytes taken is = found_next what a b bytes taken is
found_next_of (Err why) a b bytes taken is = tt

pub too_long_of : (result : Result NextRequest RequestError) (limit : ℕ) (a b : Option (List ℕ)) (bytes : List ℕ)
    → Consumes a b bytes → IfErr result (λ why. IsRequestFault why limit a bytes) → IsErrOf result error.TooLong
    → IfSome a (BeginsBeyond limit)
too_long_of (Ok what) limit a b bytes taken fault is = grind arith
too_long_of (Err error.TooLong) limit a b bytes taken fault is = grind (arith, too_long)
too_long_of (Err error.Read) limit a b bytes taken fault is = grind arith
too_long_of (Err error.OutOfMemory) limit a b bytes taken fault is = grind arith
