-- Laws of requests that are at hand, and of many of them that are read together.
use Rattle.std.proofs.Common.{◌≡◌, ◌≤◌, ◌+◌, ℕ, List, [], ◌∷◌, ◌++◌, length, take, drop, refl, sym, ap, subst, ◌∙◌}
use Rattle.std.proofs.Common.{append_assoc, append-nil, length-append, arith}
use Rattle.std.specs.List.{AllByRecursion, AllZip, concat, flat_map}
use Rattle.std.proofs.lemmas.List.{take-append-drop}
use Rattle.std.proofs.Math.Seq.{drop-append_seam, take-append_seam}
use Rattle.ssb_text.specs.TextLines.{HasNoMark, IsPlainText}
use Rattle.ssb_text.proofs.PlainLaws.{unmarked_parts}
use Rattle.ssb_script.specs.Requests.{RequestRecord}
use Rattle.ssb_script.specs.Scripts.{SpellsScript, most_records}
use Rattle.ssb_script.proofs.OneReadingLaws.{asks_nothing}
use Rattle.ssb_script.specs.Cutting.{BeginsWithRequest, IsRequest, IsCutInto}
use Rattle.ssb_script.specs.CuttingLaws.{request_texts}
use Rattle.ssb_script.specs.Ahead.{AskFirst, AskInTurn, AsksFirst, AsksOne, IsWhole, StandFirst}
use Rattle.ssb_script.proofs.RequestLaws.{all-push, concat-push, nothing_is_unfinished, same_request}
use Rattle.ssb_script.proofs.ScriptLaws.{script_of_requests_of}

-- The request at the front of bytes.

-- bytes are parted at a place that leaves so many of them
parted_at : (bytes front rest : List ℕ) (size : ℕ) → bytes ≡ front ++ rest → size + length rest ≡ length bytes
    → (take size bytes ≡ front) × (drop size bytes ≡ rest)
parted_at bytes front rest size joined counted =
    let same : length front ≡ size = omega (arith, counted, ap length joined, length-append front rest) in (
      ap (take size) joined ∙ ap (λ n. take n (front ++ rest)) (sym same) ∙ take-append_seam front rest,
      ap (drop size) joined ∙ ap (λ n. drop n (front ++ rest)) (sym same) ∙ drop-append_seam front rest,
    )

-- it is as long as what the rest leaves of the bytes
pub whole_at : (bytes request behind : List ℕ) (size : ℕ) → bytes ≡ request ++ behind
    → size + length behind ≡ length bytes → IsRequest request → IsWhole size bytes
whole_at bytes request behind size joined counted is =
    let parts = parted_at bytes request behind size joined counted in
    (omega (arith, counted), subst IsRequest (sym parts.0) is)

pub whole_begins : (bytes : List ℕ) (size : ℕ) → IsWhole size bytes → BeginsWithRequest bytes
whole_begins bytes size whole = record {
  request = take size bytes;
  more = drop size bytes;
  is = whole.1;
  joined = sym (take-append-drop size bytes);
}

-- Requests at the front of bytes, one after another.

-- so many were found, and these bytes are left
pub record AreFirst (bytes : List ℕ) (count : ℕ) (rest : List ℕ) : Type 0 where
  pub requests : List (List ℕ)
  pub joined : bytes ≡ concat requests ++ rest
  pub each : AllByRecursion IsRequest requests
  pub many : length requests ≡ count

pub first_none : (bytes : List ℕ) → AreFirst bytes 0 bytes
first_none bytes = record { requests = []; joined = refl; each = tt; many = refl }

pub first_more : (bytes rest behind : List ℕ) (count size : ℕ) → AreFirst bytes count rest → IsWhole size rest
    → behind ≡ drop size rest → AreFirst bytes (count + 1) behind
first_more bytes rest behind count size first whole left =
    let request = take size rest in record {
      requests = first.requests ++ request ∷ [];
      joined = first.joined
          ∙ ap (λ t. concat first.requests ++ t) (sym (take-append-drop size rest) ∙ ap (λ t. request ++ t) (sym left))
          ∙ sym (append_assoc (concat first.requests) request behind)
          ∙ ap (λ t. t ++ behind) (sym (concat-push first.requests request));
      each = all-push IsRequest first.requests request first.each whole.1;
      many = omega (arith, first.many, length-append first.requests (request ∷ []));
    }

pub stand_first : (bytes rest : List ℕ) (count size : ℕ) → AreFirst bytes count rest
    → size + length rest ≡ length bytes → StandFirst count size bytes
stand_first bytes rest count size first counted = grind (arith, parted_at)

-- what is left is what stands behind them
pub first_rest : (bytes rest : List ℕ) (count size : ℕ) → AreFirst bytes count rest
    → size + length rest ≡ length bytes → rest ≡ drop size bytes
first_rest bytes rest count size first counted =
    sym (parted_at bytes (concat first.requests) rest size first.joined counted).1

-- Many requests, read as one script.

abbrev Few : List (List RequestRecord) → Type 0
Few each = AllByRecursion (λ asked. length asked ≤ 1) each

-- they ask no more things than they are
at_most : (requests : List (List ℕ)) (each : List (List RequestRecord))
    → AllZip (SpellsScript most_records) requests each → Few each
    → length (flat_map (λ r. r) each) ≤ length requests
at_most [] [] spell few = grind arith
at_most [] (asked ∷ each) spell few = grind arith
at_most (request ∷ requests) [] spell few = grind arith
at_most (request ∷ requests) (asked ∷ each) spell few = grind (arith, length-append, at_most requests each spell.1 few.1)

-- so where they ask as many, each asks one
one_each : (requests : List (List ℕ)) (each : List (List RequestRecord)) (wanted : List RequestRecord)
    → AllZip (SpellsScript most_records) requests each → Few each → wanted ≡ flat_map (λ r. r) each
    → length wanted ≡ length requests → AllZip AsksOne requests wanted
one_each [] [] wanted spell few joined many = subst (AllZip AsksOne []) (sym joined) tt
one_each [] (asked ∷ each) wanted spell few joined many = absurd spell
one_each (request ∷ requests) [] wanted spell few joined many = absurd spell
one_each (request ∷ requests) ([] ∷ each) wanted spell few joined many =
    absurd (omega (arith, many, ap length joined, at_most requests each spell.1 few.1))
one_each (request ∷ requests) ((one ∷ []) ∷ each) wanted spell few joined many =
    let rest = flat_map (λ (r : List RequestRecord). r) each in
    let count : length rest ≡ length requests = omega (arith, many, ap length joined) in
    subst (AllZip AsksOne (request ∷ requests)) (sym joined)
    (spell.0, one_each requests each rest spell.1 few.1 refl count)
one_each (request ∷ requests) ((one ∷ two ∷ more) ∷ each) wanted spell few joined many =
    absurd (omega (arith, few.0))

-- a plain text has no byte order mark at the start of a request
marks_of : (text : List ℕ) (requests : List (List ℕ)) → IsPlainText text → text ≡ concat requests
    → AllByRecursion HasNoMark (request_texts requests [])
marks_of text requests plain joined = grind (arith, unmarked_parts, append-nil, concat-push)

pub ask_in_turn : (count : ℕ) (text : List ℕ) (wanted : List RequestRecord) → IsPlainText text
    → SpellsScript most_records text wanted → length wanted ≡ count → AskInTurn count text wanted
ask_in_turn count text wanted plain spells counted = λ requests joined each many.
    let cut : IsCutInto text requests [] = record {
      joined = joined ∙ sym (append-nil (concat requests));
      each = each;
      unfinished = nothing_is_unfinished;
    } in
    let parts = script_of_requests_of most_records text requests [] wanted cut plain.0
    (marks_of text requests plain joined) spells in
    let asked = flat_map (λ (r : List RequestRecord). r) parts.each in
    let nothing : parts.last ≡ [] = asks_nothing most_records parts.last parts.spelled_last in
    one_each requests parts.each wanted parts.spelled parts.few
    (parts.joined ∙ ap (λ last. asked ++ last) nothing ∙ append-nil asked) (counted ∙ sym many)

-- What is asked at the front of bytes.

pub ask_nothing : (bytes : List ℕ) → AskFirst bytes []
ask_nothing bytes = record { requests = []; more = bytes; joined = refl; each = tt; ask = tt }

-- the first of them
pub asks_first : (bytes : List ℕ) (one : RequestRecord) (asked : List RequestRecord) → AskFirst bytes (one ∷ asked)
    → AsksFirst bytes one
asks_first bytes one asked first = at first.requests first.joined first.each first.ask
  where
    at : (requests : List (List ℕ)) → bytes ≡ concat requests ++ first.more → AllByRecursion IsRequest requests
        → AllZip AsksOne requests (one ∷ asked) → AsksFirst bytes one
    at [] joined each ask = absurd ask
    at (request ∷ requests) joined each ask = record {
      request = request;
      more = concat requests ++ first.more;
      joined = joined ∙ append_assoc request (concat requests) first.more;
      is = each.0;
      asks = ask.0;
    }

-- and the request there asks it
pub asks_whole : (bytes : List ℕ) (one : RequestRecord) (size : ℕ) → AsksFirst bytes one → IsWhole size bytes
    → AsksOne (take size bytes) one
asks_whole bytes one size first whole =
    let same = same_request first.request (take size bytes) first.more (drop size bytes) first.is whole.1
    (sym first.joined ∙ sym (take-append-drop size bytes)) in
    subst (λ request. AsksOne request one) same.0 first.asks

-- after it stand the others
pub ask_behind : (bytes request left : List ℕ) (one : RequestRecord) (asked : List RequestRecord)
    → AskFirst bytes (one ∷ asked) → IsRequest request → bytes ≡ request ++ left → AskFirst left asked
ask_behind bytes request left one asked first is parted = at first.requests first.joined first.each first.ask
  where
    at : (requests : List (List ℕ)) → bytes ≡ concat requests ++ first.more → AllByRecursion IsRequest requests
        → AllZip AsksOne requests (one ∷ asked) → AskFirst left asked
    at [] joined each ask = absurd ask
    at (other ∷ requests) joined each ask =
        let same = same_request other request (concat requests ++ first.more) left each.0 is
        (sym (append_assoc other (concat requests) first.more) ∙ sym joined ∙ parted) in record {
          requests = requests;
          more = first.more;
          joined = sym same.1;
          each = each.1;
          ask = ask.1;
        }
