-- Laws of plain texts.
use Rattle.std.proofs.Common.{◌≡◌, ◌≢◌, ◌≤◌, ◌<◌, ◌+◌, ℕ, zero, suc, true, List, [], ◌∷◌, ◌++◌, length, take}
use Rattle.std.proofs.Common.{drop, length-drop, refl, sym, ap, subst, ◌∙◌, append_assoc, append-nil, arith}
use Rattle.std.specs.Prelude.{◌↔◌, slice_index}
use Rattle.std.specs.List.{AllByRecursion, AllZip, concat, flat_map}
use Rattle.std.proofs.lemmas.Bool.{ne_eqb}
use Rattle.std.proofs.lemmas.Bool.Decides.{eqb_tells}
use Rattle.std.proofs.lemmas.List.{get_or-drop}
use Rattle.csv.specs.Reading.{strip_bom}
use Rattle.memchr.specs.Find.{is_byte2}
use Rattle.ssb_text.specs.LineRecords.{HasRecordsOfLines}
use Rattle.ssb_text.specs.Records.{HasRecords}
use Rattle.ssb_text.specs.TextLines.{HasNoLoneReturn, HasNoMark, IsLine, IsPlainText}
use Rattle.ssb_text.proofs.MachineLaws.{records_in}
use Rattle.ssb_text.proofs.LineRecordLaws.{RecordsFrom, contents_of, lines_have, unmarked}

-- What a scan goes past.

-- a byte that is neither a CR nor the first of a byte order mark
past_byte : (b : ℕ) (bytes : List ℕ) → b ≢ 13 → b ≢ 239 → IsPlainText bytes ↔ IsPlainText (b ∷ bytes)
past_byte b [] other unmarked = grind arith
past_byte b (c ∷ bytes) other unmarked = grind arith

-- a CR and its LF
past_return : (bytes : List ℕ) → IsPlainText bytes ↔ IsPlainText (13 ∷ 10 ∷ bytes)
past_return bytes = grind (arith, past_byte)

-- the bytes before the first CR or mark
pub past_front : (n : ℕ) (bytes : List ℕ) → n ≤ length bytes
    → ((k : ℕ) → k < n → is_byte2 13 239 (slice_index bytes k) ≡ true → ⊥)
    → IsPlainText (drop n bytes) ↔ IsPlainText bytes
past_front zero bytes within none = (λ plain. plain, λ plain. plain)
past_front (suc n) [] within none = absurd (omega (arith, within))
past_front (suc n) (b ∷ bytes) within none =
    let later = past_front n bytes (omega (arith, within)) (λ k below is. none (suc k) (omega (arith, below)) is) in
    let here = past_byte b bytes (λ is. none 0 (omega arith) (rw is refl)) (λ is. none 0 (omega arith) (rw is refl)) in
    (λ plain. here.0 (later.0 plain), λ plain. later.1 (here.1 plain))

-- a found CR and its LF
past_cut : (found behind : List ℕ) → take 2 found ≡ 13 ∷ 10 ∷ [] → behind ≡ drop 2 found
    → IsPlainText behind ↔ IsPlainText found
past_cut [] behind is left = grind arith
past_cut (b ∷ []) behind is left = grind arith
past_cut (b ∷ c ∷ more) behind is left = grind (arith, past_return)

pub past_found : (found behind end : List ℕ) → end ≡ 13 ∷ 10 ∷ [] → take (length end) found ≡ end
    → behind ≡ drop (length end) found → IsPlainText behind ↔ IsPlainText found
past_found found behind end is front back = grind (arith, past_cut)

-- a found CR without an LF behind it, or a byte of a mark
not_plain : (found : List ℕ) → 0 < length found → is_byte2 13 239 (slice_index found 0) ≡ true
    → take 2 found ≢ 13 ∷ 10 ∷ [] → IsPlainText found → ⊥
not_plain [] some is other plain = grind arith
not_plain (b ∷ []) some is other plain = grind (arith, ne_eqb)
not_plain (b ∷ c ∷ more) some is other plain = grind (arith, eqb_tells, ne_eqb)

-- at such a byte of bytes that were passed
pub not_plain_at : (rest found end : List ℕ) (n : ℕ) → n < length rest → is_byte2 13 239 (slice_index rest n) ≡ true
    → found ≡ drop n rest → end ≡ 13 ∷ 10 ∷ [] → take (length end) found ≢ end → IsPlainText found → ⊥
not_plain_at rest found end n within at is ends other plain =
    let begin : n + 0 ≡ n = omega arith in
    let here : slice_index found 0 ≡ slice_index rest n =
    ap (λ t. slice_index t 0) is ∙ get_or-drop n rest 0 0 ∙ ap (λ k. slice_index rest k) begin in
    not_plain found (omega (arith, within, ap length is, length-drop n rest))
    (subst (λ b. is_byte2 13 239 b ≡ true) (sym here) at) (subst (λ t. take (length t) found ≢ t) ends other) plain

-- What holds of plain texts.

no_mark : (bytes : List ℕ) → AllByRecursion (λ b. b ≢ 239) bytes → HasNoMark bytes
unfolding strip_bom
no_mark [] plain = refl
no_mark (a ∷ []) plain = refl
no_mark (a ∷ b ∷ []) plain = refl
no_mark (a ∷ b ∷ c ∷ rest) plain = rw (ne_eqb a 239 plain.0) refl

pub plain_unmarked : (bytes : List ℕ) → IsPlainText bytes → HasNoMark bytes
plain_unmarked bytes plain = no_mark bytes plain.1

-- so are its lines, or other parts of it: none of them begins with a byte order mark
marks_parts : (xs ys : List ℕ) → AllByRecursion (λ b. b ≢ 239) (xs ++ ys)
    → AllByRecursion (λ b. b ≢ 239) xs × AllByRecursion (λ b. b ≢ 239) ys
marks_parts [] ys none = (tt, none)
marks_parts (b ∷ xs) ys none = let rest = marks_parts xs ys none.1 in ((none.0, rest.0), rest.1)

pub unmarked_parts : (parts : List (List ℕ)) → AllByRecursion (λ b. b ≢ 239) (concat parts) → AllByRecursion HasNoMark parts
unmarked_parts [] none = tt
unmarked_parts (part ∷ parts) none =
    let both = marks_parts part (concat parts) none in
    (no_mark part both.0, unmarked_parts parts both.1)

-- The records of a plain text.

lines_each : (lines : List (List ℕ)) (last : List ℕ) (records : List (List (List ℕ))) → AllByRecursion IsLine lines
    → HasNoLoneReturn (concat lines ++ last) → AllByRecursion (λ b. b ≢ 239) (concat lines ++ last)
    → RecordsFrom (concat lines ++ last) records
    → (each : List (List (List (List ℕ)))) × (records ≡ flat_map (λ r. r) each)
    × AllZip HasRecords (lines ++ last ∷ []) each
lines_each [] last records each returns marks are =
    (records ∷ [], sym (append-nil records), (unmarked last records (no_mark last marks) are, tt))
lines_each (line ∷ lines) last records each returns marks are =
    let regrouped = append_assoc line (concat lines) last in
    let one : line ++ [] ≡ line = append-nil line in
    let content = contents_of (line ∷ []) (concat lines ++ last) (each.0, tt)
    (subst HasNoLoneReturn (regrouped ∙ ap (λ l. l ++ (concat lines ++ last)) (sym one)) returns) in
    let has = lines_have line (line ∷ []) content.0 (sym one) content.1 in
    let own = flat_map records_in content.0 in
    let first = has.split (concat lines ++ last) records (subst (λ t. RecordsFrom t records) regrouped are) in
    let none = marks_parts line (concat lines ++ last) (subst (AllByRecursion (λ b. b ≢ 239)) regrouped marks) in
    let later = lines_each lines last first.0 each.1 content.2 none.1 first.2 in (
      own ∷ later.0,
      first.1 ∙ ap (λ rs. own ++ rs) later.1,
      (unmarked line own (no_mark line none.0) has.own, later.2),
    )

pub records_of_lines_of : (text : List ℕ) → IsPlainText text → HasRecordsOfLines text
records_of_lines_of text plain = grind (arith, lines_each, plain_unmarked)
