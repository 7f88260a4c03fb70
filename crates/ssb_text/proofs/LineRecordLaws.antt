-- The records of lines, one after another.
use Rattle.std.proofs.Common.{◌≡◌, ◌≢◌, ℕ, Bool, true, false, List, [], ◌∷◌, ◌++◌, refl, sym, ap, subst, ◌∙◌}
use Rattle.std.proofs.Common.{append_assoc, append-nil, arith, inl, inr, ◌⊎◌}
use Rattle.std.specs.Prelude.{◌==◌}
use Rattle.std.specs.List.{AllByRecursion, AllZip, concat, flat_map}
use Rattle.csv.specs.Machine.{next_record}
use Rattle.csv.specs.Reading.{AreRecords, Reached, strip_bom}
use Rattle.csv.specs.declared.parser.State.TheVariants as st
use Rattle.ssb_text.specs.Records.{HasRecords, record_config}
use Rattle.ssb_text.specs.TextLines.{HasNoLoneReturn, HasNoMark, IsLine}
use Rattle.ssb_text.proofs.MachineLaws.{Ended, line_ended, line_has, records_in}
use Rattle.ssb_text.proofs.RecordLaws.{and_false}

abbrev pub RecordsFrom : List ℕ → List (List (List ℕ)) → Type 0
RecordsFrom text records = AreRecords record_config st.StartRecord text records

-- no CR stands alone in a line, and none behind it
line_alone : (line more : List ℕ) → IsLine line → HasNoLoneReturn (line ++ more)
    → HasNoLoneReturn line × HasNoLoneReturn more
line_alone [] more line none = grind arith
line_alone (b ∷ []) [] line none = grind arith
line_alone (b ∷ []) (c ∷ more) line none = grind arith
line_alone (b ∷ c ∷ rest) more line none = grind (arith, line_alone (c ∷ rest) more line.1 none.1)

-- the contents of lines
pub contents_of : (lines : List (List ℕ)) (more : List ℕ) → AllByRecursion IsLine lines
    → HasNoLoneReturn (concat lines ++ more)
    → (contents : List (List ℕ)) × AllZip Ended lines contents × HasNoLoneReturn more
contents_of [] more each none = ([], tt, none)
contents_of (line ∷ lines) more each none =
    let here = line_alone line (concat lines ++ more) each.0
    (subst HasNoLoneReturn (append_assoc line (concat lines) more) none) in
    let content = line_ended line each.0 here.0 in
    let later = contents_of lines more each.1 here.1 in
    (content.0 ∷ later.0, (content.1, later.1), later.2)

-- the records of lines come first
pub lines_split : (lines contents : List (List ℕ)) (more : List ℕ) (records : List (List (List ℕ)))
    → AllZip Ended lines contents → RecordsFrom (concat lines ++ more) records
    → (behind : List (List (List ℕ))) × (records ≡ flat_map records_in contents ++ behind) × RecordsFrom more behind
lines_split [] [] more records ended are = (records, refl, are)
lines_split [] (c ∷ contents) more records ended are = absurd ended
lines_split (line ∷ lines) [] more records ended are = absurd ended
lines_split (line ∷ lines) (c ∷ contents) more records ended are =
    let first = (line_has line c ended.0).split (concat lines ++ more) records
    (subst (λ text. RecordsFrom text records) (append_assoc line (concat lines) more) are) in
    let later = lines_split lines contents more first.0 ended.1 first.2 in (
      later.0,
      first.1 ∙ ap (λ r. records_in c ++ r) later.1
          ∙ sym (append_assoc (records_in c) (flat_map records_in contents) later.0),
      later.2,
    )

pub lines_join : (lines contents : List (List ℕ)) (more : List ℕ) (behind : List (List (List ℕ)))
    → AllZip Ended lines contents → RecordsFrom more behind
    → RecordsFrom (concat lines ++ more) (flat_map records_in contents ++ behind)
lines_join [] [] more behind ended are = are
lines_join [] (c ∷ contents) more behind ended are = absurd ended
lines_join (line ∷ lines) [] more behind ended are = absurd ended
lines_join (line ∷ lines) (c ∷ contents) more behind ended are =
    let later = lines_join lines contents more behind ended.1 are in
    let all = (line_has line c ended.0).join (concat lines ++ more) (flat_map records_in contents ++ behind) later in
    let text : line ++ (concat lines ++ more) ≡ (line ++ concat lines) ++ more =
    sym (append_assoc line (concat lines) more) in
    let records : records_in c ++ (flat_map records_in contents ++ behind)
    ≡ (records_in c ++ flat_map records_in contents) ++ behind =
    sym (append_assoc (records_in c) (flat_map records_in contents) behind) in
    subst (RecordsFrom ((line ++ concat lines) ++ more)) records
    (subst (λ t. RecordsFrom t (records_in c ++ (flat_map records_in contents ++ behind))) text all)

pub no_records : RecordsFrom [] []
unfolding Reached next_record
no_records = (st.StartRecord, [], (refl, refl), refl)

-- a text without a byte order mark has these records
pub unmarked : (text : List ℕ) (records : List (List (List ℕ))) → HasNoMark text → RecordsFrom text records
    → HasRecords text records
unmarked text records none are = subst (λ t. RecordsFrom t records) (sym none) are

-- the records of lines of these contents, and of what stands behind them
pub record LinesHave (text : List ℕ) (contents : List (List ℕ)) : Type 0 where
  pub own : RecordsFrom text (flat_map records_in contents)
  pub split : (more : List ℕ) (records : List (List (List ℕ))) → RecordsFrom (text ++ more) records
      → (behind : List (List (List ℕ))) × (records ≡ flat_map records_in contents ++ behind) × RecordsFrom more behind

pub lines_have : (text : List ℕ) (lines contents : List (List ℕ)) → text ≡ concat lines
    → AllZip Ended lines contents → LinesHave text contents
lines_have text lines contents joined ended = record {
  own = subst (λ t. RecordsFrom t (flat_map records_in contents)) (append-nil (concat lines) ∙ sym joined)
      (subst (RecordsFrom (concat lines ++ [])) (append-nil (flat_map records_in contents))
      (lines_join lines contents [] [] ended no_records));
  split = λ more records are.
      lines_split lines contents more records ended
      (subst (λ t. RecordsFrom (t ++ more) records) joined are);
}

-- a byte order mark is of one line
bom_or_not : (b : Bool) → (b ≡ true) ⊎ (b ≡ false)
bom_or_not true = inl refl
bom_or_not false = inr refl

one_byte : (b : ℕ) (y : List ℕ) → b ≡ 10 → strip_bom (b ∷ y) ≡ b ∷ y
unfolding strip_bom
one_byte b [] is = refl
one_byte b (c ∷ []) is = refl
one_byte b (c ∷ d ∷ y) is = rw is refl

two_bytes : (b c : ℕ) (y : List ℕ) → c ≡ 10 → strip_bom (b ∷ c ∷ y) ≡ b ∷ c ∷ y
unfolding strip_bom
two_bytes b c [] is = refl
two_bytes b c (d ∷ y) is = rw (is, and_false (b == 239)) refl

pub strip_line : (line y : List ℕ) → IsLine line → strip_bom (line ++ y) ≡ strip_bom line ++ y
unfolding strip_bom
strip_line [] y line = grind arith
strip_line (b ∷ []) y line = grind (arith, one_byte)
strip_line (b ∷ c ∷ []) y line = grind (arith, two_bytes)
strip_line (b ∷ c ∷ d ∷ rest) y line = grind (arith, bom_or_not)

pub strip_lines : (lines : List (List ℕ)) (y : List ℕ) → AllByRecursion IsLine lines → lines ≢ []
    → strip_bom (concat lines ++ y) ≡ strip_bom (concat lines) ++ y
strip_lines [] y each some = grind arith
strip_lines (line ∷ lines) y each some = grind (arith, append_assoc, strip_line)
