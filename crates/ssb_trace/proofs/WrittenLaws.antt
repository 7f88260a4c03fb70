use Rattle.std.proofs.Common.{arith}
-- Text that records of the reader's own lines make up, and how such texts are joined.
use Rattle.std.proofs.Common.{◌≡◌, ℕ, suc, List, [], ◌∷◌, ◌++◌, length, map, refl, sym, ap, ◌∙◌}
use Rattle.std.specs.List.{AllByRecursion, flat_map}
use Rattle.std.proofs.lemmas.Grind.{flat_map-append}
use Rattle.std.proofs.lemmas.List.{append-nil}
use Rattle.ssb_trace.specs.Lines.{TraceLine, AreLines, Says}
use Rattle.ssb_text.proofs.RecordTextLaws.{IsReadable, text_of_record, text_of_records}

-- a text is that of records which are read back, and they say these lines
pub record Written (text : List ℕ) (lines : List TraceLine) : Type 0 where
  pub records : List (List (List ℕ))
  pub readable : AllByRecursion IsReadable records
  pub written : text ≡ text_of_records records
  pub said : AreLines records lines

pub written_none : Written [] []
written_none = record { records = []; readable = tt; written = refl; said = tt }

pub written_one : (fields : List (List ℕ)) (line : TraceLine) → IsReadable fields → Says fields line
    → Written (text_of_record fields) (line ∷ [])
written_one fields line readable says =
    record {
      records = fields ∷ [];
      readable = (readable, tt);
      written = sym (append-nil (text_of_record fields));
      said = (says, tt);
    }

all-both : (one other : List (List (List ℕ))) → AllByRecursion IsReadable one → AllByRecursion IsReadable other
    → AllByRecursion IsReadable (one ++ other)
all-both [] other a b = b
all-both (fields ∷ one) other a b = (a.0, all-both one other a.1 b)

pub said-both : (one other : List (List (List ℕ))) (first later : List TraceLine) → AreLines one first
    → AreLines other later → AreLines (one ++ other) (first ++ later)
said-both [] other [] later a b = b
said-both [] other (line ∷ first) later a b = absurd a
said-both (fields ∷ one) other [] later a b = absurd a
said-both (fields ∷ one) other (line ∷ first) later a b = (a.0, said-both one other first later a.1 b)

-- one text behind another
pub written_both : (one other : List ℕ) (first later : List TraceLine) → Written one first → Written other later
    → Written (one ++ other) (first ++ later)
written_both one other first later a b = grind (arith, all-both, text_of_records, flat_map-append, text_of_record, said-both)

-- the texts of the elements of a list, one behind another
pub written_each : {X : Type 0} (text : X → List ℕ) (lines : X → List TraceLine) (xs : List X)
    → AllByRecursion (λ x. Written (text x) (lines x)) xs
    → Written (flat_map text xs) (flat_map lines xs)
written_each text lines [] all = written_none
written_each text lines (x ∷ xs) all = written_both (text x) (flat_map text xs) (lines x) (flat_map lines xs) all.0
    (written_each text lines xs all.1)

-- the same where each has one line
pub written_map : {X : Type 0} (text : X → List ℕ) (line : X → TraceLine) (xs : List X)
    → AllByRecursion (λ x. Written (text x) (line x ∷ [])) xs
    → Written (flat_map text xs) (map line xs)
written_map text line [] all = written_none
written_map text line (x ∷ xs) all = written_both (text x) (flat_map text xs) (line x ∷ []) (map line xs) all.0
    (written_map text line xs all.1)

-- another writing of the same text and lines
pub written_as : (one other : List ℕ) (first later : List TraceLine) → one ≡ other → first ≡ later → Written one first
    → Written other later
written_as one other first later text lines a = grind arith

-- there are as many records as lines
pub as_many : (records : List (List (List ℕ))) (lines : List TraceLine) → AreLines records lines
    → length records ≡ length lines
as_many [] [] said = refl
as_many [] (line ∷ lines) said = absurd said
as_many (fields ∷ records) [] said = absurd said
as_many (fields ∷ records) (line ∷ lines) said = ap suc (as_many records lines said.1)
