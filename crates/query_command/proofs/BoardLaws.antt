-- What is known of a board while it is read.
use Rattle.std.proofs.Common.{◌≡◌, ◌∙◌, ◌⊎◌, ◌≤◌, ◌<◌, ◌+◌, ◌++◌, ◌∷◌, ℕ, [], List, Option, Some, length, map, drop}
use Rattle.std.proofs.Common.{append_assoc, append-nil, Bor, true, false, refl, sym, ap, arith, inl}
use Rattle.std.proofs.lemmas.List.{length_push, length-drop, map-append, drop_more, nil_from_length}
use Rattle.csv.specs.declared.reader.Reader.{Reader}
use Rattle.query_command.specs.Board.{AreLines, IsBoard, IsBoardFault, IsLine, IsLineFault, IsRefusal}
use Rattle.query_command.specs.Board.{most_reports}
use Rattle.query_command.specs.declared.board.BoardFault.{BoardFault}
use Rattle.query_command.specs.declared.board.BoardFault.TheVariants as board
use Rattle.query_command.specs.declared.board.BoardLineFault.{BoardLineFault}
use Rattle.query_command.specs.declared.board.BoardLineFault.TheVariants as line
use Rattle.query_command.specs.declared.asking.ReportAsked.{ReportAsked}
use Rattle.ssb_text.specs.Records.{GivesNext, HasGiven, HasRecords}
use Rattle.ssb_text.specs.Spelling.{field, without_spaces}

-- a line more
pub lines_more : (records : List (List (List ℕ))) (titles : List (List ℕ)) (asked : List ReportAsked)
    (fields : List (List ℕ)) (title : List ℕ) (one : ReportAsked) → AreLines records titles asked
    → IsLine fields title one
    → AreLines (records ++ fields ∷ []) (titles ++ title ∷ []) (asked ++ one ∷ [])
lines_more [] [] [] fields title one so_far line_is = grind arith
lines_more [] [] (q ∷ qs) fields title one so_far line_is = grind arith
lines_more [] (t ∷ ts) [] fields title one so_far line_is = grind arith
lines_more [] (t ∷ ts) (q ∷ qs) fields title one so_far line_is = grind arith
lines_more (r ∷ rs) [] [] fields title one so_far line_is = grind arith
lines_more (r ∷ rs) [] (q ∷ qs) fields title one so_far line_is = grind arith
lines_more (r ∷ rs) (t ∷ ts) [] fields title one so_far line_is = grind arith
lines_more (r ∷ rs) (t ∷ ts) (q ∷ qs) fields title one so_far line_is = grind (arith, lines_more rs ts qs fields title one so_far.1 line_is)

-- so many records that a reader has given of a text have these titles and asked
pub record HasRead {R : Type 0} (remaining : R → Option (List ℕ)) (text : List ℕ) (reader : Reader R) (count : ℕ)
    (titles : List (List ℕ)) (asked : List ReportAsked) : Type 0 where
  pub records : List (List (List ℕ))
  pub given : HasGiven remaining text reader records
  pub many : length records ≡ count
  pub lines : AreLines records titles asked

-- the same, of whatever text is known
abbrev pub HasReadKnown : {R : Type 0} → (R → Option (List ℕ)) → Option (List ℕ) → Reader R → ℕ → List (List ℕ)
    → List ReportAsked → Type 0
HasReadKnown remaining known reader count titles asked =
    (text : List ℕ) → known ≡ Some text → HasRead remaining text reader count titles asked

-- at the start nothing was read
pub read_nothing : {R : Type 0} (remaining : R → Option (List ℕ)) (text : List ℕ) (reader : Reader R)
    → HasGiven remaining text reader [] → HasRead remaining text reader 0 [] []
read_nothing remaining text reader given = record { records = []; given = given; many = refl; lines = tt }

-- one record more
pub read_more : {R : Type 0} (remaining : R → Option (List ℕ)) (text : List ℕ) (old new : Reader R) (count : ℕ)
    (titles : List (List ℕ)) (asked : List ReportAsked) (fields : List (List ℕ)) (title : List ℕ)
    (one : ReportAsked)
    → HasRead remaining text old count titles asked → GivesNext remaining old new true fields
    → IsLine fields title one
    → HasRead remaining text new (count + 1) (titles ++ title ∷ []) (asked ++ one ∷ [])
read_more remaining text old new count titles asked fields title one so_far next line_is = record {
  records = so_far.records ++ fields ∷ [];
  given = next text so_far.records so_far.given;
  many = length_push so_far.records fields ∙ ap (λ n. n + 1) so_far.many;
  lines = lines_more so_far.records titles asked fields title one so_far.lines line_is;
}

-- there was no more record
pub read_all : {R : Type 0} (remaining : R → Option (List ℕ)) (text : List ℕ) (old new : Reader R) (count : ℕ)
    (titles : List (List ℕ)) (asked : List ReportAsked) (fields : List (List ℕ))
    → HasRead remaining text old count titles asked → GivesNext remaining old new false fields
    → 1 ≤ count → count ≤ most_reports
    → IsBoard text titles asked
read_all remaining text old new count titles asked fields so_far next some few = grind arith

no_records : (records : List (List (List ℕ))) → length records ≡ 0 → records ≡ []
no_records [] none = refl
no_records (fields ∷ records) none = absurd (omega (arith, none))

-- there was no record at all
pub read_none : {R : Type 0} (remaining : R → Option (List ℕ)) (text : List ℕ) (old new : Reader R) (count : ℕ)
    (titles : List (List ℕ)) (asked : List ReportAsked) (fields : List (List ℕ))
    → HasRead remaining text old count titles asked → GivesNext remaining old new false fields
    → count ≡ 0
    → HasRecords text []
read_none remaining text old new count titles asked fields so_far next none = grind (arith, no_records)

-- a record that is no line, or one too many
pub first_bad : {R : Type 0} (remaining : R → Option (List ℕ)) (text : List ℕ) (old new : Reader R) (count : ℕ)
    (titles : List (List ℕ)) (asked : List ReportAsked) (fields : List (List ℕ)) (why : BoardLineFault)
    → HasRead remaining text old count titles asked → GivesNext remaining old new true fields
    → IsLineFault fields why ⊎ ((why ≡ line.TooManyReports) × (count ≡ most_reports))
    → IsBoardFault text (board.Line (count + 1) why)
first_bad remaining text old new count titles asked fields why so_far next fault =
    let given = next text so_far.records so_far.given in
    record {
      before = so_far.records;
      fields = fields;
      begins = (_, given.unread, given.reached);
      titles = titles;
      asked = asked;
      lines = so_far.lines;
      number_is = ap (λ n. n + 1) (sym so_far.many);
      fault = rw so_far.many fault;
    }

-- a word more
pub words_more : (fields : List (List ℕ)) (place : ℕ) (old new : List (Bor (List ℕ))) (word : Bor (List ℕ))
    (all : List (List ℕ)) → place < length fields → new ≡ old ++ word ∷ [] → word.now ≡ field fields place
    → map (λ (w : Bor (List ℕ)). w.now) old ++ map without_spaces (drop place fields) ≡ all
    → map (λ (w : Bor (List ℕ)). w.now) new ++ map without_spaces (drop (place + 1) fields) ≡ all
words_more fields place old new word all within pushed is so_far = grind (arith, map-append, append_assoc, drop_more)

-- no word is left
pub words_all : (fields : List (List ℕ)) (place : ℕ) (words all : List (List ℕ)) → length fields ≤ place
    → words ++ map without_spaces (drop place fields) ≡ all → words ≡ all
words_all fields place words all past so_far =
    sym (append-nil words)
    ∙ ap (λ ws. words ++ map without_spaces ws)
    (sym (nil_from_length (drop place fields) (length-drop place fields ∙ omega (arith, past))))
    ∙ so_far

-- the fault of the line of the next record
pub refused_line : {R : Type 0} (remaining : R → Option (List ℕ)) (text : List ℕ) (old new : Reader R) (count : ℕ)
    (titles : List (List ℕ)) (asked : List ReportAsked) (fields : List (List ℕ)) (fault : BoardFault)
    → HasRead remaining text old count titles asked → GivesNext remaining old new true fields
    → IsRefusal (IsLineFault fields) (count + 1) fault
    → IsBoardFault text fault
refused_line remaining text old new count titles asked fields (board.Line number why) so_far next refused =
    rw refused.0 (first_bad remaining text old new count titles asked fields why so_far next (inl refused.1))
refused_line remaining text old new count titles asked fields (board.NoReports why) so_far next refused =
    absurd refused
refused_line remaining text old new count titles asked fields board.Read so_far next refused = absurd refused
refused_line remaining text old new count titles asked fields board.OutOfMemory so_far next refused = tt
