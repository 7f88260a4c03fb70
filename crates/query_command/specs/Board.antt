-- What a board asks: a report a line, each under its title.
use Rattle.std.specs.Prelude.{◌≡◌, ◌⊎◌, ◌≤◌, ◌+◌, ◌==◌, ◌&&◌, ℕ, Bool, true, false, not, nat_lt}
use Rattle.std.specs.Prelude.{List, [], ◌∷◌, ◌++◌, codes, drop, length, map}
use Rattle.query_command.specs.Asked.{AskNothing, IsAsked}
use Rattle.query_command.specs.declared.asking.ReportAsked.{ReportAsked}
use Rattle.query_command.specs.declared.asking.ReportAsked.TheVariants as asked
use Rattle.query_command.specs.declared.board.BoardFault.{BoardFault}
use Rattle.query_command.specs.declared.board.BoardFault.TheVariants as board
use Rattle.query_command.specs.declared.board.BoardLineFault.{BoardLineFault}
use Rattle.query_command.specs.declared.board.BoardLineFault.TheVariants as line
use Rattle.ssb_text.specs.Records.{BeginsWith, HasRecords}
use Rattle.ssb_text.specs.Spelling.{field, is_utf8, without_spaces}
use Rattle.ssb_text.specs.declared.records.ReadError.{ReadError}
use Rattle.ssb_text.specs.declared.records.ReadError.TheVariants as read

-- the most lines of a board
abbrev pub most_reports : ℕ
most_reports = 64

-- the words behind the name, each without the spaces at its end
abbrev pub words_of : List (List ℕ) → List (List ℕ)
words_of fields = map without_spaces (drop 2 fields)

-- whether a line has a title, which is not empty, and a field behind it
abbrev pub has_title : List (List ℕ) → Bool
has_title fields = not (length (field fields 0) == 0) && nat_lt 1 (length fields)

-- a name and words ask this: the question of the query with the name; or where that is sql, a statement
abbrev pub Asks : List ℕ → List (List ℕ) → ReportAsked → Type 0
Asks name words (asked.Question question) = IsAsked name words question
Asks name words (asked.Statement statement) = name ≡ codes "sql"

-- a line has this title, and behind it the name and the words that ask this
pub record IsLine (fields : List (List ℕ)) (title : List ℕ) (one : ReportAsked) : Type 0 where
  pub title_is : title ≡ field fields 0
  pub some : has_title fields ≡ true
  pub asks : Asks (field fields 1) (words_of fields) one

-- each of these records has the title, and asks what is in its place
abbrev pub AreLines : List (List (List ℕ)) → List (List ℕ) → List ReportAsked → Type 0
AreLines [] [] [] = Unit {0}
AreLines (fields ∷ records) (title ∷ titles) (one ∷ asked) =
    IsLine fields title one × AreLines records titles asked
AreLines _ _ _ = ⊥

-- a text is a board of these titles, which asks this, 1 to 64 reports, each on a line of its own
pub record IsBoard (text : List ℕ) (titles : List (List ℕ)) (asked : List ReportAsked) : Type 0 where
  pub records : List (List (List ℕ))
  pub all : HasRecords text records
  pub lines : AreLines records titles asked
  pub some : 1 ≤ length records
  pub few : length records ≤ most_reports

-- why a name and words ask nothing
abbrev pub IsQuestionFault : List ℕ → List (List ℕ) → BoardLineFault → Type 0
IsQuestionFault name words (line.NoSuchQuery why) = AskNothing name words
IsQuestionFault name words (line.Constants why) = AskNothing name words
IsQuestionFault name words (line.Sql why) = name ≡ codes "sql"
IsQuestionFault name words line.NoTitle = ⊥
IsQuestionFault name words line.NotUtf8 = ⊥
IsQuestionFault name words line.TooManyReports = ⊥

-- why words behind sql are no statement
abbrev pub IsSqlFault : BoardLineFault → Type 0
IsSqlFault (line.Sql why) = Unit {0}
IsSqlFault _ = ⊥

-- why a record is no line: a field is not UTF-8, there is no title, or what is behind it makes no question
abbrev pub IsLineFault : List (List ℕ) → BoardLineFault → Type 0
IsLineFault fields line.NotUtf8 = (place : ℕ) × (is_utf8 (field fields place) ≡ false)
IsLineFault fields line.NoTitle = has_title fields ≡ false
IsLineFault fields (line.NoSuchQuery why) = AskNothing (field fields 1) (words_of fields)
IsLineFault fields (line.Constants why) = AskNothing (field fields 1) (words_of fields)
IsLineFault fields (line.Sql why) = field fields 1 ≡ codes "sql"
IsLineFault fields line.TooManyReports = ⊥

-- the fault of the line of this number, or none of the text: memory ran out
abbrev pub IsRefusal : (BoardLineFault → Type 0) → ℕ → BoardFault → Type 0
IsRefusal IsWhy number (board.Line n why) = (n ≡ number) × IsWhy why
IsRefusal IsWhy number (board.NoReports why) = ⊥
IsRefusal IsWhy number board.Read = ⊥
IsRefusal IsWhy number board.OutOfMemory = Unit {0}

-- the first record of a text that is no line of a board, or the one behind the 64th
pub record IsFirstBad (text : List ℕ) (number : ℕ) (why : BoardLineFault) : Type 0 where
  pub before : List (List (List ℕ))
  pub fields : List (List ℕ)
  pub begins : BeginsWith text (before ++ fields ∷ [])
  pub titles : List (List ℕ)
  pub asked : List ReportAsked
  pub lines : AreLines before titles asked
  pub number_is : number ≡ length before + 1
  pub fault : IsLineFault fields why ⊎ ((why ≡ line.TooManyReports) × (length before ≡ most_reports))

-- why a text is no board; two faults tell nothing of it: that its reader failed, and that memory ran out
abbrev pub IsBoardFault : List ℕ → BoardFault → Type 0
IsBoardFault text (board.Line number why) = IsFirstBad text number why
IsBoardFault text (board.NoReports why) = HasRecords text []
IsBoardFault text board.Read = Unit {0}
IsBoardFault text board.OutOfMemory = Unit {0}

-- 2: the board is refused; 4: it could not be read
abbrev pub board_status : BoardFault → ℕ
board_status (board.Line number why) = 2
board_status (board.NoReports why) = 2
board_status board.Read = 4
board_status board.OutOfMemory = 4

-- a text that is no board
abbrev pub IsRefusedBoard : List ℕ → Type 0
IsRefusedBoard text = (fault : BoardFault) × (board_status fault ≡ 2) × IsBoardFault text fault

-- the fault of a text whose next record cannot be read
abbrev pub fault_of_read : ReadError → BoardFault
fault_of_read read.Read = board.Read
fault_of_read read.OutOfMemory = board.OutOfMemory
