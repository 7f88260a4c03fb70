-- What a `commit` record and an `answer` record of a trace spell.
use Rattle.std.specs.Prelude.{ℕ, ◌&&◌, List, Option, Some, None, option_map, nat_le, if◌then◌else◌}
use Rattle.std.specs.Option.{option_and_then}
use Rattle.ssb_text.specs.Records.{has_columns}
use Rattle.ssb_schema.specs.Numerals.{number_of}
use Rattle.ssb_text.specs.Spelling.{field}
use Rattle.ssb_script.specs.Lines.{question_at}
use Rattle.ssb_trace.specs.declared.heads.AnswerHead.{AnswerHead}

-- the client of a number, 1 to 16
abbrev pub client_numbered : ℕ → Option ℕ
client_numbered n = if nat_le 1 n && nat_le n 16 then Some n else None

-- the number of a client
abbrev pub client_of : List ℕ → Option ℕ
client_of bytes = option_and_then client_numbered (number_of bytes)

-- the client whose commit a record begins
abbrev pub commit_of : List (List ℕ) → Option ℕ
commit_of fields = if has_columns 2 fields then client_of (field fields 1) else None

-- the answer that a record begins
abbrev pub head_of : List (List ℕ) → Option AnswerHead
head_of fields =
    option_and_then (λ client. option_and_then (λ at. option_and_then (λ question. option_map (λ count.
    record { client = client; at = at; question = question; count = count })
    (number_of (field fields 4))) (question_at 3 5 fields)) (number_of (field fields 2))) (client_of (field fields 1))
