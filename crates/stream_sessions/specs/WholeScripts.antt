-- What a client is answered that writes a legal script.
use Rattle.std.specs.Prelude.{◌≡◌, ◌⊎◌, ℕ, true, List, [], ◌∷◌}
use Rattle.std.specs.List.{AllByRecursion, AllZip, concat}
use Rattle.ssb_script.specs.Cutting.{IsCutInto}
use Rattle.ssb_text.specs.TextLines.{HasNoLoneReturn, HasNoMark}
use Rattle.ssb_script.specs.CuttingLaws.{request_texts}
use Rattle.ssb_script.specs.Laws.{IsOfStatement}
use Rattle.ssb_formats.specs.declared.reply_format.ReplyFormat.{ReplyFormat}
use Rattle.ssb_report.specs.Replies.{Reply}
use Rattle.ssb_script.specs.Requests.{RequestRecord, AreAlike, has_statement}
use Rattle.ssb_script.specs.Scripts.{SpellsScript, most_records}
use Rattle.ssb_script.specs.declared.error.ScriptError.{ScriptError}
use Rattle.stream_sessions.specs.Served.{AreServed}
use Rattle.stream_sessions.specs.Answers.{AreAnswered, HasFault}
use Rattle.stream_sessions.specs.FaultLine.{fault_line}
use Rattle.stream_sessions.specs.Session.{all_of}
use Rattle.stream_sessions.specs.Speaking.{IsTaken, SpeakingRecord}
use Rattle.stream_sessions.specs.WithPast.{replies_told}

-- the client was served all that a script asks, and these are the replies to that, in the format that the client had,
-- which stays, with the commits that came before; what the script asks is read once more, so of its statements that alone
-- is the same which their texts are shown to determine
pub record HasReplies (number : ℕ) (script : List ℕ) (wanted : List RequestRecord) (old new : SpeakingRecord)
    (told : List ℕ) : Type 0 where
  pub asked : List RequestRecord
  pub alike : AllZip AreAlike wanted asked
  pub spelled : SpellsScript most_records script asked
  pub replies : List Reply
  pub served : AreServed number old.token asked replies new.token
  pub are : told ≡ replies_told old.format old.terms.past replies
  pub stays : new.format ≡ old.format

-- the text of a request's statement is refused, and the client was told that
pub record RefusesStatement (format : ReplyFormat) (request text : List ℕ) : Type 0 where
  pub fault : ScriptError
  pub of_statement : IsOfStatement fault
  pub has : HasFault request fault
  pub told : text ≡ fault_line format fault

-- this is so of one of these requests
abbrev pub RefuseStatement : ReplyFormat → List (List ℕ) → List (List ℕ) → Type 0
RefuseStatement format [] texts = ⊥
RefuseStatement format (request ∷ requests) [] = ⊥
RefuseStatement format (request ∷ requests) (text ∷ texts) =
    RefusesStatement format request text ⊎ RefuseStatement format requests texts

-- a legal script, where no CR stands alone and no request begins with a byte order mark, and which the session takes,
-- has the replies of the whole script though it is answered request by request; or it asks a statement, whose text is
-- refused
abbrev pub HasRepliesOfScript : List ℕ → Type 0
HasRepliesOfScript text =
    (number : ℕ) (old new : SpeakingRecord) (requests texts : List (List ℕ)) (rest : List ℕ)
    (wanted : List RequestRecord)
    → IsCutInto text requests rest → HasNoLoneReturn text → AllByRecursion HasNoMark (request_texts requests rest)
    → SpellsScript most_records text wanted → IsTaken old wanted
    → AreAnswered number old (all_of requests rest) texts new
    → HasReplies number text wanted old new (concat texts)
    ⊎ ((has_statement wanted ≡ true) × RefuseStatement old.format (all_of requests rest) texts)
