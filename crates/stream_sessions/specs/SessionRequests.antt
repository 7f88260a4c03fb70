-- The requests of a session that no script has: a format, and what is looked up.
use Rattle.std.specs.Prelude.{◌≡◌, ℕ, Bool, List, [], ◌∷◌, Option, Some, None, codes, nat_eq, option_map, if◌then◌else◌}
use Rattle.std.specs.Cmp.Lexicographic.{pointwise}
use Rattle.ssb_formats.specs.ReplyFormats.{format_named}
use Rattle.ssb_questions.specs.Clause.{column_named}
use Rattle.ssb_text.specs.Records.{HasRecords, has_columns}
use Rattle.ssb_text.specs.Spelling.{field}
use Rattle.stream_sessions.specs.declared.lookup.Lookup.TheVariants.{Columns, Values, Status}
use Rattle.stream_sessions.specs.declared.session_request.SessionRequest.{SessionRequest}
use Rattle.stream_sessions.specs.declared.session_request.SessionRequest.TheVariants.{Format, LookUp}

abbrev pub is_word : List ℕ → List ℕ → Bool
is_word word bytes = pointwise nat_eq bytes word

-- what a word asks that stands alone
abbrev pub asked_alone : List ℕ → Option SessionRequest
asked_alone word =
    if is_word (codes "columns") word then Some (LookUp Columns)
    else if is_word (codes "status") word then Some (LookUp Status)
    else None

-- what a word asks with a name behind it: a format, or the values of a column that questions read
abbrev pub asked_by_name : List ℕ → List ℕ → Option SessionRequest
asked_by_name word name =
    if is_word (codes "format") word then option_map Format (format_named name)
    else if is_word (codes "values") word then option_map (λ column. LookUp (Values column)) (column_named name)
    else None

-- what a record asks of its session
abbrev pub request_of : List (List ℕ) → Option SessionRequest
request_of fields =
    if has_columns 1 fields then asked_alone (field fields 0)
    else if has_columns 2 fields then asked_by_name (field fields 0) (field fields 1)
    else None

-- a request is one record, which asks this of its session
pub record AsksSession (request : List ℕ) (asked : SessionRequest) : Type 0 where
  pub fields : List (List ℕ)
  pub all : HasRecords request (fields ∷ [])
  pub asks : request_of fields ≡ Some asked

-- it asks nothing of it
abbrev pub AsksNothing : List ℕ → Type 0
AsksNothing request = (asked : SessionRequest) → AsksSession request asked → ⊥
