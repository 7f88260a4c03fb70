-- The text that the word `status` shows.
use Rattle.std.specs.Prelude.{ℕ, ◌/◌, List, [], ◌∷◌, Option, None, Some, codes, decimal}
use Rattle.std.specs.List.{concat}
use Rattle.ssb_base.specs.Limits.{most_lines}
use Rattle.server_figures.specs.MetricsText.{line_feed}
use Rattle.server_figures.specs.RefusedText.{refused_terms_text}
use Rattle.server_figures.specs.declared.figures.Figures.{Figures}
use Rattle.server_figures.specs.declared.server_status.ServerStatus.{ServerStatus}

-- in megabytes, rounded down; nothing where it is not known
abbrev pub memory_text : Option ℕ → List ℕ
memory_text None = []
memory_text (Some bytes) = concat (codes "memory " ∷ decimal (bytes / 1000000) ∷ codes " MB" ∷ line_feed ∷ [])

-- nothing where none has come
abbrev pub reply_text : Option ℕ → List ℕ
reply_text None = []
reply_text (Some seconds) = concat (codes "last reply " ∷ decimal seconds ∷ codes " s ago" ∷ line_feed ∷ [])

-- what refreshes left, and how many clients there are
unfoldable pub state_text : Figures → List ℕ
state_text figures =
    concat (codes "commits " ∷ decimal figures.commits ∷ line_feed ∷ codes "live lines " ∷ decimal figures.lines
    ∷ codes " of at most " ∷ decimal most_lines ∷ line_feed ∷ codes "refused " ∷ decimal figures.refusals
    ∷ refused_terms_text figures.refused ∷ line_feed ∷ codes "sessions " ∷ decimal figures.sessions
    ∷ codes ", broken " ∷ decimal figures.broken ∷ line_feed ∷ [])

-- what was answered
unfoldable pub answered_text : Figures → List ℕ
answered_text figures =
    concat (codes "batches " ∷ decimal figures.batches ∷ line_feed ∷ codes "answers " ∷ decimal figures.answers
    ∷ codes ", " ∷ decimal figures.by_totals ∷ codes " of them from totals" ∷ line_feed ∷ [])

abbrev pub status_text : ServerStatus → List ℕ
status_text status =
    concat (state_text status.figures ∷ answered_text status.figures
    ∷ codes "standing questions " ∷ decimal status.standing ∷ line_feed
    ∷ memory_text status.resident_bytes ∷ reply_text status.since_reply ∷ [])
