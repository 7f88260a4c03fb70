-- The text of the metrics, as Prometheus' collectors read it, and the files that it may be written over.
use Rattle.std.specs.Prelude.{ℕ, Bool, List, [], ◌∷◌, ◌||◌, ◌==◌, Option, None, Some, codes, decimal, length}
use Rattle.std.specs.Prelude.{nat_eq, if◌then◌else◌}
use Rattle.std.specs.List.{concat, starts_with}
use Rattle.std.specs.Option.{option_map}
use Rattle.ssb_base.specs.Limits.{most_lines}
use Rattle.server_figures.specs.RefusedText.{refused_metric_text}
use Rattle.server_figures.specs.declared.metric.Metric.{Metric}
use Rattle.server_figures.specs.declared.metric.Metric.TheVariants.{Ready, Commits, Lines, LinesLimit, Refusals, Answers, Batches}
use Rattle.server_figures.specs.declared.metric.Metric.TheVariants.{LastBatch, AnswerLag, Sessions, BrokenSessions, JournalBytes, ResidentBytes}
use Rattle.server_figures.specs.declared.metrics.Metrics.{Metrics}

abbrev pub line_feed : List ℕ
line_feed = 10 ∷ []

abbrev pub metric_name : Metric → List ℕ
metric_name (Ready _) = codes "ssb_live_ready"
metric_name (Commits _) = codes "ssb_live_commits_total"
metric_name (Lines _) = codes "ssb_live_lines"
metric_name (LinesLimit _) = codes "ssb_live_lines_limit"
metric_name (Refusals _) = codes "ssb_live_refusals_total"
metric_name (Answers _) = codes "ssb_live_answers_total"
metric_name (Batches _) = codes "ssb_live_batches_total"
metric_name (LastBatch _) = codes "ssb_live_last_batch_seconds"
metric_name (AnswerLag _) = codes "ssb_live_answer_lag_commits"
metric_name (Sessions _) = codes "ssb_live_sessions"
metric_name (BrokenSessions _) = codes "ssb_live_broken_sessions_total"
metric_name (JournalBytes _) = codes "ssb_live_journal_bytes"
metric_name (ResidentBytes _) = codes "ssb_live_resident_bytes"

abbrev pub metric_help : Metric → List ℕ
metric_help (Ready _) = codes "Whether the server takes requests."
metric_help (Commits _) = codes "Commits, those of the journal among them."
metric_help (Lines _) = codes "Lines that are live."
metric_help (LinesLimit _) = codes "The most lines that may be live."
metric_help (Refusals _) = codes "Refreshes that were refused."
metric_help (Answers _) = codes "Questions that were answered."
metric_help (Batches _) = codes "Batches in which they were answered."
metric_help (LastBatch _) = codes "How long the last batch took."
metric_help (AnswerLag _) = codes "Commits that the answers of the last batch lacked when it was answered."
metric_help (Sessions _) = codes "Sessions that are open."
metric_help (BrokenSessions _) = codes "Sessions that have ended with an error."
metric_help (JournalBytes _) = codes "Bytes of the journal."
metric_help (ResidentBytes _) = codes "Bytes of memory that the server has."

-- a counter only grows, a gauge may fall
abbrev pub metric_kind : Metric → List ℕ
metric_kind (Ready _) = codes "gauge"
metric_kind (Commits _) = codes "counter"
metric_kind (Lines _) = codes "gauge"
metric_kind (LinesLimit _) = codes "gauge"
metric_kind (Refusals _) = codes "counter"
metric_kind (Answers _) = codes "counter"
metric_kind (Batches _) = codes "counter"
metric_kind (LastBatch _) = codes "gauge"
metric_kind (AnswerLag _) = codes "gauge"
metric_kind (Sessions _) = codes "gauge"
metric_kind (BrokenSessions _) = codes "counter"
metric_kind (JournalBytes _) = codes "gauge"
metric_kind (ResidentBytes _) = codes "gauge"

abbrev pub metric_amount : Metric → ℕ
metric_amount (Ready takes) = if takes then 1 else 0
metric_amount (Commits n) = n
metric_amount (Lines n) = n
metric_amount (LinesLimit n) = n
metric_amount (Refusals n) = n
metric_amount (Answers n) = n
metric_amount (Batches n) = n
metric_amount (LastBatch n) = n
metric_amount (AnswerLag n) = n
metric_amount (Sessions n) = n
metric_amount (BrokenSessions n) = n
metric_amount (JournalBytes n) = n
metric_amount (ResidentBytes n) = n

-- what stands behind the digits of a value: nanoseconds are told as seconds
abbrev pub metric_exponent : Metric → List ℕ
metric_exponent (LastBatch _) = codes "e-9"
metric_exponent _ = []

-- what it is, of which kind, and its value
unfoldable pub metric_text : Metric → List ℕ
metric_text metric =
    concat (codes "# HELP " ∷ metric_name metric ∷ codes " " ∷ metric_help metric ∷ line_feed
    ∷ codes "# TYPE " ∷ metric_name metric ∷ codes " " ∷ metric_kind metric ∷ line_feed
    ∷ metric_name metric ∷ codes " " ∷ decimal (metric_amount metric) ∷ metric_exponent metric ∷ line_feed ∷ [])

-- nothing where a value is not known
abbrev pub text_where_known : Option Metric → List ℕ
text_where_known None = []
text_where_known (Some metric) = metric_text metric

-- each text begins with it
abbrev pub sign : List ℕ
sign = codes "# ssb_live"

abbrev pub metrics_text : Metrics → List ℕ
metrics_text metrics =
    concat (sign ∷ codes " figures" ∷ line_feed
    ∷ metric_text (Ready metrics.figures.ready)
    ∷ metric_text (Commits metrics.figures.commits)
    ∷ metric_text (Lines metrics.figures.lines)
    ∷ metric_text (LinesLimit most_lines)
    ∷ metric_text (Refusals metrics.figures.refusals)
    ∷ refused_metric_text metrics.figures.refused
    ∷ metric_text (Answers metrics.figures.answers)
    ∷ metric_text (Batches metrics.figures.batches)
    ∷ metric_text (LastBatch metrics.figures.last_batch)
    ∷ metric_text (AnswerLag metrics.figures.lacked)
    ∷ metric_text (Sessions metrics.figures.sessions)
    ∷ metric_text (BrokenSessions metrics.figures.broken)
    ∷ text_where_known (option_map JournalBytes metrics.journal_bytes)
    ∷ text_where_known (option_map ResidentBytes metrics.resident_bytes) ∷ [])

-- a file that has no bytes, or begins as each text does
abbrev pub may_be_replaced : List ℕ → Bool
may_be_replaced head = (length head == 0) || starts_with nat_eq head sign
