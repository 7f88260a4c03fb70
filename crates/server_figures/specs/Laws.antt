-- What is true of the texts.
use Rattle.std.specs.Prelude.{◌≡◌, true}
use Rattle.server_figures.specs.MetricsText.{may_be_replaced, metrics_text}
use Rattle.server_figures.specs.declared.metrics.Metrics.{Metrics}

-- a file with a text of metrics may be written over
abbrev pub TextsMayBeReplaced : Type 0
TextsMayBeReplaced = (metrics : Metrics) → may_be_replaced (metrics_text metrics) ≡ true
