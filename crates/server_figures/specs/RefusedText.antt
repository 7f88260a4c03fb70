-- Refusals by their cause, as a metric and in a line of a status.
use Rattle.std.specs.Prelude.{ℕ, List, [], ◌∷◌, codes, decimal, if◌then◌else◌, ◌==◌}
use Rattle.std.specs.List.{concat}
use Rattle.server_figures.specs.declared.refused.Refused.{Refused}

-- a value of the metric
abbrev pub cause_metric_text : List ℕ → ℕ → List ℕ
cause_metric_text cause count =
    concat (codes "ssb_live_refused_total{cause=" ∷ (34 ∷ []) ∷ cause ∷ (34 ∷ []) ∷ codes "} " ∷ decimal count
    ∷ (10 ∷ []) ∷ [])

unfoldable pub refused_metric_text : Refused → List ℕ
refused_metric_text refused =
    concat (codes "# HELP ssb_live_refused_total Refreshes that were refused, by their cause." ∷ (10 ∷ [])
    ∷ codes "# TYPE ssb_live_refused_total counter" ∷ (10 ∷ [])
    ∷ cause_metric_text (codes "40 LogFull") refused.log_full
    ∷ cause_metric_text (codes "41 Present") refused.present
    ∷ cause_metric_text (codes "42 UnknownCustomer") refused.unknown_customer
    ∷ cause_metric_text (codes "43 UnknownSupplier") refused.unknown_supplier
    ∷ cause_metric_text (codes "44 UnknownPart") refused.unknown_part
    ∷ cause_metric_text (codes "45 UnknownDate") refused.unknown_date
    ∷ cause_metric_text (codes "46 LinesFull") refused.lines_full
    ∷ cause_metric_text (codes "47 Absent") refused.absent
    ∷ cause_metric_text (codes "48 AmendAbsent") refused.amend_absent ∷ [])

-- nothing where none was refused for the cause
abbrev pub cause_term_text : List ℕ → ℕ → List ℕ
cause_term_text cause count =
    if count == 0 then [] else concat (codes ", " ∷ cause ∷ codes " " ∷ decimal count ∷ [])

unfoldable pub refused_terms_text : Refused → List ℕ
refused_terms_text refused =
    concat (cause_term_text (codes "40 LogFull") refused.log_full
    ∷ cause_term_text (codes "41 Present") refused.present
    ∷ cause_term_text (codes "42 UnknownCustomer") refused.unknown_customer
    ∷ cause_term_text (codes "43 UnknownSupplier") refused.unknown_supplier
    ∷ cause_term_text (codes "44 UnknownPart") refused.unknown_part
    ∷ cause_term_text (codes "45 UnknownDate") refused.unknown_date
    ∷ cause_term_text (codes "46 LinesFull") refused.lines_full
    ∷ cause_term_text (codes "47 Absent") refused.absent
    ∷ cause_term_text (codes "48 AmendAbsent") refused.amend_absent ∷ [])
