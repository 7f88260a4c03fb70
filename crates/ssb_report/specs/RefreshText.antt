-- The reports of refreshes, and of what is dropped.
use Rattle.std.specs.Prelude.{ℕ, List, [], ◌∷◌, ◌++◌, codes, decimal}
use Rattle.std.specs.List.{concat}
use Rattle.row_store.specs.declared.commit.Receipt.{Receipt}
use Rattle.row_store.specs.declared.refusal.Cause.{Cause}
use Rattle.row_store.specs.declared.refusal.Cause.TheVariants.{LogFull, Present, UnknownCustomer, UnknownSupplier}
use Rattle.row_store.specs.declared.refusal.Cause.TheVariants.{UnknownPart, UnknownDate, LinesFull, Absent, AmendAbsent}
use Rattle.row_store.specs.declared.refusal.RefreshError.{RefreshError}
use Rattle.row_store.specs.declared.refusal.RefreshError.TheVariants as refresh
use Rattle.ssb_text.specs.Numbers.{line_feed}

-- the report of a commit
abbrev pub receipt_text : Receipt → List ℕ
receipt_text receipt = concat (codes "committed " ∷ decimal receipt.number ∷ line_feed ∷ [])

-- the report of what is dropped
abbrev pub aborted_text : List ℕ
aborted_text = codes "aborted" ++ line_feed

-- the number and the name of a cause, and its key
abbrev pub cause_text : Cause → List ℕ
cause_text LogFull = codes "40 LogFull"
cause_text (Present key) = concat (codes "41 Present " ∷ decimal key ∷ [])
cause_text UnknownCustomer = codes "42 UnknownCustomer"
cause_text UnknownSupplier = codes "43 UnknownSupplier"
cause_text UnknownPart = codes "44 UnknownPart"
cause_text UnknownDate = codes "45 UnknownDate"
cause_text LinesFull = codes "46 LinesFull"
cause_text (Absent key) = concat (codes "47 Absent " ∷ decimal key ∷ [])
cause_text (AmendAbsent key) = concat (codes "48 AmendAbsent " ∷ decimal key ∷ [])

-- the report of a refusal after so many commits
abbrev pub refused_text : ℕ → ℕ → Cause → List ℕ
refused_text at action cause =
    concat (codes "refused at " ∷ decimal at ∷ codes " action " ∷ decimal action ∷ codes ": " ∷ []) ++ cause_text cause
    ++ line_feed

-- the report of a refresh that was not applied
abbrev pub refusal_text : RefreshError → List ℕ
refusal_text (refresh.Refused at action cause) = refused_text at action cause
refusal_text refresh.OutOfMemory = codes "refresh: out of memory" ++ line_feed
