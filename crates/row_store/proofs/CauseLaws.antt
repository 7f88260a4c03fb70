-- When an action is refused, and the first refusal of the rest of a refresh.
use Rattle.std.proofs.Common.{◌≡◌, ℕ, ◌+◌, ◌<◌, ◌≤◌, Bool, true, false, ltb, List, [], ◌∷◌, ◌++◌, length, Result, Ok}
use Rattle.std.proofs.Common.{Err, MatchResult, take, drop, get_or, Option, Some, None, sym, refl, ap, ◌∙◌, arith}
use Rattle.std.proofs.Common.{add-one, length-append}
use Rattle.std.proofs.Math.Seq.{drop-cons}
use Rattle.std.specs.Option.{option_or, option_map}
use Rattle.std.proofs.lemmas.Bool.{lt-ltb, le-ltb, ltb-false}
use Rattle.ssb_schema.specs.declared.line.LineFields.{LineFields}
use Rattle.ssb_schema.specs.declared.refresh.Action.{Action}
use Rattle.ssb_schema.specs.declared.refresh.Action.TheVariants.{Add, Amend, Withdraw}
use Rattle.ssb_schema.specs.Orders.{order_key}
use Rattle.ssb_base.specs.Base.{Tables}
use Rattle.row_store.specs.Lines.{is_present, lines_of, lines_without, lines_after_action, lines_after_refresh}
use Rattle.row_store.specs.declared.refusal.Cause.{Cause}
use Rattle.row_store.specs.declared.refusal.Cause.TheVariants.{Present, Absent, AmendAbsent}
use Rattle.row_store.specs.declared.refusal.Refusal.{Refusal}
use Rattle.row_store.specs.Refusals.{order_cause, cause_of, first_refusal}
use Rattle.row_store.proofs.CountedLaws.{present, no_lines}

is_there : (key n : ℕ) (lines : List LineFields) → n ≡ length (lines_of key lines) → 0 < n → is_present key lines ≡ true
is_there key n lines counted some = present key lines ∙ ap (ltb 0) (sym counted) ∙ lt-ltb 0 n some

is_not_there : (key n : ℕ) (lines : List LineFields) → n ≡ length (lines_of key lines) → n ≤ 0
    → is_present key lines ≡ false
is_not_there key n lines counted none = present key lines ∙ ap (ltb 0) (sym counted) ∙ le-ltb 0 n none

module _ (base : Tables) (lines order : List LineFields) (key n : ℕ) (same : key ≡ order_key order)
    (counted : n ≡ length (lines_of key lines)) where
  own : n ≡ length (lines_of (order_key order) lines)
  own = counted ∙ ap (λ k. length (lines_of k lines)) same

  pub cause_present : 0 < n → cause_of base lines (Add order) ≡ Some (Present key)
  cause_present some = grind (arith, is_there, own)

  pub cause_added : n ≤ 0 → cause_of base lines (Add order) ≡ order_cause base lines order
  cause_added none = let is = is_not_there (order_key order) n lines own none in rw is refl

  pub cause_amend_absent : n ≡ 0 → cause_of base lines (Amend order) ≡ Some (AmendAbsent key)
  cause_amend_absent none = grind (arith, is_not_there, own)

  pub cause_amended : (n ≡ 0 → ⊥) → cause_of base lines (Amend order) ≡ order_cause base
      (lines_without (order_key order) lines) order
  cause_amended some = let is = is_there (order_key order) n lines own (omega (arith, some)) in rw is refl

pub cause_absent : (base : Tables) (lines : List LineFields) (key n : ℕ) → n ≡ length (lines_of key lines) → n ≡ 0
    → cause_of base lines (Withdraw key) ≡ Some (Absent key)
cause_absent base lines key n counted none = let is = is_not_there key n lines counted (omega arith) in rw is refl

pub cause_withdrawn : (base : Tables) (lines : List LineFields) (key n : ℕ) → n ≡ length (lines_of key lines)
    → (n ≡ 0 → ⊥) → cause_of base lines (Withdraw key) ≡ None
cause_withdrawn base lines key n counted some = let is = is_there key n lines counted (omega arith) in rw is refl

-- what `lines_after_joining` says of an order, and the same said of the action
abbrev pub Joined : Result ℕ Cause → Tables → List LineFields → List LineFields → Type 0
Joined r base lines order = MatchResult r (λ n. (order_cause base lines order ≡ None)
    × (n ≡ length lines + length order) × (n ≤ base.limits.lines)) (λ cause. order_cause base lines order ≡ Some cause)

pub joined : (base : Tables) (r : Result ℕ Cause) (now : List LineFields) (action : Action)
    (lines order : List LineFields) → cause_of base now action ≡ order_cause base lines order
    → lines_after_action now action ≡ lines ++ order
    → Joined r base lines order
    → MatchResult r (λ n. (cause_of base now action ≡ None) × (n ≡ length (lines_after_action now action))
    × (n ≤ base.limits.lines)) (λ cause. cause_of base now action ≡ Some cause)
joined base (Ok n) now action lines order same after h = grind (arith, length-append)
joined base (Err cause) now action lines order same after h = grind arith

not_there : (base : Tables) (lines order : List LineFields) (b : Bool) → is_present (order_key order) lines ≡ b
    → cause_of base lines (Add order) ≡ None → b ≡ false
not_there base lines order true is none = let h = rw is at none in absurd (cc)
not_there base lines order false is none = refl

-- an order that may be added has no line yet
pub new_key : (base : Tables) (lines order : List LineFields) → cause_of base lines (Add order) ≡ None
    → lines_of (order_key order) lines ≡ []
new_key base lines order none = grind (arith, not_there, ltb-false, present, no_lines)

abbrev refused_at : ℕ → Option Cause → Option Refusal → Option Refusal
refused_at number cause later = option_or (option_map (λ cause. record { action = number; cause = cause }) cause) later

both_none : (number : ℕ) (cause : Option Cause) (later : Option Refusal) → refused_at number cause later ≡ None
    → (cause ≡ None) × (later ≡ None)
both_none number None later e = (refl, e)
both_none number (Some cause) later e = absurd (cc)

-- where none of the rest is refused, the next action is not, and none after it
pub none_refused-next : (base : Tables) (number : ℕ) (lines : List LineFields) (actions : List Action) (i : ℕ)
    (action : Action) → i < length actions → action ≡ get_or actions i action
    → first_refusal base number (lines_after_refresh lines (take i actions)) (drop i actions) ≡ None
    → (cause_of base (lines_after_refresh lines (take i actions)) action ≡ None)
    × (first_refusal base (number + 1) (lines_after_action (lines_after_refresh lines (take i actions)) action)
    (drop (i + 1) actions) ≡ None)
none_refused-next base number lines actions i action here is none = grind (arith, drop-cons, add-one, both_none)
