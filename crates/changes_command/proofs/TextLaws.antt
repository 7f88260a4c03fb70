-- The text of signed lines, in parts.
use Rattle.std.proofs.Common.{◌≡◌, ℕ, zero, suc, ◌+◌, ◌<◌, Bool, true, false, cond, leb, List, [], ◌∷◌, ◌++◌, length}
use Rattle.std.proofs.Common.{take, drop, get_or, slice_get, flat_map, decimal, refl, sym, ap, ◌∙◌, arith}
use Rattle.std.proofs.Common.{append_assoc, append-nil, inl, inr, Option, Some, None, Result, Ok, Err, OnOk}
use Rattle.std.proofs.lemmas.List.{take_more, take-append-drop}
use Rattle.std.proofs.lemmas.List.Concat.{flat_map-append}
use Rattle.std.proofs.lemmas.List.Sums.{fold-append}
use Rattle.std.specs.Option.{option_map, option_or}
use Rattle.row_store.proofs.ReplacedLaws.{Replaces}
use Rattle.row_store.specs.History.{CommitRecord, lines_after}
use Rattle.row_store.specs.Lines.{added_by, lines_after_action, lines_after_refresh, lines_of}
use Rattle.row_store.specs.Refusals.{cause_of, first_refusal, refusal_of}
use Rattle.row_store.specs.declared.refusal.Cause.{Cause}
use Rattle.row_store.specs.declared.refusal.Cause.TheVariants.{LogFull}
use Rattle.row_store.specs.declared.refusal.Refusal.{Refusal}
use Rattle.ssb_base.specs.Base.{Tables}
use Rattle.ssb_schema.specs.Orders.{order_key}
use Rattle.ssb_schema.specs.Rows.{line_values}
use Rattle.ssb_schema.specs.declared.line.LineFields.{LineFields}
use Rattle.ssb_schema.specs.declared.refresh.Action.{Action}
use Rattle.ssb_schema.specs.declared.refresh.Action.TheVariants.{Add, Amend, Put, Withdraw}
use Rattle.ssb_text.specs.TableText.{row_text}
use Rattle.changes_command.specs.Signed.{SignedLine, changes_by, changes_by_all, signed}
use Rattle.changes_command.specs.SignedText.{barred, lines_text, sign_text}
use Rattle.changes_command.specs.Signed.{taken_by}
use Rattle.changes_command.specs.SignedText.{signed_text}
use Rattle.changes_command.specs.declared.format.ChangesFormat.{ChangesFormat}
use Rattle.changes_command.specs.declared.format.ChangesFormat.TheVariants.{Report}
use Rattle.changes_command.specs.declared.signed.Sign.{Sign}
use Rattle.changes_command.specs.declared.signed.Sign.TheVariants.{Came, Went}

-- what is so is so whatever the result is
pub on_ok : {X E : Type 0} (r : Result X E) (P : Type 0) → P → OnOk r P
on_ok (Ok v) P is = is
on_ok (Err e) P is = tt

-- what stands before a line
abbrev pub lead : ℕ → List ℕ → List ℕ
lead commit mark = decimal commit ++ (mark ++ [])

pub report_in_parts : (commit : ℕ) (sign : Sign) (line : LineFields)
    → signed_text Report commit sign line ≡ lead commit (barred (sign_text sign)) ++ row_text (line_values line)
report_in_parts commit sign line =
    ap (λ mark. decimal commit ++ (mark ++ row_text (line_values line))) (sym (append-nil (barred (sign_text sign))))
    ∙ sym (append_assoc (decimal commit) (barred (sign_text sign) ++ []) (row_text (line_values line)))

-- lines with one commit and one sign
pub text_of_signed : (format : ChangesFormat) (commit : ℕ) (sign : Sign) (lines : List LineFields)
    → lines_text format (signed commit sign lines) ≡ flat_map (signed_text format commit sign) lines
text_of_signed format commit sign [] = refl
text_of_signed format commit sign (line ∷ lines) =
    ap (λ text. signed_text format commit sign line ++ text) (text_of_signed format commit sign lines)

pub text_both : (format : ChangesFormat) (one other : List SignedLine) → lines_text format (one ++ other) ≡ lines_text format one ++ lines_text format other
text_both format one other = flat_map-append (λ (l : SignedLine). signed_text format l.commit l.sign l.line) one other

-- what an action changes
pub text_of_action : (format : ChangesFormat) (commit : ℕ) (lines : List LineFields) (action : Action)
    → lines_text format (changes_by commit lines action)
    ≡ flat_map (signed_text format commit Went) (taken_by lines action) ++ flat_map (signed_text format commit Came) (added_by action)
text_of_action format commit lines action =
    text_both format (signed commit Went (taken_by lines action)) (signed commit Came (added_by action))
    ∙ ap (λ text. text ++ lines_text format (signed commit Came (added_by action)))
    (text_of_signed format commit Went (taken_by lines action))
    ∙ ap (λ text. flat_map (signed_text format commit Went) (taken_by lines action) ++ text)
    (text_of_signed format commit Came (added_by action))

pub text_of_added : (format : ChangesFormat) (commit : ℕ) (lines order : List LineFields)
    → lines_text format (changes_by commit lines (Add order)) ≡ flat_map (signed_text format commit Came) order
text_of_added format commit lines order = text_of_action format commit lines (Add order)

pub text_of_replaced : (format : ChangesFormat) (commit : ℕ) (lines : List LineFields) (action : Action)
    (order : List LineFields) → Replaces action order
    → lines_text format (changes_by commit lines action)
    ≡ flat_map (signed_text format commit Went) (lines_of (order_key order) lines) ++ flat_map (signed_text format commit Came) order
text_of_replaced format commit lines action order (inl is) =
    ap (λ a. lines_text format (changes_by commit lines a)) is ∙ text_of_action format commit lines (Amend order)
text_of_replaced format commit lines action order (inr is) =
    ap (λ a. lines_text format (changes_by commit lines a)) is ∙ text_of_action format commit lines (Put order)

pub text_of_withdrawn : (format : ChangesFormat) (commit key : ℕ) (lines : List LineFields)
    → lines_text format (changes_by commit lines (Withdraw key)) ≡ flat_map (signed_text format commit Went) (lines_of key lines)
text_of_withdrawn format commit key lines =
    text_of_action format commit lines (Withdraw key) ∙ append-nil (flat_map (signed_text format commit Went) (lines_of key lines))

-- what actions change, some and then others
pub changes_both : (commit : ℕ) (lines : List LineFields) (one other : List Action)
    → changes_by_all commit lines (one ++ other)
    ≡ changes_by_all commit lines one ++ changes_by_all commit (lines_after_refresh lines one) other
changes_both commit lines [] other = refl
changes_both commit lines (action ∷ one) other =
    ap (λ rest. changes_by commit lines action ++ rest) (changes_both commit (lines_after_action lines action) one other)
    ∙ sym (append_assoc (changes_by commit lines action)
    (changes_by_all commit (lines_after_action lines action) one)
    (changes_by_all commit (lines_after_refresh lines (action ∷ one)) other))

module _ (format : ChangesFormat) (commit : ℕ) (lines : List LineFields) (actions : List Action) (i : ℕ) (action : Action)
    (within : i < length actions) (is : action ≡ get_or actions i action) where
  -- the text of what the first actions change, and the next
  pub text_more : lines_text format (changes_by_all commit lines (take (i + 1) actions))
      ≡ lines_text format (changes_by_all commit lines (take i actions))
      ++ lines_text format (changes_by commit (lines_after_refresh lines (take i actions)) action)
  text_more =
      let now = lines_after_refresh lines (take i actions) in
      ap (λ l. lines_text format (changes_by_all commit lines l))
      (take_more actions i action within ∙ ap (λ x. take i actions ++ x ∷ []) (sym is))
      ∙ ap (lines_text format) (changes_both commit lines (take i actions) (action ∷ []))
      ∙ text_both format (changes_by_all commit lines (take i actions)) (changes_by_all commit now (action ∷ []))
      ∙ ap (λ l. lines_text format (changes_by_all commit lines (take i actions)) ++ lines_text format l)
      (append-nil (changes_by commit now action))

  -- and what the others change comes behind
  pub text_in_parts : lines_text format (changes_by_all commit lines actions)
      ≡ (lines_text format (changes_by_all commit lines (take i actions))
      ++ lines_text format (changes_by commit (lines_after_refresh lines (take i actions)) action))
      ++ lines_text format (changes_by_all commit (lines_after_refresh lines (take (i + 1) actions)) (drop (i + 1) actions))
  text_in_parts =
      let front = take (i + 1) actions in
      let back = drop (i + 1) actions in
      let rest = lines_text format (changes_by_all commit (lines_after_refresh lines front) back) in
      ap (λ l. lines_text format (changes_by_all commit lines l)) (sym (take-append-drop (i + 1) actions))
      ∙ ap (lines_text format) (changes_both commit lines front back)
      ∙ text_both format (changes_by_all commit lines front) (changes_by_all commit (lines_after_refresh lines front) back)
      ∙ ap (λ text. text ++ rest) text_more

-- an element that is there is read there
pub read_there : {X : Type 0} (xs : List X) (i : ℕ) (x : X) → slice_get xs i ≡ Some x → (i < length xs)
    × (x ≡ get_or xs i x)
read_there [] i x at = absurd (cc)
read_there (y ∷ xs) zero x at = grind arith
read_there (y ∷ xs) (suc i) x at = let rest = read_there xs i x at in (omega (arith, rest.0), rest.1)

option_none : (number : ℕ) (cause : Option Cause) (later front : Option Refusal)
    → option_or (option_map (λ why. record { action = number; cause = why }) cause) later ≡ None
    → (later ≡ None → front ≡ None)
    → option_or (option_map (λ why. record { action = number; cause = why }) cause) front ≡ None
option_none number None later front none more = more none
option_none number (Some cause) later front none more = absurd (cc)

-- where no action is refused, none of the first ones is
pub none_before : (base : Tables) (number : ℕ) (lines : List LineFields) (actions : List Action) (i : ℕ)
    → first_refusal base number lines actions ≡ None → first_refusal base number lines (take i actions) ≡ None
none_before base number lines [] zero none = refl
none_before base number lines [] (suc i) none = refl
none_before base number lines (action ∷ later) zero none = refl
none_before base number lines (action ∷ later) (suc i) none =
    option_none number (cause_of base lines action) (first_refusal base (number + 1) (lines_after_action lines action) later)
    (first_refusal base (number + 1) (lines_after_action lines action) (take i later)) none
    (none_before base (number + 1) (lines_after_action lines action) later i)

none_else : (full : Bool) (refusal : Refusal) (later : Option Refusal) → cond full (Some refusal) later ≡ None
    → later ≡ None
none_else true refusal later none = absurd (cc)
none_else false refusal later none = none

pub none_of : (base : Tables) (history : List CommitRecord) (actions : List Action)
    → refusal_of base history actions ≡ None → first_refusal base 1 (lines_after base history) actions ≡ None
none_of base history actions none =
    none_else (leb base.limits.commits (length history)) (record { action = 0; cause = LogFull })
    (first_refusal base 1 (lines_after base history) actions) none

-- the lines after the first actions, and the next
pub lines_next : (lines : List LineFields) (actions : List Action) (i : ℕ) (action : Action) → i < length actions
    → action ≡ get_or actions i action → lines_after_refresh lines (take (i + 1) actions)
    ≡ lines_after_action (lines_after_refresh lines (take i actions)) action
lines_next lines actions i action within is =
    ap (lines_after_refresh lines) (take_more actions i action within ∙ ap (λ x. take i actions ++ x ∷ []) (sym is))
    ∙ fold-append lines_after_action lines (take i actions) (action ∷ [])
