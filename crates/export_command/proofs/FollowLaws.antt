-- The orders that stand follow actions and commits.
use Rattle.std.proofs.Common.{◌≡◌, ℕ, zero, suc, ◌+◌, ◌<◌, ◌≤◌, false, List, [], ◌∷◌, ◌++◌, length, take, drop, get_or}
use Rattle.std.proofs.Common.{slice_get, Some, None, refl, sym, ap, ◌∙◌, subst, arith, append_assoc, append-nil}
use Rattle.std.proofs.Common.{inl, inr, length-append}
use Rattle.std.specs.List.{AllByRecursion}
use Rattle.std.proofs.lemmas.List.Concat.{flat_map-append}
use Rattle.std.proofs.lemmas.List.Elements.{recursion_from_All}
use Rattle.std.proofs.lemmas.List.Sums.{fold-append}
use Rattle.row_store.specs.History.{CommitRecord, lines_after}
use Rattle.row_store.specs.Legal.{IsLegal}
use Rattle.row_store.specs.Lines.{added_by, is_present, lines_after_action, lines_after_refresh, lines_without}
use Rattle.row_store.specs.Refusals.{cause_of, first_refusal, refusal_of}
use Rattle.row_store.proofs.CauseLaws.{none_refused-next}
use Rattle.row_store.proofs.ReplacedLaws.{Replaces, replaced_added, replaced_after}
use Rattle.row_store.proofs.StateLaws.{lines_after-push}
use Rattle.ssb_base.specs.Base.{Tables}
use Rattle.ssb_schema.specs.declared.line.LineFields.{LineFields}
use Rattle.ssb_schema.specs.Orders.{IsOrder, order_key}
use Rattle.ssb_schema.specs.declared.refresh.Action.{Action}
use Rattle.ssb_schema.specs.declared.refresh.Action.TheVariants.{Add, Withdraw}
use Rattle.export_command.specs.After.{AddsOrder, actions_of}
use Rattle.export_command.specs.Standing.{AreLeft, Follows, lines_at}
use Rattle.export_command.specs.declared.standing_orders.StandingOrders.{StandingOrders}
use Rattle.export_command.proofs.ApartLaws.{all_append}
use Rattle.export_command.proofs.NextLaws.{all_of, at_seam, front_of, next_of}
use Rattle.export_command.proofs.SoundLaws.{none_tested}

-- the first of these actions are not refused and followed; of the rest none is refused either
pub record AreNoted (base : Tables) (lines : List LineFields) (actions : List Action) (i : ℕ) (orders : StandingOrders)
    : Type 0 where
  pub rest : first_refusal base (i + 1) (lines_after_refresh lines (take i actions)) (drop i actions) ≡ None
  pub left : AreLeft base.lines (lines_after_refresh lines (take i actions)) orders

-- what one action more does to the orders that stand
abbrev pub NotesAction : List Action → ℕ → StandingOrders → StandingOrders → Type 0
NotesAction actions i old new =
    (base : Tables) (lines : List LineFields) (action : Action) → slice_get actions i ≡ Some action
    → cause_of base lines action ≡ None → AreLeft base.lines lines old
    → AreLeft base.lines (lines_after_action lines action) new

-- what it does to them that the order of a key goes, and that one with these lines comes
abbrev pub Leaves : ℕ → StandingOrders → StandingOrders → Type 0
Leaves key old new =
    (loaded lines : List LineFields) → AreLeft loaded lines old → AreLeft loaded (lines_without key lines) new

abbrev pub Joins : ℕ → List LineFields → StandingOrders → StandingOrders → Type 0
Joins key own old new =
    (loaded lines : List LineFields) → is_present key lines ≡ false → AreLeft loaded lines old
    → AreLeft loaded (lines ++ own) new

-- an action's own lines
at_index : {X : Type 0} (xs : List X) (i : ℕ) (x : X) → i < length xs → x ≡ get_or xs i x → slice_get xs i ≡ Some x
at_index [] i x within is = absurd (omega (arith, within))
at_index (y ∷ xs) zero x within is = ap Some (sym is)
at_index (y ∷ xs) (suc i) x within is = at_index xs i x (omega (arith, within)) is

pub at_place : {X : Type 0} (xs same : List X) (i : ℕ) (x : X) → xs ≡ same → i < length same → x ≡ get_or xs i x
    → slice_get same i ≡ Some x
at_place xs same i x are within is = at_index same i x within (subst (λ l. x ≡ get_or l i x) are is)

lines_there : (actions : List Action) (place : ℕ) (action : Action) → slice_get actions place ≡ Some action
    → lines_at actions place ≡ added_by action
lines_there actions place action at = rw at refl

pub own_lines : (actions : List Action) (place key : ℕ) (action : Action) (order : List LineFields)
    → slice_get actions place ≡ Some action → added_by action ≡ order → IsOrder order → key ≡ order_key order
    → AllByRecursion (λ (line : LineFields). line.order_key ≡ key) (lines_at actions place)
own_lines actions place key action order at adds is same =
    subst (AllByRecursion (λ (line : LineFields). line.order_key ≡ key))
    (sym (lines_there actions place action at ∙ adds))
    (subst (λ k. AllByRecursion (λ (line : LineFields). line.order_key ≡ k) order) (sym same)
    (recursion_from_All (λ (line : LineFields). line.order_key ≡ order_key order) order is.alike))

same_there : (actions : List Action) (place : ℕ) (one other : Action) → slice_get actions place ≡ Some one
    → slice_get actions place ≡ Some other → one ≡ other
same_there actions place one other first second = grind (arith, first, second)

pub notes_add : (actions : List Action) (place key : ℕ) (order : List LineFields) (old new : StandingOrders)
    → slice_get actions place ≡ Some (Add order) → key ≡ order_key order → Joins key (lines_at actions place) old new
    → NotesAction actions place old new
notes_add actions place key order old new at same joins base lines action here none left =
    let is = same_there actions place (Add order) action at here in
    let accepted : cause_of base lines (Add order) ≡ None = subst (λ a. cause_of base lines a ≡ None) (sym is) none in
    let absent : is_present key lines ≡ false =
    subst (λ k. is_present k lines ≡ false) (sym same) (none_tested _ _ _ accepted).0 in
    subst (λ a. AreLeft base.lines (lines_after_action lines a) new) is
    (subst (λ l. AreLeft base.lines (lines ++ l) new) (lines_there actions place (Add order) at)
    (joins base.lines lines absent left))

without_it : (key : ℕ) (lines : List LineFields) → is_present key (lines_without key lines) ≡ false
without_it key [] = refl
without_it key (line ∷ lines) = grind (arith, without_it key lines)

pub replaced_order : (action : Action) (order : List LineFields) → Replaces action order → AddsOrder action
    → IsOrder order
replaced_order action order (inl is) adds = subst AddsOrder is adds
replaced_order action order (inr is) adds = subst AddsOrder is adds

pub notes_replace : (actions : List Action) (place key : ℕ) (one : Action) (order : List LineFields)
    (old mid new : StandingOrders) → slice_get actions place ≡ Some one → Replaces one order → key ≡ order_key order
    → Leaves key old mid → Joins key (lines_at actions place) mid new → NotesAction actions place old new
notes_replace actions place key one order old mid new at by same leaves joins base lines action here none left =
    subst (λ a. AreLeft base.lines (lines_after_action lines a) new) (same_there actions place one action at here)
    (subst (λ l. AreLeft base.lines l new) (sym (replaced_after lines one order by))
    (subst (λ k. AreLeft base.lines (lines_without k lines ++ order) new) same
    (subst (λ l. AreLeft base.lines (lines_without key lines ++ l) new)
    (lines_there actions place one at ∙ replaced_added one order by)
    (joins base.lines (lines_without key lines) (without_it key lines) (leaves base.lines lines left)))))

pub notes_withdraw : (actions : List Action) (place key : ℕ) (old new : StandingOrders)
    → slice_get actions place ≡ Some (Withdraw key) → Leaves key old new → NotesAction actions place old new
notes_withdraw actions place key old new at leaves base lines action here none left =
    subst (λ a. AreLeft base.lines (lines_after_action lines a) new)
    (same_there actions place (Withdraw key) action at here) (leaves base.lines lines left)

there : {X : Type 0} (xs : List X) (i : ℕ) → i < length xs → (x : X) × (slice_get xs i ≡ Some x)
there [] i within = absurd (omega (arith, within))
there (x ∷ xs) zero within = (x, refl)
there (x ∷ xs) (suc i) within = there xs i (omega (arith, within))

read_there : {X : Type 0} (xs : List X) (i : ℕ) (x : X) → slice_get xs i ≡ Some x → x ≡ get_or xs i x
read_there [] i x at = refl
read_there (y ∷ xs) zero x at = grind arith
read_there (y ∷ xs) (suc i) x at = read_there xs i x at

pub noted_more : (base : Tables) (lines : List LineFields) (actions : List Action) (i : ℕ) (old new : StandingOrders)
    → i < length actions → NotesAction actions i old new → AreNoted base lines actions i old
    → AreNoted base lines actions (i + 1) new
noted_more base lines actions i old new within notes noted =
    let one = there actions i within in
    let action = one.0 in
    let is = read_there actions i action one.1 in
    let now = lines_after_refresh lines (take i actions) in
    let next = none_refused-next base (i + 1) lines actions i action within is noted.rest in
    let after : lines_after_refresh lines (take (i + 1) actions) ≡ lines_after_action now action =
    ap (lines_after_refresh lines) (next_of actions i action within is)
    ∙ fold-append lines_after_action lines (take i actions) (action ∷ []) in
    record {
      rest = subst (λ l. first_refusal base (i + 1 + 1) l (drop (i + 1) actions) ≡ None) (sym after) next.1;
      left = subst (λ l. AreLeft base.lines l new) (sym after) (notes base now action one.1 next.0 noted.left);
    }

-- what the actions of one commit more do to them
abbrev pub NotesActions : List Action → StandingOrders → StandingOrders → Type 0
NotesActions actions old new =
    (base : Tables) (lines : List LineFields) → first_refusal base 1 lines actions ≡ None
    → AreLeft base.lines lines old → AreLeft base.lines (lines_after_refresh lines actions) new

pub notes_swept : (actions same : List Action) (old mid new : StandingOrders) → actions ≡ same
    → NotesActions actions old mid
    → ((loaded lines : List LineFields) → AreLeft loaded lines mid → AreLeft loaded lines new)
    → NotesActions same old new
notes_swept actions same old mid new are notes swept =
    subst (λ l. NotesActions l old new) are
    (λ base lines none left. swept base.lines (lines_after_refresh lines actions) (notes base lines none left))

pub followed : (base : Tables) (log commits : List CommitRecord) (i : ℕ) (commit : CommitRecord)
    (old new : StandingOrders) → i < length commits → commit ≡ get_or commits i commit
    → IsLegal base (log ++ commits) → AllByRecursion AddsOrder commit.actions → length commit.actions ≤ 64
    → new.count ≤ old.count + length commit.actions → NotesActions commit.actions old new
    → Follows base (log ++ take i commits) old → Follows base (log ++ take (i + 1) commits) new
followed base log commits i commit old new within is legal adds few count notes follows =
    let front = log ++ take i commits in
    let later = drop (i + 1) commits in
    let whole : log ++ commits ≡ front ++ commit ∷ later =
    ap (λ l. log ++ l) (all_of commits i commit within is ∙ append_assoc (take i commits) (commit ∷ []) later)
    ∙ sym (append_assoc log (take i commits) (commit ∷ later)) in
    let more : log ++ take (i + 1) commits ≡ front ++ commit ∷ [] =
    ap (λ l. log ++ l) (next_of commits i commit within is)
    ∙ sym (append_assoc log (take i commits) (commit ∷ [])) in
    let accepted : refusal_of base front commit.actions ≡ None =
    subst (λ history. refusal_of base history commit.actions ≡ None) (front_of front (commit ∷ later))
    ((subst (IsLegal base) whole legal).accepted (length front) commit (at_seam front commit later)) in
    let longer = length-append front (commit ∷ []) in
    let so_few = follows.few in
    let actions : actions_of (front ++ commit ∷ []) ≡ actions_of front ++ commit.actions =
    flat_map-append (λ (c : CommitRecord). c.actions) front (commit ∷ [])
    ∙ ap (λ l. actions_of front ++ l) (append-nil commit.actions) in
    subst (λ history. Follows base history new) (sym more) (record {
      left = subst (λ lines. AreLeft base.lines lines new) (sym (lines_after-push base front commit))
          (notes base (lines_after base front) (none_tested _ _ _ accepted).1 follows.left);
      few = omega (arith, longer, so_few, few, count);
      adds = subst (AllByRecursion AddsOrder) (sym actions)
          (all_append AddsOrder (actions_of front) commit.actions follows.adds adds);
    })
