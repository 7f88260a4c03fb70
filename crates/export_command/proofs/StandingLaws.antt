-- The lines after a history are the loaded lines that stand, and those that its actions added and that stand.
use Rattle.std.proofs.Common.{◌≡◌, ℕ, suc, ◌+◌, not, nat_eq, List, [], ◌∷◌, ◌++◌, length, drop, filter, flat_map}
use Rattle.std.proofs.Common.{fold, refl, sym, ap, ◌∙◌, append_assoc, length-append, arith, add-one}
use Rattle.std.specs.List.{list_any}
use Rattle.std.proofs.lemmas.List.Folds.{list_any-append}
use Rattle.std.proofs.lemmas.List.Sums.{fold-append}
use Rattle.row_store.specs.Absorbing.{gone_by, lines_without_all}
use Rattle.row_store.specs.History.{CommitRecord}
use Rattle.row_store.specs.Lines.{added_by, lines_after_action, lines_after_refresh}
use Rattle.row_store.proofs.AbsorbedLaws.{absorbed}
use Rattle.ssb_schema.specs.declared.line.LineFields.{LineFields}
use Rattle.ssb_schema.specs.declared.refresh.Action.{Action}
use Rattle.ssb_schema.specs.declared.refresh.Action.TheVariants.{Add, Amend, Put, Withdraw}
use Rattle.export_command.specs.After.{LinesStand, actions_of, goes_by, standing, standing_added}

-- the commits one after another are their actions one after another
by-actions : (lines : List LineFields) (history : List CommitRecord)
    → fold (λ (now : List LineFields) (commit : CommitRecord). lines_after_refresh now commit.actions) lines history
    ≡ lines_after_refresh lines (actions_of history)
by-actions lines [] = grind arith
by-actions lines (commit ∷ history) = grind (arith, fold-append, by-actions (lines_after_refresh lines commit.actions) history)

-- an order goes by some action where its key is among those of the orders that go
any-gone : (key : ℕ) (actions : List Action)
    → list_any (λ gone. nat_eq gone key) (flat_map gone_by actions) ≡ list_any (goes_by key) actions
any-gone key [] = grind arith
any-gone key (action ∷ actions) = grind (arith, list_any-append, nat_eq, any-gone key actions)

-- the lines of all orders but those that go by the actions
not-gone : (actions : List Action) (lines : List LineFields) → lines_without_all (flat_map gone_by actions) lines
    ≡ filter (λ line. not (list_any (goes_by line.order_key) actions)) lines
not-gone actions [] = refl
not-gone actions (line ∷ lines) = rw (any-gone line.order_key actions, not-gone actions lines) refl

drop-front : {X : Type 0} (front : List X) (x : X) (back : List X) → drop (length front + 1) (front ++ x ∷ back) ≡ back
drop-front {X = X} front x back = ap (λ n. drop n (front ++ x ∷ back)) (add-one (length front)) ∙ one-more front
  where
    one-more : (front : List X) → drop (suc (length front)) (front ++ x ∷ back) ≡ back
    one-more [] = refl
    one-more (y ∷ front) = one-more front

-- what an action makes of no lines
of-none : (action : Action) → lines_after_action [] action ≡ added_by action
of-none (Add order) = refl
of-none (Amend order) = refl
of-none (Put order) = refl
of-none (Withdraw key) = refl

-- what actions make of no lines, which come behind others
added : (front actions : List Action) → lines_after_refresh [] actions ≡ standing_added (front ++ actions) (length front)
    actions
added front [] = refl
added front (action ∷ later) =
    let all = front ++ action ∷ later in
    let first : lines_after_refresh [] (action ∷ later) ≡ lines_without_all (flat_map gone_by later) (added_by action)
    ++ lines_after_refresh [] later =
    ap (λ lines. lines_after_refresh lines later) (of-none action) ∙ sym (absorbed (added_by action) later) in
    let own : lines_without_all (flat_map gone_by later) (added_by action)
    ≡ standing all (length front + 1) (added_by action) =
    not-gone later (added_by action)
    ∙ ap (λ rest. filter (λ line. not (list_any (goes_by line.order_key) rest)) (added_by action))
    (sym (drop-front front action later)) in
    let rest : lines_after_refresh [] later ≡ standing_added all (length front + 1) later =
    added (front ++ action ∷ []) later
    ∙ ap (λ whole. standing_added whole (length (front ++ action ∷ [])) later) (append_assoc front (action ∷ []) later)
    ∙ ap (λ before. standing_added all before later) (length-append front (action ∷ [])) in
    first ∙ (ap (λ lines. lines ++ lines_after_refresh [] later) own
    ∙ ap (λ lines. standing all (length front + 1) (added_by action) ++ lines) rest)

pub lines_stand : LinesStand
lines_stand base history =
    let actions = actions_of history in
    by-actions base.lines history
    ∙ (sym (absorbed base.lines actions)
    ∙ (ap (λ lines. lines ++ lines_after_refresh [] actions) (not-gone actions base.lines)
    ∙ ap (λ lines. standing actions 0 base.lines ++ lines) (added [] actions)))
