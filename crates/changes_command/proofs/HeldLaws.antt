-- Which lines an order has, of which some actions of a refresh were made.
use Rattle.std.proofs.Common.{◌≡◌, ℕ, List, [], ◌++◌}
use Rattle.std.proofs.Common.{◌∙◌, Option, Some, None, ap, subst}
use Rattle.std.specs.Borrow.{Bor}
use Rattle.ssb_base.specs.Base.{Tables}
use Rattle.ssb_schema.specs.Orders.{IsOrder, order_key}
use Rattle.ssb_schema.specs.declared.line.LineFields.{LineFields}
use Rattle.ssb_schema.specs.declared.refresh.Action.{Action}
use Rattle.ssb_schema.specs.declared.refresh.Action.TheVariants.{Add, Withdraw}
use Rattle.row_store.proofs.CauseLaws.{new_key}
use Rattle.row_store.proofs.CountedLaws.{lines_gone, lines_kept, lines_more, lines_other}
use Rattle.row_store.proofs.ReplacedLaws.{Replaces, replaced_after}
use Rattle.row_store.specs.Lines.{lines_after_action, lines_of, lines_without}
use Rattle.row_store.specs.Refusals.{cause_of}
use Rattle.changes_command.specs.Held.{IsHeldFrom}

-- what another order has stays as it was
same_held : (key : ℕ) (before : List LineFields) (held : Option (Bor (List LineFields))) (lines after : List LineFields)
    → lines_of key after ≡ lines_of key lines → IsHeldFrom key before held lines → IsHeldFrom key before held after
same_held key before None lines after same is = same ∙ is
same_held key before (Some own) lines after same is = same ∙ is

-- the order has its own lines
pub held_added : (base : Tables) (key : ℕ) (lines order : List LineFields) → IsOrder order → order_key order ≡ key
    → cause_of base lines (Add order) ≡ None → lines_of key (lines_after_action lines (Add order)) ≡ order
held_added base key lines order is same none =
    lines_more key lines order (λ k d h. is.alike k d h ∙ same)
    (subst (λ k. lines_of k lines ≡ []) same (new_key base lines order none))

pub held_replaced : (key : ℕ) (lines : List LineFields) (action : Action) (order : List LineFields)
    → Replaces action order → IsOrder order → order_key order ≡ key
    → lines_of key (lines_after_action lines action) ≡ order
held_replaced key lines action order by is same =
    ap (lines_of key) (replaced_after lines action order by)
    ∙ lines_more key (lines_without (order_key order) lines) order (λ k d h. is.alike k d h ∙ same)
    (lines_gone key (order_key order) lines same)

-- what another order has stays as it was
pub held_beside_added : (key : ℕ) (before : List LineFields) (held : Option (Bor (List LineFields)))
    (lines order : List LineFields) → IsOrder order → (order_key order ≡ key → ⊥) → IsHeldFrom key before held lines
    → IsHeldFrom key before held (lines_after_action lines (Add order))
held_beside_added key before held lines order is apart was =
    same_held key before held lines (lines ++ order) (lines_other key (order_key order) lines order is.alike apart) was

pub held_beside_replaced : (key : ℕ) (before : List LineFields) (held : Option (Bor (List LineFields)))
    (lines : List LineFields) (action : Action) (order : List LineFields) → Replaces action order → IsOrder order
    → (order_key order ≡ key → ⊥) → IsHeldFrom key before held lines
    → IsHeldFrom key before held (lines_after_action lines action)
held_beside_replaced key before held lines action order by is apart was =
    same_held key before held lines (lines_after_action lines action)
    (ap (lines_of key) (replaced_after lines action order by)
    ∙ lines_other key (order_key order) (lines_without (order_key order) lines) order is.alike apart
    ∙ lines_kept key (order_key order) lines apart) was

pub held_beside_withdrawn : (key gone : ℕ) (before : List LineFields) (held : Option (Bor (List LineFields)))
    (lines : List LineFields) → (gone ≡ key → ⊥) → IsHeldFrom key before held lines
    → IsHeldFrom key before held (lines_after_action lines (Withdraw gone))
held_beside_withdrawn key gone before held lines apart was =
    same_held key before held lines (lines_without gone lines) (lines_kept key gone lines apart) was
