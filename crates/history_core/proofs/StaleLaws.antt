-- A run whose rows are older than their grab is no true run.
use Rattle.std.proofs.Common.{◌≡◌, ℕ, zero, suc, ◌≤◌, List, [], ◌∷◌, Some, refl, sym, subst, arith}
use Rattle.ssb_schema.specs.declared.refresh.Action.{Action}
use Rattle.ssb_base.specs.Base.{Tables}
use Rattle.ssb_answers.specs.declared.answer.ResultRow.{ResultRow}
use Rattle.history_core.specs.declared.event.Who.TheVariants.{Client}
use Rattle.history_core.specs.declared.event.EventReply.{EventReply}
use Rattle.history_core.specs.declared.event.EventReply.TheVariants.{Done, Committed, Asked as Asks, Rows}
use Rattle.history_core.specs.Events.{Questions, Event, TakeRows, PutRows, Post, Grab, Answer, Collect}
use Rattle.history_core.specs.World.{commit_by}
use Rattle.history_core.specs.TrueRun.{Happens, commits_before, Outstanding, IsTrueRun}
use Rattle.history_core.proofs.HistoryLaws.{some_injective, some_ne_none}

module _ (base : Tables) (actions : List Action) (questions : Questions) (rows : List (List ResultRow)) where
  abbrev events : List Event
  events =
      TakeRows (Client 1) ∷ PutRows (Client 1) (Some actions) ∷ Post 1 questions ∷ Grab 1 1 ∷ Answer 1 1 ∷ Collect 1 ∷ []

  abbrev replies : List EventReply
  replies = Done ∷ Committed 1 ∷ Done ∷ Asks questions ∷ Done ∷ Rows questions 0 rows ∷ []

  no_grab : (place dispatcher : ℕ) → Happens events replies place (Grab dispatcher 1) (Asks questions)
      → commits_before replies place ≤ 0 → ⊥
  no_grab zero d h low = cc (some_injective _ _ h.0)
  no_grab (suc zero) d h low = cc (some_injective _ _ h.0)
  no_grab (suc (suc zero)) d h low = cc (some_injective _ _ h.0)
  no_grab (suc (suc (suc zero))) d h low = omega arith
  no_grab (suc (suc (suc (suc zero)))) d h low = cc (some_injective _ _ h.0)
  no_grab (suc (suc (suc (suc (suc zero))))) d h low = cc (some_injective _ _ h.0)
  no_grab (suc (suc (suc (suc (suc (suc n)))))) d h low = some_ne_none _ (sym h.0)

  pub stale : IsTrueRun base events replies (commit_by 1 actions ∷ []) → ⊥
  stale true_run =
      let t = true_run.true_replies 5 (Collect 1) (Rows questions 0 rows) (refl, refl) in go (t.0, t.1, t.2, t.3)
    where
      go :
          ((client : ℕ) × (Collect 1 ≡ Collect client) × (request : Outstanding events replies client questions 5)
          × (commits_before replies request.grabbed ≤ 0)) → ⊥
      go t =
          let same : 1 ≡ t.0 = cc t.1 in
          no_grab t.2.grabbed t.2.dispatcher
          (subst (λ n. Happens events replies t.2.grabbed (Grab t.2.dispatcher n) (Asks questions))
          (sym same) t.2.was_grabbed) t.3
