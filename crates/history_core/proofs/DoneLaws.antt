-- A run in which each event is enabled, by one event more; what each did in it.
use Rattle.std.proofs.Common.{◌≡◌, ◌≢◌, ℕ, Bool, true, false, List, [], ◌∷◌, ◌++◌, refl, ap, sym, subst, ◌∙◌, arith}
use Rattle.std.proofs.lemmas.List.{append-nil, map-append}
use Rattle.std.proofs.lemmas.List.Elements.{filter-append, All-push}
use Rattle.std.proofs.lemmas.Bool.Decides.{nat_tests}
use Rattle.std.specs.Prelude.{filter}
use Rattle.ssb_base.specs.Base.{Tables}
use Rattle.history_core.specs.declared.event.Who.{Who}
use Rattle.history_core.specs.declared.event.Who.TheVariants.{Client, Dispatcher}
use Rattle.history_core.specs.declared.event.EventReply.{EventReply}
use Rattle.history_core.specs.declared.event.EventReply.TheVariants.{NotEnabled}
use Rattle.history_core.specs.Events.{Event}
use Rattle.history_core.specs.World.{World, is_same, step_of, opening_world}
use Rattle.history_core.specs.TrueRun.{IsTrueRun}
use Rattle.history_core.specs.Runs.{HasRun}
use Rattle.history_core.specs.Kept.{WorldKept}
use Rattle.history_core.specs.Deeds.{Deed, events_of, replies_of, actor_of, done_by, HasDone}
use Rattle.history_core.proofs.KeepingLaws.{every_world}
use Rattle.history_core.proofs.RunningLaws.{run_push, true_from_opening}

pub same_self : (who : Who) → is_same who who ≡ true
same_self (Client n) = grind (arith, nat_tests)
same_self (Dispatcher n) = grind (arith, nat_tests)

pub same_apart : (a b : Who) → a ≢ b → is_same a b ≡ false
same_apart (Client n) (Client m) apart = grind (arith, nat_tests)
same_apart (Dispatcher n) (Dispatcher m) apart = grind (arith, nat_tests)
same_apart (Client n) (Dispatcher m) apart = grind arith
same_apart (Dispatcher n) (Client m) apart = grind arith

pub done_none : (before : World) → HasDone before [] before
done_none before = grind arith

pub done_next : (before : World) (deeds : List Deed) (w : World) (event : Event) (reply : EventReply) (after : World)
    → HasDone before deeds w → step_of w event ≡ (after, reply) → reply ≢ NotEnabled
    → HasDone before (deeds ++ record { event = event; reply = reply } ∷ []) after
done_next before deeds w event reply after has step enabled = let last : Deed =
    record { event = event; reply = reply } in record {
      ran = subst (λ (x : List Event × List EventReply). HasRun before x.0 x.1 after)
          (λ i. (
            sym (map-append (λ (d : Deed). d.event) deeds (last ∷ [])) i,
            sym (map-append (λ (d : Deed). d.reply) deeds (last ∷ [])) i,
          ))
          (run_push before (events_of deeds) event (replies_of deeds) w after reply has.ran step);
      enabled = All-push (λ (d : Deed). d.reply ≢ NotEnabled) deeds last has.enabled enabled;
    }

module _ {A : Type 0} (test : A → Bool) (x : A) where
  keeps_one : test x ≡ true → filter test (x ∷ []) ≡ x ∷ []
  keeps_one e = rw e refl

  keeps_none : test x ≡ false → filter test (x ∷ []) ≡ []
  keeps_none e = rw e refl

-- one deed more, of this one or of another
pub did_more : (who : Who) (deeds : List Deed) (d : Deed) → actor_of d.event ≡ who
    → done_by who (deeds ++ d ∷ []) ≡ done_by who deeds ++ d ∷ []
did_more who deeds d is = grind (arith, filter-append, keeps_one, same_self)

pub did_same : (who : Who) (deeds : List Deed) (d : Deed) → actor_of d.event ≢ who
    → done_by who (deeds ++ d ∷ []) ≡ done_by who deeds
did_same who deeds d apart = grind (arith, filter-append, keeps_none, same_apart, append-nil)

-- what such a run leaves, and that it is a true run
module _ (base : Tables) (clients dispatchers : ℕ) (deeds : List Deed) (w : World)
    (has : HasDone (opening_world base clients dispatchers) deeds w) where
  pub done_kept : WorldKept base clients w
  done_kept = subst (WorldKept base clients) (sym has.ran.led)
      (every_world base clients dispatchers (events_of deeds))

  pub done_true : IsTrueRun base (events_of deeds) (replies_of deeds) w.history
  done_true = (true_from_opening (opening_world base clients dispatchers) (events_of deeds) (replies_of deeds) w has.ran
      base clients dispatchers refl).0
