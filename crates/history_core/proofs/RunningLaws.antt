-- A run by one event more.
use Rattle.std.proofs.Common.{◌≡◌, ℕ, zero, suc, ◌+◌, ◌<◌, ◌≤◌, List, [], ◌∷◌, ◌++◌, length}
use Rattle.std.proofs.Common.{take, slice_index_or, refl, ap, sym, subst, ◌∙◌, arith}
use Rattle.std.proofs.Math.Seq.{take-suc}
use Rattle.std.proofs.lemmas.List.{map-append}
use Rattle.std.specs.Prelude.{map}
use Rattle.history_core.specs.declared.event.EventReply.{EventReply}
use Rattle.history_core.specs.declared.event.Event.{Event as Given}
use Rattle.history_core.specs.Events.{Event, event_of}
use Rattle.history_core.specs.World.{World, step_of, run_of, opening_world}
use Rattle.history_core.specs.OwnCommits.{OwnCommits}
use Rattle.history_core.specs.TrueRun.{IsTrueRun}
use Rattle.history_core.specs.Runs.{HasRun, IsTrueFromOpening}
use Rattle.history_core.proofs.MoveLaws.{every_run}

replies_push : (w : World) (es : List Event) (e : Event)
    → (run_of w (es ++ e ∷ [])).0 ≡ (run_of w es).0 ++ (step_of (run_of w es).1 e).1 ∷ []
replies_push w [] e = refl
replies_push w (x ∷ xs) e = ap (λ l. (step_of w x).1 ∷ l) (replies_push (step_of w x).0 xs e)

world_push : (w : World) (es : List Event) (e : Event) → (run_of w (es ++ e ∷ [])).1 ≡ (step_of (run_of w es).1 e).0
world_push w [] e = refl
world_push w (x ∷ xs) e = world_push (step_of w x).0 xs e

pub run_push : (w : World) (es : List Event) (e : Event) (replies : List EventReply) (now after : World)
    (reply : EventReply)
    → HasRun w es replies now → step_of now e ≡ (after, reply) → HasRun w (es ++ e ∷ []) (replies ++ reply ∷ []) after
run_push w es e replies now after reply has step = grind (arith, replies_push, world_push)

-- a run over the first events, by the next
pub run_next : (w : World) (es : List Given) (i : ℕ) (replies : List EventReply) (now after : World)
    (reply : EventReply) (d : Given) → i < length es → HasRun w (map event_of (take i es)) replies now
    → step_of now (event_of (slice_index_or es i d)) ≡ (after, reply)
    → HasRun w (map event_of (take (i + 1) es)) (replies ++ reply ∷ []) after
run_next w es i replies now after reply d low has step = let next : suc i ≡ i + 1 = omega arith in
    let x = slice_index_or es i d in
    let longer : map event_of (take i es) ++ event_of x ∷ [] ≡ map event_of (take (i + 1) es) =
    sym (map-append event_of (take i es) (x ∷ []))
    ∙ ap (map event_of) (sym (take-suc es i d low) ∙ ap (λ n. take n es) next) in
    subst (λ l. HasRun w l (replies ++ reply ∷ []) after) longer
    (run_push w (map event_of (take i es)) (event_of x) replies now after reply has step)

pub true_from_opening : (before : World) (events : List Event) (replies : List EventReply) (after : World)
    → HasRun before events replies after → IsTrueFromOpening before events replies after
true_from_opening before events replies after has base clients dispatchers opening =
    let t = every_run base clients dispatchers events in
    let led : (run_of (opening_world base clients dispatchers) events).1 ≡ after =
    ap (λ v. (run_of v events).1) (sym opening) ∙ sym has.led in
    let said : (run_of (opening_world base clients dispatchers) events).0 ≡ replies =
    ap (λ v. (run_of v events).0) (sym opening) ∙ sym has.replied in (
      subst (λ (x : (List EventReply) × World). IsTrueRun base events x.0 x.1.history) (λ i. (said i, led i)) t.0,
      subst (OwnCommits clients) led t.1,
    )

take_full : {A : Type 0} (n : ℕ) (l : List A) → length l ≤ n → take n l ≡ l
take_full zero [] h = refl
take_full zero (x ∷ xs) h = absurd (omega arith)
take_full (suc n) [] h = refl
take_full (suc n) (x ∷ xs) h = ap (λ l. x ∷ l) (take_full n xs (omega arith))

-- the loop is at its end
pub true_at_end : (before : World) (events : List Given) (n : ℕ) (replies : List EventReply) (after : World)
    → length events ≤ n → HasRun before (map event_of (take n events)) replies after
    → IsTrueFromOpening before (map event_of events) replies after
true_at_end before events n replies after long has =
    true_from_opening before (map event_of events) replies after
    (subst (λ l. HasRun before (map event_of l) replies after) (take_full n events long) has)

-- it stopped before a step
pub true_before : (before : World) (events : List Given) (n index : ℕ) (replies : List EventReply) (now after : World)
    → n ≡ index → after ≡ now → HasRun before (map event_of (take index events)) replies now
    → IsTrueFromOpening before (map event_of (take n events)) replies after
true_before before events n index replies now after same unchanged has =
    true_from_opening before (map event_of (take n events)) replies after
    (subst (λ (x : ℕ × World). HasRun before (map event_of (take x.0 events)) replies x.1)
    (λ i. (sym same i, sym unchanged i)) has)
