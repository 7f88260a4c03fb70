-- The machine's runs, and what each run from an opening world is.
use Rattle.std.specs.Prelude.{◌≡◌, ℕ, List}
use Rattle.ssb_base.specs.Base.{Tables}
use Rattle.history_core.specs.declared.event.EventReply.{EventReply}
use Rattle.history_core.specs.Events.{Event}
use Rattle.history_core.specs.World.{World, opening_world, run_of}
use Rattle.history_core.specs.OwnCommits.{OwnCommits}
use Rattle.history_core.specs.TrueRun.{IsTrueRun}

-- these events led from one world to the other, with these replies
pub record HasRun (before : World) (events : List Event) (replies : List EventReply) (after : World) : Type 0 where
  pub replied : replies ≡ (run_of before events).0
  pub led : after ≡ (run_of before events).1

-- where the first of these worlds is an opening one, this is a true run, and each client has its own commits at its end
abbrev pub IsTrueFromOpening : World → List Event → List EventReply → World → Type 0
IsTrueFromOpening before events replies after =
    (base : Tables) (clients dispatchers : ℕ) → before ≡ opening_world base clients dispatchers
    → IsTrueRun base events replies after.history × OwnCommits clients after

-- so it is with every run
abbrev pub EveryRunIsTrue : Type 0
EveryRunIsTrue = (base : Tables) (clients dispatchers : ℕ) (events : List Event)
    → IsTrueRun base events (run_of (opening_world base clients dispatchers) events).0
    (run_of (opening_world base clients dispatchers) events).1.history
    × OwnCommits clients (run_of (opening_world base clients dispatchers) events).1
