-- What applying a refresh changes, apart from who has seen it and who holds the row store.
use Rattle.std.specs.Prelude.{ℕ, ◌+◌, List, [], ◌∷◌, ◌++◌, length, Option, Some, None}
use Rattle.ssb_schema.specs.declared.refresh.Action.{Action}
use Rattle.row_store.specs.Refusals.{refusal_of}
use Rattle.row_store.specs.declared.refusal.Refusal.{Refusal}
use Rattle.history_core.specs.declared.event.EventReply.{EventReply}
use Rattle.history_core.specs.declared.event.EventReply.TheVariants.{Committed, Refused}
use Rattle.history_core.specs.World.{World, commit_by, with_client}

-- the history has one commit more, which is among those of its client
abbrev pub grown : World → ℕ → List Action → World
grown w number actions =
    let commit = commit_by number actions in
    with_client record w { history = w.history ++ commit ∷ [] } number (λ c. record c { mine = c.mine ++ commit ∷ [] })

abbrev pub applying : World → ℕ → List Action → Option Refusal → World × EventReply
applying w number actions None = (grown w number actions, Committed (length w.history + 1))
applying w number actions (Some refusal) = (w, Refused (length w.history) refusal.action refusal.cause)

abbrev pub applied : World → ℕ → List Action → World × EventReply
applied w number actions = applying w number actions (refusal_of w.base w.history actions)
