-- What goes over the wire between a session and its client.
use Rattle.std.specs.Prelude.{ℕ, max, List, [], ◌∷◌, Option}

-- the session looks for more, with these bytes at hand, and may wait for its client; it takes these bytes of what the
-- client wrote; it passes a text on, all of it or a beginning, with evidence of so many commits in hand
pub data Event : Type 0 where
  Looks : List ℕ → Event
  Takes : List ℕ → Event
  Passes : List ℕ → ℕ → Event

-- of how many commits there was evidence at most
abbrev pub most_covered : List Event → ℕ
most_covered [] = 0
most_covered (Looks at_hand ∷ earlier) = most_covered earlier
most_covered (Takes bytes ∷ earlier) = most_covered earlier
most_covered (Passes text covered ∷ earlier) = max covered (most_covered earlier)

-- a wire, as contracts see it: what of the client's bytes is at hand, those that are still to be taken and those that were
-- written, where they are known, and what went over it, the newest first
pub record WireRecord : Type 0 where
  pub at_hand : List ℕ
  pub unread : Option (List ℕ)
  pub written : Option (List ℕ)
  pub events : List Event
