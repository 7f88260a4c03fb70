-- The requests in hand grow and shrink at one end.
use Rattle.std.proofs.Common.{◌≡◌, ℕ, List, [], ◌∷◌, ◌++◌, length, ap, ◌∙◌, arith}
use Rattle.std.proofs.lemmas.List.{length_push}
use Rattle.history_core.specs.Events.{Questions}
use Rattle.history_core.specs.Events as event
use Rattle.ssb_server.specs.Hand.{Hand}
use Rattle.ssb_server.specs.Deeds as deeds

abbrev pub with_one : Hand → ℕ → Questions → Hand
with_one hand client questions = record {
  clients = hand.clients ++ client ∷ [];
  requests = hand.requests
      ++ questions ∷ [];
}

pub not_empty : {X : Type 0} (xs : List X) (x : X) → xs ++ x ∷ [] ≡ [] → ⊥
not_empty xs x e = let n : length (xs ++ x ∷ []) ≡ 0 = ap length e in omega (arith, length_push xs x)
