-- What holds of every run of a store.
use Rattle.std.specs.Prelude.{◌≡◌, ◌≤◌, List, [], ◌∷◌, ◌++◌, take}
use Rattle.store_core.specs.Found.{Store, Found, Finds, IsBeginning}
use Rattle.store_core.specs.World.{World, Step, new_world, MayLeave, IsAllowed, after}

-- each of these steps may be made, one after another
abbrev pub IsRun : {T C : Type 0} → (T → C → T) → World T C → List (Step T C) → Type 0
IsRun next w [] = Unit {0}
IsRun next w (step ∷ steps) = IsAllowed next w step × IsRun next (after w step) steps

abbrev pub after_all : {T C : Type 0} → World T C → List (Step T C) → World T C
after_all w [] = w
after_all w (step ∷ steps) = after_all (after w step) steps

-- after any run of a new store, whatever a crash leaves, a start finds a beginning of the log, with all that anyone was
-- told of
abbrev pub NothingToldIsLost : {T C : Type 0} → (T → C → T) → Type 0
NothingToldIsLost {T} {C} next = (first : T) (steps : List (Step T C)) → IsRun next (new_world first) steps
    → (left : Store T C) → MayLeave (after_all (new_world first) steps) left
    → (found : Found T C) × Finds left found
    × IsBeginning next first (after_all (new_world first) steps).log (after_all (new_world first) steps).told found

-- a start finds one thing only
abbrev pub OneStart : {T C : Type 0} → Store T C → Type 0
OneStart {T} {C} store = (found other : Found T C) → Finds store found → Finds store other → found ≡ other

-- what was told at some moment of a run stays in the log, whatever crashes and starts come later
abbrev pub WhatIsToldStays : {T C : Type 0} → (T → C → T) → Type 0
WhatIsToldStays {T} {C} next = (first : T) (steps later : List (Step T C))
    → IsRun next (new_world first) (steps ++ later)
    → let w = after_all (new_world first) steps in let v = after_all w later in
    (w.told ≤ v.told) × (take w.told v.log ≡ take w.told w.log)
