-- The bytes of a file that was read part by part, and the calls on it.
use Rattle.std.specs.Prelude.{ℕ, List, [], ◌∷◌, ◌++◌, Vec}
use Rattle.std.specs.List.{flat_map}
use Rattle.std.specs.declared.alloc.Global.{Global}
use Rattle.journal.specs.Calls.{Call, Keeps, opened, promised_after}

-- the bytes of these parts
abbrev pub bytes_of : List (Vec ℕ Global) → List ℕ
bytes_of parts = flat_map (λ part. part.items) parts

-- the calls on a file that held these parts at first
abbrev pub calls_on : List (Vec ℕ Global) → List Call → List Call
calls_on first calls = calls ++ opened (bytes_of first) ∷ []

-- no crash after these calls on such a file breaks a promise
abbrev pub KeepsPromises : List (Vec ℕ Global) → List Call → Type 0
KeepsPromises first calls = Keeps (calls_on first calls) (promised_after (calls_on first calls))
