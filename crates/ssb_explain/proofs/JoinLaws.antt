-- One join within the next.
use Rattle.std.proofs.Common.{◌≡◌, ℕ, List, [], ◌∷◌, ◌++◌, refl}
use Rattle.ssb_schema.specs.declared.table.Table.{Table}
use Rattle.ssb_questions.specs.declared.plan.Plan.{Plan}
use Rattle.ssb_explain.specs.Joins.{joined_from, names_on, next_rows}
use Rattle.ssb_explain.specs.declared.lines.ReadLines.{ReadLines}

pub one_within : (lines : ReadLines) (plan : Plan) (rows tested : List ℕ) (columns : List (List ℕ)) (t next : Table) (outer all : List Table)
    (made held : List ℕ) (named : List (List ℕ)) → all ≡ next ∷ outer → made ≡ next_rows lines plan rows tested columns t all
    → held ≡ [] → named ≡ columns ++ names_on plan t
    → joined_from lines plan made held named next outer ≡ joined_from lines plan rows tested columns t all
one_within lines plan rows tested columns t next outer all made held named is text none names =
    rw (is, text, none, names, is) refl
