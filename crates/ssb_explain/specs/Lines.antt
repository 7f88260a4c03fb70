-- Which lines a statement reads: those of the table of lines, or those that are live after some commits, by the table of
-- signed lines.
use Rattle.std.specs.Prelude.{ℕ, List, [], ◌∷◌, codes, decimal}
use Rattle.std.specs.List.{concat}
use Rattle.ssb_explain.specs.declared.lines.ReadLines.{ReadLines}
use Rattle.ssb_explain.specs.declared.lines.ReadLines.TheVariants.{Lineorder, AsOf}

-- the table
abbrev pub lines_table : ReadLines → List ℕ
lines_table Lineorder = codes "lineorder"
lines_table (AsOf commits) = codes "signed_lines"

-- its column of signs
abbrev pub sign_names : ReadLines → List (List ℕ)
sign_names Lineorder = []
sign_names (AsOf commits) = codes "sign" ∷ []

-- of signed lines those of the first commits count
abbrev pub commit_conditions : ReadLines → List (List ℕ)
commit_conditions Lineorder = []
commit_conditions (AsOf commits) = concat (codes "commit_number <= " ∷ decimal commits ∷ []) ∷ []

-- and groups whose signs add up to none have no lines
abbrev pub having : ReadLines → List ℕ
having Lineorder = []
having (AsOf commits) = codes "\nHAVING sum(sign) > 0"
