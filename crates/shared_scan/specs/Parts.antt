-- What the codes of a question's group columns add to the number of a group.
use Rattle.std.specs.Prelude.{ℕ, ◌≤◌, ◌^◌, List}
use Rattle.shared_scan.specs.declared.parts.Parts.{Parts}
use Rattle.shared_scan.specs.declared.parts.Parts.TheVariants.{Narrow, Wide}

-- by group column, what each code adds
abbrev pub parts_in : Parts → List (List ℕ)
parts_in (Narrow parts) = parts.items
parts_in (Wide parts) = parts.items

-- how many groups a question may have at most, that a number is kept for each of them
abbrev pub most_dense : ℕ
most_dense = 65536

-- where a number is kept for each group, there are few
abbrev pub IsFew : Parts → ℕ → Type 0
IsFew (Narrow parts) size = size ≤ 2 ^ 32
IsFew (Wide parts) size = Unit {0}
