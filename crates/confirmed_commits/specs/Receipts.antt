-- What a second server tells of its disk.
use Rattle.std.specs.Prelude.{◌≡◌, ◌≤◌, ℕ, List, ◌++◌, All, codes, decimal}
use Rattle.confirmed_commits.specs.declared.confirmed.Confirmed.{Confirmed}

-- a line, without its end, is the receipt of a commit
abbrev pub IsReceipt : List ℕ → ℕ → Type 0
IsReceipt line number = line ≡ codes "committed " ++ decimal number

-- each of these, one of each second server, is of so many commits or more
abbrev pub AllHave : List Confirmed → ℕ → Type 0
AllHave told commits = All (λ one. commits ≤ one.commits) told
