-- Steps of a filter, place by place, and the numbers of groups, column by column.
use Rattle.std.proofs.Common.{◌≡◌, ℕ, ◌+◌, ◌%◌, ◌<◌, Bool, cond, List, [], ◌∷◌, ◌++◌, length, get_or, take, ap}
use Rattle.std.proofs.Common.{◌∙◌}
use Rattle.std.specs.List.{filter}
use Rattle.std.proofs.lemmas.List.{take_more}
use Rattle.std.proofs.lemmas.List.Elements.{filter-append}

pub filter_more : (p : ℕ → Bool) (places : List ℕ) (n : ℕ) → n < length places
    → filter p (take (n + 1) places) ≡ filter p (take n places)
    ++ cond (p (get_or places n 0)) (get_or places n 0 ∷ []) []
filter_more p places n below = ap (filter p) (take_more places n 0 below)
    ∙ filter-append p (take n places) (get_or places n 0 ∷ [])
