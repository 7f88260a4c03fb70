-- What the number of commits of an entered copy tells.
use Rattle.std.proofs.Common.{◌≡◌, length, sym, ap, ◌∙◌}
use Rattle.row_store.specs.State.{state_of}
use Rattle.twin_cell.specs.Laws.{ToldNumberIsToldList}
use Rattle.row_store.proofs.PrefixLaws.{as_long_is_the_whole}

pub told_number_is_told_list : ToldNumberIsToldList
told_number_is_told_list state list told stands begins counted =
    let long : length told ≡ length list = sym counted ∙ ap (λ s. s.commits) stands in
    stands ∙ ap (state_of state.base) (sym (as_long_is_the_whole told list begins long))
