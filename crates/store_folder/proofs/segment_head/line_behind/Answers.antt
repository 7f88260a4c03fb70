use Rattle.std.proofs.Common.{◌≡◌, ◌∙◌, ◌+◌, ◌∷◌, ◌++◌, [], ℕ, None, Some, ap, drop, rules, sym, take}
use Rattle.std.proofs.lemmas.Bool.Decides.{Decides-eqb}
use Rattle.std.proofs.lemmas.List.{take_rest}
use Rattle.std.proofs.lemmas.Slice.Eq.{strip_prefix_is}
use Rattle.store_folder.proofs.LineLaws.{end_place, line_then, none_is, rest_is, some_is, told_is, value_is}
use Rattle.store_folder.proofs.segment_head.line_behind.Goals as goal

pub returns-in_err-behind : goal.returns-in_err-behind
returns-in_err-behind c = λ value rest one same.
    absurd (strip_prefix_is Decides-eqb c.args.text.now c.args.word.now None c.in_err-behind.ensures.cases
    (124 ∷ (value ++ 10 ∷ rest)) (same ∙ line_then c.args.word.now value rest))

pub returns-in_err-end : goal.returns-in_err-end
returns-in_err-end c = λ value rest one same.
    let parted = strip_prefix_is Decides-eqb c.args.text.now c.args.word.now (Some c.in_ok-behind.behind) c.in_ok-behind.ensures.cases in
    let barred = strip_prefix_is Decides-eqb c.in_ok-behind.behind.now (124 ∷ []) (Some c.in_ok-told.told) c.in_ok-told.ensures.cases in
    let told = told_is c.args.text.now c.args.word.now value rest c.in_ok-behind.behind.now c.in_ok-told.told.now same parted barred in
    let none : c.memchr.result ≡ None = search rules in
    absurd (none_is _ (sym none ∙ end_place value rest c.in_ok-told.told.now one told c.memchr.result c.memchr.ensures))

pub returns : goal.returns
returns c = λ value rest one same.
    let parted = strip_prefix_is Decides-eqb c.args.text.now c.args.word.now (Some c.in_ok-behind.behind) c.in_ok-behind.ensures.cases in
    let barred = strip_prefix_is Decides-eqb c.in_ok-behind.behind.now (124 ∷ []) (Some c.in_ok-told.told) c.in_ok-told.ensures.cases in
    let told = told_is c.args.text.now c.args.word.now value rest c.in_ok-behind.behind.now c.in_ok-told.told.now same parted barred in
    let here : c.memchr.result ≡ Some c.in_ok-end.end = search rules in
    let far = some_is _ _ (sym here ∙ end_place value rest c.in_ok-told.told.now one told c.memchr.result c.memchr.ensures) in (
      ap (λ (n : ℕ). take n c.in_ok-told.told.now) far ∙ value_is value rest c.in_ok-told.told.now one told,
      take_rest c.in_ok-told.told.now (c.in_ok-end.end + 1) ∙ ap (λ (n : ℕ). drop (n + 1) c.in_ok-told.told.now) far
          ∙ rest_is value rest c.in_ok-told.told.now one told,
    )
