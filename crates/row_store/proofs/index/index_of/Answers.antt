use Rattle.std.proofs.Common.{rules, ◌≡◌, ◌<◌, All, length, sym, ap, ◌∙◌, subst}
use Rattle.std.specs.List.{range_with_len}
use Rattle.std.proofs.lemmas.Fn.{always_returns_same}
use Rattle.std.proofs.lemmas.List.Sorted.{All-permutation, IsNonDecreasingBy-from_sort_by_key}
use Rattle.std.proofs.lemmas.List.FromFn.{length-range_with_len}
use Rattle.row_store.specs.Lines.{lines_of}
use Rattle.row_store.specs.Keyed.{key_at, lines_at}
use Rattle.row_store.proofs.IndexedLaws.{all_in_order, all_within, same_lines}
use Rattle.row_store.proofs.index.index_of.Goals as goal

pub returns-clause-within : goal.returns-clause-within
returns-clause-within c =
    let collected : c.in_ok-index.index.items ≡ range_with_len 0 (length c.args.lines.now) = search rules in
    All-permutation (λ i. i < length c.args.lines.now) c.in_ok-index.index.items c.sort_by_key.new.self.items
    c.sort_by_key.ensures.permutation
    (subst (All (λ i. i < length c.args.lines.now)) (sym collected) (all_within (length c.args.lines.now)))

pub returns-clause-sorted : goal.returns-clause-sorted
returns-clause-sorted c =
    IsNonDecreasingBy-from_sort_by_key (key_at c.args.lines.now) c.sort_by_key.new.self.items
    c.in_ok-sort_by_key.ensures.sorted (λ a r f' k. search rules)

pub returns-clause-same : goal.returns-clause-same
returns-clause-same c key =
    let collected : c.in_ok-index.index.items ≡ range_with_len 0 (length c.args.lines.now) = search rules in
    let inside : All (λ i. i < length c.args.lines.now) c.in_ok-index.index.items =
    subst (All (λ i. i < length c.args.lines.now)) (sym collected) (all_within (length c.args.lines.now)) in
    same_lines c.args.lines.now key c.in_ok-index.index.items c.sort_by_key.new.self.items inside
    c.sort_by_key.ensures.permutation
    (c.sort_by_key.ensures.stable (key_at c.args.lines.now)
    (always_returns_same _ (λ a r. r ≡ key_at c.args.lines.now a.0.now) _ (λ a r f' k. search rules)))
    ∙ ap (λ i. lines_of key (lines_at c.args.lines.now i)) collected ∙ ap (lines_of key) (all_in_order c.args.lines.now)

pub returns-clause-len : goal.returns-clause-len
returns-clause-len c =
    let collected : c.in_ok-index.index.items ≡ range_with_len 0 (length c.args.lines.now) = search rules in
    let sorted : length c.sort_by_key.new.self.items ≡ length c.in_ok-index.index.items = search rules in
    sorted ∙ ap length collected ∙ length-range_with_len 0 (length c.args.lines.now)
