use Rattle.std.proofs.Common.{ℕ, List, [], ◌∷◌, ◌++◌, ◌∙◌, ap, append_assoc}
use Rattle.journal.specs.Groups.{digits, head}
use Rattle.journal.proofs.groups.push_head.Goals as goal

pub returns : goal.returns
unfolding head
returns c =
    let out = c.args.out.now.items in
    c.in_ok-push-2.ensures.items ∙ ap (λ (l : List ℕ). l ++ 10 ∷ []) (c.in_ok-push_digits.ensures ∙ ap (λ (l : List ℕ). l ++ digits 15 c.args.len) c.in_ok-push.ensures.items)
    ∙ append_assoc (out ++ 32 ∷ []) (digits 15 c.args.len) (10 ∷ []) ∙ append_assoc out (32 ∷ []) (digits 15 c.args.len ++ 10 ∷ [])
