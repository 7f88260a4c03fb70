use Rattle.std.proofs.Common.{◌≡◌, ℕ, List, [], ◌∷◌, map, drop, refl, sym, ◌∙◌, ap}
use Rattle.ssb_journal.specs.Seals.{sealed}
use Rattle.ssb_journal.proofs.SealLaws.{drop-sealed}
use Rattle.ssb_journal.proofs.laws.one_list_of_texts.Goals as goal

-- the texts of sealed ones
opened : (texts : List (List ℕ)) → map (drop 33) (map sealed texts) ≡ texts
opened [] = refl
opened (text ∷ texts) = ap (λ t. t ∷ map (drop 33) (map sealed texts)) (drop-sealed text) ∙ ap (λ ts. text ∷ ts) (opened texts)

pub returns : goal.returns
returns c marks file texts others one other =
    sym (opened texts) ∙ ap (λ (groups : List (List ℕ)). map (drop 33) (drop 1 groups)) (sym one.1 ∙ other.1) ∙ opened others
