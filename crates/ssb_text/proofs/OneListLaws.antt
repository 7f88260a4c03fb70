-- The records of a text are one list, which begins with any records that the text begins with.
use Rattle.std.proofs.Common.{◌≡◌, ℕ, List, [], ◌∷◌, ◌++◌, None, refl, sym, ap, ◌∙◌, subst}
use Rattle.std.proofs.lemmas.Option.{none-some, same_Some}
use Rattle.csv.specs.Machine.{Read, next_record}
use Rattle.csv.specs.Reading.{Reached, strip_bom}
use Rattle.csv.specs.declared.parser.Config.{Config}
use Rattle.csv.specs.declared.parser.State.{State}
use Rattle.csv.specs.declared.parser.State.TheVariants as st
use Rattle.ssb_text.specs.Records.{BeginsWith, HasRecords, record_config}

one_list : (cfg : Config) (s s1 s2 : State) (text ys zs : List ℕ) (one other : List (List (List ℕ)))
    → Reached cfg s text one s1 ys → next_record cfg s1 [] [] ys ≡ None → Reached cfg s text other s2 zs
    → next_record cfg s2 [] [] zs ≡ None → one ≡ other
unfolding Reached
one_list cfg s s1 s2 text ys zs [] [] a enda b endb = refl
one_list cfg s s1 s2 text ys zs [] (r ∷ other) a enda b endb =
    let none : next_record cfg s [] [] text ≡ None = rw (a.0, a.1) enda in
    absurd (none-some b.0 (sym none ∙ b.1))
one_list cfg s s1 s2 text ys zs (r ∷ one) [] a enda b endb =
    let none : next_record cfg s [] [] text ≡ None = rw (b.0, b.1) endb in
    absurd (none-some a.0 (sym none ∙ a.1))
one_list cfg s s1 s2 text ys zs (r ∷ one) (q ∷ other) a enda b endb =
    let same : a.0 ≡ b.0 = same_Some a.0 b.0 (sym a.1 ∙ b.1) in
    let Rest : Read → Type 0 = λ p. Reached cfg p.1 p.2 other s2 zs in
    let first : r ≡ q = a.2 ∙ (ap (λ p. p.0) same ∙ sym b.2) in
    let later : one ≡ other = one_list cfg a.0.1 s1 s2 a.0.2 ys zs one other a.3 enda (subst Rest (sym same) b.3) endb
    in
    rw (first, later) refl

pub one_records : (text : List ℕ) (one other : List (List (List ℕ))) → HasRecords text one → HasRecords text other
    → one ≡ other
one_records text one other a b =
    one_list record_config st.StartRecord a.0 b.0 (strip_bom text) a.1 b.1 one other a.2 a.3 b.2 b.3

-- the records of a text begin with any that it begins with
begins-all : (cfg : Config) (s s1 s2 : State) (text ys zs : List ℕ) (front all : List (List (List ℕ)))
    → Reached cfg s text front s1 ys → Reached cfg s text all s2 zs → next_record cfg s2 [] [] zs ≡ None
    → (more : List (List (List ℕ))) × (all ≡ front ++ more)
unfolding Reached
begins-all cfg s s1 s2 text ys zs [] all a b end = (all, refl)
begins-all cfg s s1 s2 text ys zs (r ∷ front) [] a b end =
    let none : next_record cfg s [] [] text ≡ None = rw (b.0, b.1) end in
    absurd (none-some a.0 (sym none ∙ a.1))
begins-all cfg s s1 s2 text ys zs (r ∷ front) (q ∷ all) a b end =
    let same : a.0 ≡ b.0 = same_Some a.0 b.0 (sym a.1 ∙ b.1) in
    let Rest : Read → Type 0 = λ p. Reached cfg p.1 p.2 all s2 zs in
    let first : q ≡ r = b.2 ∙ (ap (λ p. p.0) (sym same) ∙ sym a.2) in
    let later = begins-all cfg a.0.1 s1 s2 a.0.2 ys zs front all a.3 (subst Rest (sym same) b.3) end in
    (later.0, ap (λ x. x ∷ all) first ∙ ap (λ xs. r ∷ xs) later.1)

pub text_begins : (text : List ℕ) (front all : List (List (List ℕ))) → BeginsWith text front → HasRecords text all
    → (more : List (List (List ℕ))) × (all ≡ front ++ more)
text_begins text front all a b =
    begins-all record_config st.StartRecord a.0 b.0 (strip_bom text) a.1 b.1 front all a.2 b.2 b.3
