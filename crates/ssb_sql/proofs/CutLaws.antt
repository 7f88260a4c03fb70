-- Texts, cut at marks and behind gaps.
use Rattle.std.proofs.Common.{◌≡◌, ◌∙◌, ap, refl, sym, arith, ℕ, zero, suc, ◌+◌, ◌-◌, ◌<◌, ◌≤◌, ◌≢◌}
use Rattle.std.proofs.Common.{eqb, cond, List, [], ◌∷◌, ◌++◌, Bor, eq-eqb}
use Rattle.std.proofs.Common.{Option, None, Some, option_map, unwrap_or, MatchOption}
use Rattle.std.proofs.lemmas.Bool.{eqb-true, cond_both}
use Rattle.std.specs.Str.Pattern.{FindsTextPrefix, StripsPrefix}
use Rattle.ssb_sql.specs.Parts.{before_last, behind, behind_gap, behind_gaps}

-- ---- behind a mark

behind_both : (mark rest : List ℕ) → behind mark (mark ++ rest) ≡ Some rest
behind_both [] rest = refl
behind_both (m ∷ mark) rest =
    ap (λ d. cond d (behind mark (mark ++ rest)) None) (eq-eqb m m refl) ∙ behind_both mark rest

behind_none : (mark text : List ℕ) → ((rest : List ℕ) → text ≢ mark ++ rest) → behind mark text ≡ None
behind_none [] text other = absurd (other text refl)
behind_none (m ∷ mark) [] other = refl
behind_none (m ∷ mark) (b ∷ text) other =
    cond_both (eqb b m) (behind mark text) None (λ o. o ≡ None)
    (λ is. behind_none mark text (λ rest same. other rest (let first = eqb-true b m is in cc)))
    (λ is. refl)

pub behind_from : (mark text : List ℕ) (r : Option (Bor (List ℕ)))
    → MatchOption r (FindsTextPrefix mark text None) (λ x. StripsPrefix (FindsTextPrefix mark) text x.now)
    → option_map (λ x. x.now) r ≡ behind mark text
behind_from mark text None other = sym (behind_none mark text other)
behind_from mark text (Some x) strips =
    let whole : text ≡ mark ++ x.now = strips.1.1 ∙ ap (λ rest. mark ++ rest) (sym strips.2) in
    sym (ap (behind mark) whole ∙ behind_both mark x.now)

-- ---- before a last byte

before_both : (byte : ℕ) (front : List ℕ) → before_last byte (front ++ byte ∷ []) ≡ Some front
before_both byte [] = ap (λ d. cond d (Some []) None) (eq-eqb byte byte refl)
before_both byte (f ∷ []) =
    ap (λ d. option_map (λ before. f ∷ before) (cond d (Some []) None)) (eq-eqb byte byte refl)
before_both byte (f ∷ g ∷ front) = ap (option_map (λ before. f ∷ before)) (before_both byte (g ∷ front))

before_none : (byte : ℕ) (text : List ℕ) → ((front : List ℕ) → text ≢ front ++ byte ∷ []) → before_last byte text ≡ None
before_none byte [] other = refl
before_none byte (b ∷ []) other =
    cond_both (eqb b byte) (Some []) None (λ o. o ≡ None)
    (λ is. absurd (other [] (ap (λ x. x ∷ []) (eqb-true b byte is)))) (λ is. refl)
before_none byte (b ∷ c ∷ text) other =
    ap (option_map (λ before. b ∷ before))
    (before_none byte (c ∷ text) (λ front same. other (b ∷ front) (ap (λ rest. b ∷ rest) same)))

pub before_from : (byte : ℕ) (text : List ℕ) (r : Option (Bor (List ℕ)))
    → MatchOption r ((front : List ℕ) → text ≢ front ++ (byte ∷ [])) (λ x. text ≡ x.now ++ (byte ∷ []))
    → option_map (λ x. x.now) r ≡ before_last byte text
before_from byte text None other = sym (before_none byte text other)
before_from byte text (Some x) whole = sym (ap (before_last byte) whole ∙ before_both byte x.now)

-- ---- behind gaps

pub gaps_more : (n i : ℕ) (behind rest whole : List ℕ) → i < n → behind_gap behind ≡ Some rest
    → behind_gaps (n - i) behind ≡ whole → behind_gaps (n - (i + 1)) rest ≡ whole
gaps_more n i behind rest whole within gap told =
    let one : suc (n - (i + 1)) ≡ n - i = omega arith in
    sym (ap (λ o. unwrap_or (option_map (behind_gaps (n - (i + 1))) o) behind) gap)
    ∙ (ap (λ k. behind_gaps k behind) one ∙ told)

gaps_stop : (k : ℕ) (behind : List ℕ) → behind_gap behind ≡ None → behind_gaps k behind ≡ behind
gaps_stop zero behind none = refl
gaps_stop (suc k) behind none = ap (λ o. unwrap_or (option_map (behind_gaps k) o) behind) none

pub gaps_none : (n i : ℕ) (behind whole : List ℕ) → behind_gap behind ≡ None
    → behind_gaps (n - i) behind ≡ whole → behind ≡ whole
gaps_none n i behind whole none told = sym (gaps_stop (n - i) behind none) ∙ told

pub gaps_end : (n i : ℕ) (behind whole : List ℕ) → n ≤ i → behind_gaps (n - i) behind ≡ whole → behind ≡ whole
gaps_end n i behind whole past told =
    let all : zero ≡ n - i = omega arith in ap (λ k. behind_gaps k behind) all ∙ told
