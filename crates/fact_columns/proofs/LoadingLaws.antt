-- The loaded lines in their places.
use Rattle.std.proofs.Common.{◌≡◌, ℕ, ◌<◌, true, cond, List, [], ◌∷◌, length, map, get_or, Some, zero, suc, sym}
use Rattle.std.proofs.Common.{refl, ap, ◌∙◌, arith}
use Rattle.std.specs.List.{All, filter}
use Rattle.std.proofs.lemmas.Option.{cond_some}
use Rattle.ssb_base.specs.Base.{Dimensions}
use Rattle.ssb_schema.specs.declared.fact.Fact.{Fact}
use Rattle.ssb_schema.specs.declared.line.LineFields.{LineFields}
use Rattle.ssb_schema.specs.Facts.{facts_of}
use Rattle.fact_columns.specs.declared.place.Place.{Place}
use Rattle.fact_columns.specs.Places.{fact_at, is_live, live_facts}
use Rattle.fact_columns.specs.Spans.{live_at, live_count}
use Rattle.fact_columns.specs.Coded.{AreCodesOf}
use Rattle.fact_columns.proofs.CodingLaws.{codes_length}

all_live : (places : List Place) → All (λ place. is_live place ≡ true) places → filter is_live places ≡ places
all_live [] lives = refl
all_live (place ∷ places) lives =
    ap (λ b. cond b (place ∷ filter is_live places) (filter is_live places)) (lives 0 place (omega arith))
    ∙ ap (λ l. place ∷ l) (all_live places (λ i d within. lives (suc i) d (omega (arith, within))))

-- the live facts are those that the places are codes of
pub loaded_facts : (dimensions : Dimensions) (facts : List Fact) (places : List Place)
    → AreCodesOf dimensions facts places → live_facts dimensions places ≡ facts
loaded_facts dimensions facts places codes = ap (map (fact_at dimensions)) (all_live places codes.lives) ∙ codes.read

-- and each place is counted
pub loaded_count : (dimensions : Dimensions) (facts : List Fact) (places : List Place)
    → AreCodesOf dimensions facts places → live_count places ≡ length facts
loaded_count dimensions facts places codes = ap length (all_live places codes.lives)
    ∙ codes_length dimensions facts places codes

pub live_read : (places : List Place) (i : ℕ) (place d : Place) → live_at places i ≡ Some place → get_or places i d ≡ place
live_read [] i place d live = absurd (cc)
live_read (first ∷ places) zero place d live = (cond_some (is_live first) first place live).1
live_read (first ∷ places) (suc i) place d live = live_read places i place d live

pub order_read : (dimensions : Dimensions) (lines : List LineFields) (places : List Place) (i : ℕ) (line : LineFields)
    (place : Place) → map (fact_at dimensions) places ≡ facts_of lines → i < length places
    → (get_or lines i line).order_key ≡ (get_or places i place).order
order_read dimensions lines [] i line place same within = absurd (omega (arith, within))
order_read dimensions [] (first ∷ places) i line place same within = absurd (cc)
order_read dimensions (own ∷ lines) (first ∷ places) zero line place same within =
    sym (ap (λ (f : Fact). f.order_key) (head same))
  where
    head : {a b : Fact} {xs ys : List Fact} → a ∷ xs ≡ b ∷ ys → a ≡ b
    head e = cc
order_read dimensions (own ∷ lines) (first ∷ places) (suc i) line place same within =
    order_read dimensions lines places i line place (rest same) (omega (arith, within))
  where
    rest : {a b : Fact} {xs ys : List Fact} → a ∷ xs ≡ b ∷ ys → xs ≡ ys
    rest e = cc
