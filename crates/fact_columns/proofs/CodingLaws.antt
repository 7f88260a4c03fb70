-- Lines in codes: one line more, the first ones and the others, and the key of an order's places.
use Rattle.std.proofs.Common.{◌≡◌, ℕ, ◌<◌, ◌≤◌, ◌-◌, true, List, [], ◌∷◌, ◌++◌, length, map, take, drop, get_or}
use Rattle.std.proofs.Common.{zero, suc, sym, refl, ap, ◌∙◌, subst, arith, ◌+◌, append_assoc, append-nil, Result, Ok}
use Rattle.std.specs.List.{All, AllZip, flat_map}
use Rattle.std.specs.declared.alloc.AllocError.{AllocError}
use Rattle.std.proofs.lemmas.List.Concat.{flat_map-append, flat_map-cons}
use Rattle.std.proofs.Math.Seq.{take-add}
use Rattle.std.proofs.lemmas.List.{map_more, length-map, map-append, take-map, drop-map, take_at, drop_at, drop_more}
use Rattle.std.proofs.lemmas.List.{take_more}
use Rattle.std.proofs.lemmas.List.Elements.{All-append, All-push, All-take, All-drop}
use Rattle.ssb_base.specs.Base.{Dimensions}
use Rattle.ssb_schema.specs.declared.fact.Fact.{Fact}
use Rattle.ssb_schema.specs.declared.line.LineFields.{LineFields}
use Rattle.ssb_schema.specs.declared.refresh.Action.{Action}
use Rattle.ssb_schema.specs.Facts.{fact_of, facts_of}
use Rattle.row_store.specs.Lines.{added_by}
use Rattle.fact_columns.specs.declared.place.Place.{Place}
use Rattle.fact_columns.specs.Places.{fact_at, is_live}
use Rattle.fact_columns.specs.Classed.{IsPlaceOf}
use Rattle.fact_columns.specs.Columns.{Held}
use Rattle.fact_columns.specs.Coded.{AreCodesOf, IsCodeOf, IsCoded}

pub some_row : {R : Type 0} (rows : List R) → 0 < length rows → R
some_row [] some = absurd (omega (arith, some))
some_row (row ∷ rows) some = row

-- one line more
pub codes_push : (dimensions : Dimensions) (facts : List Fact) (places : List Place) (fact : Fact) (place : Place)
    → AreCodesOf dimensions facts places → IsCodeOf dimensions fact place
    → AreCodesOf dimensions (facts ++ fact ∷ []) (places ++ place ∷ [])
codes_push dimensions facts places fact place codes code = record {
  read = map-append (fact_at dimensions) places (place ∷ []) ∙ (λ i. codes.read i ++ code.reads i ∷ []);
  lives = All-push (λ p. is_live p ≡ true) places place codes.lives code.live;
  inside = All-push (IsPlaceOf dimensions) places place codes.inside code.within;
}

-- the places of an order have its key
pub codes_own : (dimensions : Dimensions) (order : List LineFields) (lines : List Place) (key : ℕ)
    → AreCodesOf dimensions (facts_of order) lines → All (λ (line : LineFields). line.order_key ≡ key) order
    → All (λ (place : Place). place.order ≡ key) lines
codes_own dimensions order lines key codes alike = each order lines codes.read alike
  where
    each : (order : List LineFields) (lines : List Place) → map (fact_at dimensions) lines ≡ facts_of order
        → All (λ (line : LineFields). line.order_key ≡ key) order → All (λ (place : Place). place.order ≡ key) lines
    each order [] same alike i d within = absurd (omega (arith, within))
    each [] (place ∷ lines) same alike i d within = absurd (cc)
    each (line ∷ order) (place ∷ lines) same alike zero d within =
        ap (λ (f : Fact). f.order_key) (first same) ∙ alike 0 line (omega arith)
      where
        first : {a b : Fact} {xs ys : List Fact} → a ∷ xs ≡ b ∷ ys → a ≡ b
        first e = cc
    each (line ∷ order) (place ∷ lines) same alike (suc i) d within =
        each order lines (rest same) (λ j e lt. alike (suc j) e (omega (arith, lt))) i d (omega (arith, within))
      where
        rest : {a b : Fact} {xs ys : List Fact} → a ∷ xs ≡ b ∷ ys → xs ≡ ys
        rest e = cc

-- as many places as facts
pub codes_length : (dimensions : Dimensions) (facts : List Fact) (places : List Place)
    → AreCodesOf dimensions facts places → length places ≡ length facts
codes_length dimensions facts places codes = sym (length-map places (fact_at dimensions)) ∙ ap length codes.read

-- the places of the first facts
pub codes_take : (dimensions : Dimensions) (facts more : List Fact) (places : List Place)
    → AreCodesOf dimensions (facts ++ more) places → AreCodesOf dimensions facts (take (length facts) places)
codes_take dimensions facts more places codes = record {
  read = sym (take-map (fact_at dimensions) (length facts) places) ∙ ap (take (length facts)) codes.read
      ∙ take_at facts more (length facts) refl;
  lives = All-take (λ p. is_live p ≡ true) (length facts) places codes.lives;
  inside = All-take (IsPlaceOf dimensions) (length facts) places codes.inside;
}

-- and of the others
pub codes_drop : (dimensions : Dimensions) (facts more : List Fact) (places : List Place)
    → AreCodesOf dimensions (facts ++ more) places → AreCodesOf dimensions more (drop (length facts) places)
codes_drop dimensions facts more places codes = record {
  read = sym (drop-map (fact_at dimensions) (length facts) places) ∙ ap (drop (length facts)) codes.read
      ∙ drop_at facts more (length facts) refl;
  lives = All-drop (λ p. is_live p ≡ true) (length facts) places codes.lives;
  inside = All-drop (IsPlaceOf dimensions) (length facts) places codes.inside;
}

-- the next action's lines are cut off the front of those that are left
pub codes_cut : (dimensions : Dimensions) (actions : List Action) (i : ℕ) (action : Action)
    (rest front back : List Place) (n : ℕ) → i < length actions → action ≡ get_or actions i action
    → n ≡ length (added_by action)
    → front ≡ take n rest → back ≡ drop n rest → AreCodesOf dimensions (facts_of (flat_map added_by (drop i actions)))
    rest
    → AreCodesOf dimensions (facts_of (added_by action)) front
    × AreCodesOf dimensions (facts_of (flat_map added_by (drop (i + 1) actions))) back
codes_cut dimensions actions i action rest front back n within is count fronts backs codes =
    let later : List Action = drop (i + 1) actions in
    let next : drop i actions ≡ action ∷ later = drop_more actions i action within ∙ ap (λ a. a ∷ later) (sym is) in
    let facts : List Fact = facts_of (added_by action) in
    let more : List Fact = facts_of (flat_map added_by later) in
    let cut : facts_of (flat_map added_by (drop i actions)) ≡ facts ++ more =
    ap (λ l. facts_of (flat_map added_by l)) next ∙ ap facts_of (flat_map-cons added_by action later)
    ∙ map-append fact_of (added_by action) (flat_map added_by later) in
    let both : AreCodesOf dimensions (facts ++ more) rest = subst (λ f. AreCodesOf dimensions f rest) cut codes in
    let size : length facts ≡ n = length-map (added_by action) fact_of ∙ sym count in (
      subst (AreCodesOf dimensions facts) (ap (λ m. take m rest) size ∙ sym fronts)
          (codes_take dimensions facts more rest both),
      subst (AreCodesOf dimensions more)
          (ap (λ m. drop m rest) size ∙ sym backs) (codes_drop dimensions facts more rest both),
    )

-- the next line is put behind the others
pub codes_more : (dimensions : Dimensions) (before : List Fact) (lines : List LineFields) (i : ℕ) (line : LineFields)
    (places later : List Place) (place : Place) → i < length lines → line ≡ get_or lines i line
    → later ≡ places ++ place ∷ [] → AreCodesOf dimensions (before ++ facts_of (take i lines)) places
    → IsCodeOf dimensions (fact_of line) place → AreCodesOf dimensions (before ++ facts_of (take (i + 1) lines))
    later
codes_more dimensions before lines i line places later place within is longer codes code =
    let done : List Fact = before ++ facts_of (take i lines) in
    let facts : done ++ fact_of line ∷ [] ≡ before ++ facts_of (take (i + 1) lines) =
    append_assoc before (facts_of (take i lines)) (fact_of line ∷ [])
    ∙ ap (λ l. before ++ l) (ap (λ own. facts_of (take i lines) ++ fact_of own ∷ []) is
    ∙ sym (map_more fact_of lines i line within)) in
    subst (λ p. AreCodesOf dimensions (before ++ facts_of (take (i + 1) lines)) p) (sym longer)
    (subst (λ f. AreCodesOf dimensions f (places ++ place ∷ [])) facts
    (codes_push dimensions done places (fact_of line) place codes code))

-- places behind one another
pub codes_append : (dimensions : Dimensions) (facts more : List Fact) (places later : List Place)
    → AreCodesOf dimensions facts places → AreCodesOf dimensions more later
    → AreCodesOf dimensions (facts ++ more) (places ++ later)
codes_append dimensions facts more places later codes behind = record {
  read = map-append (fact_at dimensions) places later ∙ (λ i. codes.read i ++ behind.read i);
  lives = All-append (λ p. is_live p ≡ true) places later codes.lives behind.lives;
  inside = All-append (IsPlaceOf dimensions) places later codes.inside behind.inside;
}

-- the lines that a table is of
piece_at : (dimensions : Dimensions) (pieces : List (List LineFields)) (tables : List (Result Held AllocError)) (i : ℕ)
    (table : Held) → AllZip (IsCoded dimensions) pieces tables → i < length tables
    → Ok table ≡ get_or tables i (Ok table)
    → (piece : List LineFields) × (i < length pieces) × (piece ≡ get_or pieces i piece)
    × AreCodesOf dimensions (facts_of piece) table.places
unfolding IsCoded
piece_at dimensions [] [] i table coded within is = grind arith
piece_at dimensions [] (own ∷ tables) i table coded within is = grind arith
piece_at dimensions (piece ∷ pieces) [] i table coded within is = grind arith
piece_at dimensions (piece ∷ pieces) (own ∷ tables) zero table coded within is = grind arith
piece_at dimensions (piece ∷ pieces) (own ∷ tables) (suc i) table coded within is = grind (arith, piece_at dimensions pieces tables i table coded.1 (omega (arith, within)) is)

-- the facts of the first pieces
abbrev pub facts_until : ℕ → List (List LineFields) → List Fact
facts_until i pieces = facts_of (flat_map (λ piece. piece) (take i pieces))

-- the next table is put behind the others
pub piece_more : (dimensions : Dimensions) (before : List Fact) (pieces : List (List LineFields))
    (tables : List (Result Held AllocError)) (i : ℕ) (table : Held) (places : List Place)
    → AllZip (IsCoded dimensions) pieces tables → i < length tables → Ok table ≡ get_or tables i (Ok table)
    → AreCodesOf dimensions (before ++ facts_until i pieces) places
    → AreCodesOf dimensions (before ++ facts_until (i + 1) pieces) (places ++ table.places)
piece_more dimensions before pieces tables i table places coded within is codes =
    let here = piece_at dimensions pieces tables i table coded within is in
    let piece = here.0 in
    let lines : flat_map (λ p. p) (take (i + 1) pieces) ≡ flat_map (λ p. p) (take i pieces) ++ piece =
    ap (flat_map (λ p. p)) (take_more pieces i piece here.1 ∙ ap (λ p. take i pieces ++ p ∷ []) (sym here.2))
    ∙ flat_map-append (λ p. p) (take i pieces) (piece ∷ [])
    ∙ ap (λ l. flat_map (λ p. p) (take i pieces) ++ l) (append-nil piece) in
    let facts : (before ++ facts_until i pieces) ++ facts_of piece ≡ before ++ facts_until (i + 1) pieces =
    append_assoc before (facts_until i pieces) (facts_of piece)
    ∙ ap (λ l. before ++ l) (sym (map-append fact_of (flat_map (λ p. p) (take i pieces)) piece)
    ∙ ap facts_of (sym lines)) in
    subst (λ f. AreCodesOf dimensions f (places ++ table.places)) facts
    (codes_append dimensions (before ++ facts_until i pieces) (facts_of piece) places table.places codes here.3)

-- there are as many tables as pieces
pub tables_count : (dimensions : Dimensions) (pieces : List (List LineFields)) (tables : List (Result Held AllocError))
    → AllZip (IsCoded dimensions) pieces tables → length pieces ≡ length tables
tables_count dimensions [] [] coded = grind arith
tables_count dimensions [] (table ∷ tables) coded = grind arith
tables_count dimensions (piece ∷ pieces) [] coded = grind arith
tables_count dimensions (piece ∷ pieces) (table ∷ tables) coded = grind (arith, tables_count dimensions pieces tables coded.1)

-- the facts of the first lines, and of those up to a later place
pub batch_facts : (lines : List LineFields) (from to : ℕ) → from ≤ to
    → facts_of (take from lines) ++ facts_of (take (to - from) (drop from lines)) ≡ facts_of (take to lines)
batch_facts lines from to rising =
    let whole : from + (to - from) ≡ to = omega arith in
    sym (map-append fact_of (take from lines) (take (to - from) (drop from lines)))
    ∙ ap facts_of (sym (take-add from (to - from) lines) ∙ ap (λ n. take n lines) whole)
