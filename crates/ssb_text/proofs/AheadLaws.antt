-- What is known of a text while blocks are read and joined as others are parsed.
use Rattle.std.proofs.Common.{map, ◌≡◌, ◌≤◌, ℕ, List, [], ◌∷◌, ◌++◌, append-nil, append_assoc, length, Option, Some}
use Rattle.std.proofs.Common.{None, refl, sym, ap, ◌∙◌, ◌⊎◌, inl, inr, arith}
use Rattle.std.specs.List.{AllZip}
use Rattle.std.specs.Option.{IfSome}
use Rattle.std.specs.Prelude.{Result, Ok, Err, IfOk, IfErr}
use Rattle.ssb_schema.specs.Columns.{Value}
use Rattle.ssb_schema.specs.declared.table.Table.TheVariants as table
use Rattle.ssb_text.specs.Blocks.{AreCut, Follows, joined}
use Rattle.ssb_text.proofs.BlockLaws.{follows_blocks}
use Rattle.ssb_text.proofs.RecordLaws.{nothing_has}
use Rattle.ssb_text.specs.Tables.{IsFirstFault, IsReadFault, SpellsRow, SpellsRows}
use Rattle.ssb_text.specs.declared.error.LoadError.{LoadError}
use Rattle.ssb_text.proofs.ReadingLaws.{if_known, length-AllZip}
use Rattle.ssb_text.specs.Ahead.{Gives}
use Rattle.ssb_text.specs.Joining.{Joins, Stops}
use Rattle.ssb_text.specs.Lines.{SpellsAll}
use Rattle.ssb_text.proofs.JoiningLaws.{no_items}

-- the lines of a text's first blocks, what was parsed of those behind them, and the bytes of the next ones
pub record IsReading {X : Type 0} (R : List ℕ → X → Type 0) (text : List ℕ) (left : Option (List ℕ))
    (rows : List (List Value)) (parsed : List X) (waiting : List (List ℕ)) : Type 0 where
  pub done : List ℕ
  pub behind : List (List ℕ)
  pub rest : List ℕ
  pub left_is : left ≡ Some rest
  pub parts : text ≡ done ++ (joined behind ++ (joined waiting ++ rest))
  pub follows : Follows done (joined behind ++ (joined waiting ++ rest))
  pub behind_cut : AreCut behind (joined waiting ++ rest)
  pub waiting_cut : AreCut waiting rest
  pub zipped : AllZip R behind parsed
  pub spelled : SpellsAll done rows
  pub ended : length waiting ≡ 0 → rest ≡ []

-- the same, of whatever text is known
abbrev pub IsReadingKnown : {X : Type 0} → (List ℕ → X → Type 0) → Option (List ℕ) → Option (List ℕ)
    → List (List Value) → List X → List (List ℕ) → Type 0
IsReadingKnown R known left rows parsed waiting = (text : List ℕ) → known ≡ Some text
    → IsReading R text left rows parsed waiting

all_read : (waiting : List (List ℕ)) (text rest : List ℕ) → text ≡ joined waiting ++ rest → text ≡ []
    → length waiting ≡ 0 → rest ≡ []
all_read [] text rest parts empty none = sym parts ∙ empty
all_read (w ∷ waiting) text rest parts empty none = absurd (omega (arith, none))

-- the first blocks were read
pub reading_begun : {X : Type 0} (R : List ℕ → X → Type 0) (known left : Option (List ℕ)) (waiting : List (List ℕ))
    → Gives known left waiting → IsReadingKnown R known left [] [] waiting
reading_begun R known left waiting gives text is =
    let given = gives.given text is in
    record {
      done = [];
      behind = [];
      rest = given.0;
      left_is = given.1;
      parts = given.2;
      follows = tt;
      behind_cut = tt;
      waiting_cut = given.3;
      zipped = tt;
      spelled = record { records = []; all = nothing_has; spelled = tt };
      ended = λ none. all_read waiting text given.0 given.2 (gives.ended none text is).0 none;
    }

-- what was parsed was joined, the blocks that were waiting were parsed, and the next ones were read
pub reading_step : {X : Type 0} (R : List ℕ → X → Type 0) (known old new : Option (List ℕ))
    (rows more : List (List Value)) (parsed later : List X) (waiting next : List (List ℕ))
    → IsReadingKnown R known old rows parsed waiting → Joins R parsed rows more → Gives old new next
    → AllZip R waiting later → IsReadingKnown R known new more later next
reading_step R known old new rows more parsed later waiting next so_far joins gives zipped text is =
    let here = so_far text is in
    let given = gives.given here.rest here.left_is in
    let behind : joined waiting ++ here.rest ≡ joined waiting ++ (joined next ++ given.0) =
    ap (λ (rest : List ℕ). joined waiting ++ rest) given.2 in
    let parts : text ≡ (here.done ++ joined here.behind) ++ (joined waiting ++ here.rest) = here.parts
    ∙ sym (append_assoc here.done (joined here.behind) (joined waiting ++ here.rest)) in
    let follows : Follows (here.done ++ joined here.behind) (joined waiting ++ here.rest) =
    follows_blocks here.done (joined waiting ++ here.rest) here.behind here.follows here.behind_cut in
    record {
      done = here.done ++ joined here.behind;
      behind = waiting;
      rest = given.0;
      left_is = given.1;
      parts = rw behind at parts;
      follows = rw behind at follows;
      behind_cut = rw given.2 at here.waiting_cut;
      waiting_cut = given.3;
      zipped = zipped;
      spelled = joins here.done (joined waiting ++ here.rest) here.behind here.follows here.behind_cut here.zipped
          here.spelled;
      ended = λ none. all_read next here.rest given.0 given.2 (gives.ended none here.rest here.left_is).0 none;
    }

pub reading_stops : {X : Type 0} (R : List ℕ → X → Type 0) (limit : ℕ) (known left : Option (List ℕ))
    (rows : List (List Value)) (parsed : List X) (waiting : List (List ℕ)) (e : LoadError)
    → IsReadingKnown R known left rows parsed waiting → Stops R parsed limit rows e
    → IsReadFault table.Lineorder e ⊎ IfSome known (λ text. IsFirstFault table.Lineorder limit text e)
reading_stops R limit None left rows parsed waiting e so_far stops = inr tt
reading_stops R limit (Some text) left rows parsed waiting e so_far stops =
    let here = so_far text refl in
    elim (stops here.done (joined waiting ++ here.rest) here.behind here.follows here.behind_cut here.zipped here.spelled) [
      | inl read ↦ inl read
      | inr first ↦ inr (rw here.parts first)
    ]

pub reading_all : {X : Type 0} (R : List ℕ → X → Type 0) (limit : ℕ) (known left : Option (List ℕ))
    (rows more : List (List Value)) (parsed : List X) (waiting : List (List ℕ))
    → IsReadingKnown R known left rows parsed waiting → length waiting ≡ 0 → Joins R parsed rows more
    → length more ≤ limit
    → IfSome known (λ text. SpellsRows table.Lineorder limit text more)
reading_all R limit known left rows more parsed waiting so_far none joins few =
    if_known known (λ text. SpellsRows table.Lineorder limit text more) (λ text is.
    let here = so_far text is in
    let nothing : joined waiting ++ here.rest ≡ [] = rw (no_items waiting none, here.ended none) refl in
    let all = joins here.done (joined waiting ++ here.rest) here.behind here.follows here.behind_cut here.zipped
    here.spelled in
    let same : text ≡ here.done ++ joined here.behind = here.parts ∙ rw (nothing, append-nil (joined here.behind)) refl in
    rw same (record {
      records = all.records;
      all = all.all;
      spelled = all.spelled;
      few = omega (arith, few, length-AllZip (SpellsRow table.Lineorder) all.records more all.spelled);
    }))

-- what two facts of a result say together
pub if_ok : {T E : Type 0} (r : Result T E) (P Q S : T → Type 0) → ((v : T) → P v → Q v → S v) → IfOk r P → IfOk r Q
    → IfOk r S
if_ok (Ok v) P Q S f p q = f v p q
if_ok (Err e) P Q S f p q = tt

pub if_err : {T E : Type 0} (r : Result T E) (P S : E → Type 0) → ((e : E) → P e → S e) → IfErr r P → IfErr r S
if_err (Ok v) P S f p = tt
if_err (Err e) P S f p = f e p

-- what was parsed of blocks, known by their bytes
pub AllZip-map : {A B C : Type 0} (f : A → B) (R : B → C → Type 0) (xs : List A) (ys : List C)
    → AllZip (λ x y. R (f x) y) xs ys → AllZip R (map f xs) ys
AllZip-map f R [] [] all = tt
AllZip-map f R [] (y ∷ ys) all = absurd all
AllZip-map f R (x ∷ xs) [] all = absurd all
AllZip-map f R (x ∷ xs) (y ∷ ys) all = (all.0, AllZip-map f R xs ys all.1)
