use Rattle.std.proofs.Common.{arith}
-- The records of a text and a line feed with more bytes behind it: those of the text, and then those of the rest.
use Rattle.std.proofs.Common.{◌≡◌, ℕ, Bool, true, false, ◌&&◌, ◌||◌, List, [], ◌∷◌, ◌++◌, append-nil, Option, Some}
use Rattle.std.proofs.Common.{None, refl, sym, ap, ◌∙◌, ◌⊎◌, inl, inr}
use Rattle.std.specs.Prelude.{◌==◌, if◌then◌else◌}
use Rattle.std.proofs.lemmas.Bool.{eqb-true, false≢true, true≢false}
use Rattle.csv.specs.Machine.{Read, step, is_end, fields_after, field_after, next_record}
use Rattle.csv.specs.Reading.{Reached, is_bom, strip_bom}
use Rattle.csv.specs.declared.parser.Action.{Action}
use Rattle.csv.specs.declared.parser.Action.TheVariants as act
use Rattle.csv.specs.declared.parser.State.{State}
use Rattle.csv.specs.declared.parser.State.TheVariants as st
use Rattle.ssb_text.specs.Records.{BeginsWith, HasRecords, record_config}
use Rattle.ssb_text.specs.Blocks.{Follows}

-- the states that records without quotes and comments have: between records nothing is at hand
abbrev IsPlain : State → List (List ℕ) → List ℕ → Type 0
IsPlain st.StartRecord fields field = (fields ≡ []) × (field ≡ [])
IsPlain st.AfterCr fields field = (fields ≡ []) × (field ≡ [])
IsPlain st.StartField fields field = Unit {0}
IsPlain st.InField fields field = Unit {0}
IsPlain st.InQuoted fields field = ⊥
IsPlain st.InEscape fields field = ⊥
IsPlain st.AfterQuote fields field = ⊥
IsPlain st.InComment fields field = ⊥

abbrev IsBetween : State → Type 0
IsBetween s = IsPlain s [] []

-- a step within a record, and one that ends it, come to such a state
abbrev KeepsPlain : State × Action → List (List ℕ) → List ℕ → ℕ → Type 0
KeepsPlain q fields field c =
    (is_end q.1 ≡ false → IsPlain q.0 (fields_after q.1 fields field) (field_after q.1 c field))
    × (is_end q.1 ≡ true → IsBetween q.0)

plain_in_field : (parts ends returns : Bool) (fields : List (List ℕ)) (field : List ℕ) (c : ℕ)
    → KeepsPlain (if parts then (st.StartField, act.EndField)
    else if ends then ((if returns then st.AfterCr else st.StartRecord), act.EndRecord)
    else (st.InField, act.Copy)) fields field c
plain_in_field true ends returns fields field c = (λ _. tt, λ h. absurd (false≢true h))
plain_in_field false true true fields field c = (λ h. absurd (true≢false h), λ _. (refl, refl))
plain_in_field false true false fields field c = (λ h. absurd (true≢false h), λ _. (refl, refl))
plain_in_field false false returns fields field c = (λ _. tt, λ h. absurd (false≢true h))

plain_start : (skips parts ends returns : Bool) (fields : List (List ℕ)) (field : List ℕ) (c : ℕ)
    → (fields ≡ []) × (field ≡ [])
    → KeepsPlain (if skips then (st.StartRecord, act.Skip) else if parts then (st.StartField, act.EndField)
    else if ends then ((if returns then st.AfterCr else st.StartRecord), act.EndRecord)
    else (st.InField, act.Copy)) fields field c
plain_start true parts ends returns fields field c is = (λ _. is, λ h. absurd (false≢true h))
plain_start false parts ends returns fields field c is = plain_in_field parts ends returns fields field c

plain_after_return : (feeds skips parts ends returns : Bool) (fields : List (List ℕ)) (field : List ℕ) (c : ℕ)
    → (fields ≡ []) × (field ≡ [])
    → KeepsPlain (if feeds then (st.StartRecord, act.Skip) else if skips then (st.StartRecord, act.Skip)
    else if parts then (st.StartField, act.EndField)
    else if ends then ((if returns then st.AfterCr else st.StartRecord), act.EndRecord)
    else (st.InField, act.Copy)) fields field c
plain_after_return true skips parts ends returns fields field c is = grind (arith, false≢true)
plain_after_return false skips parts ends returns fields field c is = grind (arith, plain_start)

plain_step : (s : State) (fields : List (List ℕ)) (field : List ℕ) (c : ℕ) → IsPlain s fields field
    → KeepsPlain (step record_config s c) fields field c
plain_step st.StartRecord fields field c is = grind (arith, plain_start)
plain_step st.AfterCr fields field c is = grind (arith, plain_after_return)
plain_step st.StartField fields field c is = grind (arith, plain_in_field)
plain_step st.InField fields field c is = grind (arith, plain_in_field)
plain_step st.InQuoted fields field c is = grind arith
plain_step st.InEscape fields field c is = grind arith
plain_step st.AfterQuote fields field c is = grind arith
plain_step st.InComment fields field c is = grind arith

-- the next record where a line feed and more stand behind the text: the same one, and where there was none, that of
-- what stands behind
abbrev Goes : List ℕ → Option Read → Option Read → Type 0
Goes b None o = o ≡ next_record record_config st.StartRecord [] [] b
Goes b (Some p) o = IsBetween p.1 × ((o ≡ Some (p.0, p.1, p.2 ++ 10 ∷ b))
    ⊎ ((p.1 ≡ st.StartRecord) × (p.2 ≡ []) × (o ≡ Some (p.0, st.StartRecord, b))))

from_nothing : (b : List ℕ) (fields : List (List ℕ)) (field : List ℕ) → (fields ≡ []) × (field ≡ [])
    → next_record record_config st.StartRecord fields field b ≡ next_record record_config st.StartRecord [] [] b
from_nothing b fields field is = grind arith

goes_on : (b rest : List ℕ) (s : State) (fields : List (List ℕ)) (now later : Option Read) (ends : Bool)
    → (ends ≡ true → IsBetween s) → (ends ≡ false → Goes b now later)
    → Goes b (if ends then Some (fields, s, rest) else now) (if ends then Some (fields, s, rest ++ 10 ∷ b) else later)
goes_on b rest s fields now later true between more = (between refl, inl refl)
goes_on b rest s fields now later false between more = more refl

goes : (b xs : List ℕ) (s : State) (fields : List (List ℕ)) (field : List ℕ) → IsPlain s fields field
    → Goes b (next_record record_config s fields field xs) (next_record record_config s fields field (xs ++ 10 ∷ b))
unfolding next_record
goes b [] st.StartRecord fields field is = from_nothing b fields field is
goes b [] st.AfterCr fields field is = from_nothing b fields field is
goes b [] st.StartField fields field is = ((refl, refl), inr (refl, refl, refl))
goes b [] st.InField fields field is = ((refl, refl), inr (refl, refl, refl))
goes b [] st.InQuoted fields field is = absurd is
goes b [] st.InEscape fields field is = absurd is
goes b [] st.AfterQuote fields field is = absurd is
goes b [] st.InComment fields field is = absurd is
goes b (c ∷ rest) s fields field is =
    let q = step record_config s c in
    let keeps = plain_step s fields field c is in
    goes_on b rest q.0 (fields_after q.1 fields field) _ _ (is_end q.1) keeps.1 (λ within.
    goes b rest q.0 (fields_after q.1 fields field) (field_after q.1 c field) (keeps.0 within))

-- no record is read of no bytes
reached_nothing : (rs : List (List (List ℕ))) (s s2 : State) (xs ys : List ℕ) → s ≡ st.StartRecord → xs ≡ []
    → Reached record_config s xs rs s2 ys → rs ≡ []
unfolding Reached next_record
reached_nothing [] s s2 xs ys start empty h = grind arith
reached_nothing (r ∷ rs) s s2 xs ys start empty h = grind arith

-- where the records of a text lead when a line feed and more stand behind it
abbrev Leads : List ℕ → List (List (List ℕ)) → State → List ℕ → State → List ℕ → Type 0
Leads b rs s xs s2 ys = (t : State) × (zs : List ℕ) × Reached record_config s (xs ++ 10 ∷ b) rs t zs
    × (next_record record_config s2 [] [] ys ≡ None
    → next_record record_config t [] [] zs ≡ next_record record_config st.StartRecord [] [] b)

leads_here : (b xs ys : List ℕ) (s s2 : State) → IsBetween s → s ≡ s2 → xs ≡ ys → Leads b [] s xs s2 ys
unfolding Reached
leads_here b xs ys s s2 is same rest = (
  s,
  xs ++ 10 ∷ b,
  (refl, refl),
  λ none.
      let here : next_record record_config s [] [] xs ≡ None = rw (same, rest) none in
      rw here at (goes b xs s [] [] is),
)

leads_on : (b : List ℕ) (r : List (List ℕ)) (rs : List (List (List ℕ))) (s s2 : State) (xs ys : List ℕ) (p : Read)
    → r ≡ p.0 → Reached record_config p.1 p.2 rs s2 ys
    → Goes b (Some p) (next_record record_config s [] [] (xs ++ 10 ∷ b))
    → (IsBetween p.1 → Leads b rs p.1 p.2 s2 ys) → Leads b (r ∷ rs) s xs s2 ys
unfolding Reached
leads_on b r rs s s2 xs ys p fields after now more = grind (arith, reached_nothing)

leads : (b : List ℕ) (rs : List (List (List ℕ))) (s s2 : State) (xs ys : List ℕ) → IsBetween s
    → Reached record_config s xs rs s2 ys → Leads b rs s xs s2 ys
unfolding Reached
leads b [] s s2 xs ys is h = leads_here b xs ys s s2 is h.0 h.1
leads b (r ∷ rs) s s2 xs ys is h =
    let p = h.0 in
    leads_on b r rs s s2 xs ys p h.2 h.3 (rw h.1 at (goes b xs s [] [] is))
    (λ between. leads b rs p.1 s2 p.2 ys between h.3)

-- the same records are read on from two places where the next record is the same
carry_on : (ss : List (List (List ℕ))) (t s u : State) (zs ys ws : List ℕ)
    → next_record record_config t [] [] zs ≡ next_record record_config s [] [] ys → Reached record_config s ys ss u ws
    → (v : State) × (vs : List ℕ) × Reached record_config t zs ss v vs
    × (next_record record_config u [] [] ws ≡ None → next_record record_config v [] [] vs ≡ None)
unfolding Reached
carry_on [] t s u zs ys ws same h = (t, zs, (refl, refl), λ none. same ∙ rw (h.0, h.1) none)
carry_on (r ∷ ss) t s u zs ys ws same h = (u, ws, (h.0, same ∙ h.1, h.2, h.3), λ none. none)

Reached-append : (rs ss : List (List (List ℕ))) (s t u : State) (xs zs ws : List ℕ) → Reached record_config s xs rs t zs
    → Reached record_config t zs ss u ws → Reached record_config s xs (rs ++ ss) u ws
unfolding Reached
Reached-append [] ss s t u xs zs ws a b = rw (a.0, a.1) b
Reached-append (r ∷ rs) ss s t u xs zs ws a b =
    (a.0, a.1, a.2, Reached-append rs ss a.0.1 t u a.0.2 zs ws a.3 b)

-- the first of some records
Reached-first : (rs ss : List (List (List ℕ))) (s u : State) (xs ws : List ℕ)
    → Reached record_config s xs (rs ++ ss) u ws → (t : State) × (zs : List ℕ) × Reached record_config s xs rs t zs
unfolding Reached
Reached-first [] ss s u xs ws h = grind arith
Reached-first (r ∷ rs) ss s u xs ws h = grind (arith, Reached-first rs ss h.0.1 u h.0.2 ws h.3)

feed_skipped : (b : List ℕ)
    → next_record record_config st.StartRecord [] [] (10 ∷ b) ≡ next_record record_config st.StartRecord [] [] b
unfolding next_record
feed_skipped b = refl

-- a byte order mark before a line feed
pub and_false : (b : Bool) → (b && false) ≡ false
and_false true = refl
and_false false = refl

strip_bom-feed : (b : List ℕ) → strip_bom (10 ∷ b) ≡ 10 ∷ b
unfolding strip_bom
strip_bom-feed [] = refl
strip_bom-feed (x ∷ []) = refl
strip_bom-feed (x ∷ y ∷ rest) = refl

if_marked : (marked : Bool) (all rest more : List ℕ)
    → (if marked then (rest ++ more) else (all ++ more)) ≡ (if marked then rest else all) ++ more
if_marked true all rest more = refl
if_marked false all rest more = refl

strip_bom-append : (a b : List ℕ) → strip_bom (a ++ 10 ∷ b) ≡ strip_bom a ++ 10 ∷ b
unfolding strip_bom
strip_bom-append [] b = strip_bom-feed b
strip_bom-append (x ∷ []) [] = refl
strip_bom-append (x ∷ []) (y ∷ b) = rw (and_false (x == 239)) refl
strip_bom-append (x ∷ y ∷ []) b = rw (and_false ((x == 239) && (y == 187))) refl
strip_bom-append (x ∷ y ∷ z ∷ a) b = if_marked (is_bom x y z) (x ∷ y ∷ z ∷ a) a (10 ∷ b)

-- the law of a line feed with bytes behind it
pub records-feed : (a b : List ℕ) (rs ss : List (List (List ℕ))) → HasRecords a rs → HasRecords (10 ∷ b) ss
    → HasRecords (a ++ 10 ∷ b) (rs ++ ss)
records-feed a b rs ss first last =
    let way = leads b rs st.StartRecord first.0 (strip_bom a) first.1 (refl, refl) first.2 in
    let behind : Reached record_config st.StartRecord (10 ∷ b) ss last.0 last.1 = rw (← strip_bom-feed b) last.2 in
    let rest = carry_on ss way.0 st.StartRecord last.0 way.1 (10 ∷ b) last.1 (way.3 first.3 ∙ sym (feed_skipped b)) behind in
    (rest.0, rest.1, rw (strip_bom-append a b) (Reached-append rs ss st.StartRecord way.0 rest.0 (strip_bom a ++ 10 ∷ b) way.1 rest.1 way.2 rest.2), rest.3 last.3)

pub begins-feed : (a b : List ℕ) (rs ss : List (List (List ℕ))) → HasRecords a rs → BeginsWith (10 ∷ b) ss
    → BeginsWith (a ++ 10 ∷ b) (rs ++ ss)
begins-feed a b rs ss first last =
    let way = leads b rs st.StartRecord first.0 (strip_bom a) first.1 (refl, refl) first.2 in
    let behind : Reached record_config st.StartRecord (10 ∷ b) ss last.0 last.1 = rw (← strip_bom-feed b) last.2 in
    let rest = carry_on ss way.0 st.StartRecord last.0 way.1 (10 ∷ b) last.1 (way.3 first.3 ∙ sym (feed_skipped b)) behind in
    (rest.0, rest.1, rw (strip_bom-append a b) (Reached-append rs ss st.StartRecord way.0 rest.0 (strip_bom a ++ 10 ∷ b) way.1 rest.1 way.2 rest.2))

pub begins-longer-feed : (a b : List ℕ) (rs : List (List (List ℕ))) → BeginsWith a rs → BeginsWith (a ++ 10 ∷ b) rs
begins-longer-feed a b rs first =
    let way = leads b rs st.StartRecord first.0 (strip_bom a) first.1 (refl, refl) first.2 in
    (way.0, way.1, rw (strip_bom-append a b) way.2)

-- a text of no bytes has no records
pub no_records : (rs : List (List (List ℕ))) → BeginsWith [] rs → rs ≡ []
unfolding strip_bom
no_records rs h = reached_nothing rs st.StartRecord h.0 [] h.1 refl refl h.2

pub nothing_has : HasRecords [] []
unfolding strip_bom next_record Reached
nothing_has = (st.StartRecord, [], (refl, refl), refl)

-- the first records are those of the first ones
pub BeginsWith-first : (text : List ℕ) (rs ss : List (List (List ℕ))) → BeginsWith text (rs ++ ss) → BeginsWith text rs
BeginsWith-first text rs ss h = Reached-first rs ss st.StartRecord h.0 (strip_bom text) h.1 h.2

pub HasRecords-begins : (text : List ℕ) (rs : List (List (List ℕ))) → HasRecords text rs → BeginsWith text rs
HasRecords-begins text rs h = (h.0, h.1, h.2)

-- the records of a text in two parts, where the second begins with a line feed, or one of them has no bytes
pub records-append : (a b : List ℕ) (rs ss : List (List (List ℕ))) → Follows a b → HasRecords a rs → HasRecords b ss
    → HasRecords (a ++ b) (rs ++ ss)
records-append [] b rs ss follows first last = rw (no_records rs (HasRecords-begins [] rs first)) last
records-append (x ∷ a) [] rs ss follows first last =
    rw (no_records ss (HasRecords-begins [] ss last), append-nil (x ∷ a), append-nil rs) first
records-append (x ∷ a) (y ∷ b) rs ss follows first last =
    let feed : y ≡ 10 = eqb-true y 10 follows in
    rw feed (records-feed (x ∷ a) b rs ss first (rw feed at last))

-- the first of them
pub begins-append : (a b : List ℕ) (rs ss : List (List (List ℕ))) → Follows a b → HasRecords a rs → BeginsWith b ss
    → BeginsWith (a ++ b) (rs ++ ss)
begins-append [] b rs ss follows first last = rw (no_records rs (HasRecords-begins [] rs first)) last
begins-append (x ∷ a) [] rs ss follows first last =
    rw (no_records ss last, append-nil (x ∷ a), append-nil rs) (HasRecords-begins (x ∷ a) rs first)
begins-append (x ∷ a) (y ∷ b) rs ss follows first last =
    let feed : y ≡ 10 = eqb-true y 10 follows in
    rw feed (begins-feed (x ∷ a) b rs ss first (rw feed at last))

begins_nothing : (b : List ℕ) → BeginsWith b []
unfolding Reached
begins_nothing b = (st.StartRecord, strip_bom b, (refl, refl))

-- the first records of the first part
pub begins-longer : (a b : List ℕ) (rs : List (List (List ℕ))) → Follows a b → BeginsWith a rs → BeginsWith (a ++ b) rs
begins-longer [] b rs follows first = rw (no_records rs first) (begins_nothing b)
begins-longer (x ∷ a) [] rs follows first = rw (append-nil (x ∷ a)) first
begins-longer (x ∷ a) (y ∷ b) rs follows first =
    let feed : y ≡ 10 = eqb-true y 10 follows in
    rw feed (begins-longer-feed (x ∷ a) b rs first)
