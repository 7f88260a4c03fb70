-- The parts of a text: each takes a byte or more; and a reading of them on its way.
use Rattle.std.proofs.Common.{◌≡◌, ◌∙◌, ap, refl, sym, subst, arith, ℕ, zero, suc, ◌+◌, ◌-◌, ◌<◌, ◌≤◌}
use Rattle.std.proofs.Common.{Bool, true, false, eqb, List, [], ◌∷◌, length, drop, take, length-drop}
use Rattle.std.proofs.Common.{Option, None, Some, option_map, option_and_then, unwrap_or, if◌then◌else◌}
use Rattle.std.specs.Prelude.{codes}
use Rattle.std.proofs.lemmas.Bool.{cond_both, eqb-false}
use Rattle.ssb_schema.specs.declared.table.Table.{Table}
use Rattle.ssb_sql.proofs.EndLaws.{front_ends}
use Rattle.ssb_sql.specs.Lexemes.{front_of}
use Rattle.ssb_sql.specs.Parts as spec
use Rattle.ssb_sql.specs.Parts.{Cut, Part}
use Rattle.ssb_sql.specs.Tokens.{Found, add, add_all, all_of, nothing, parts_in, part_then}
use Rattle.ssb_sql.specs.Words as words
use Rattle.ssb_sql.specs.declared.lexeme.Front.{Front}
use Rattle.ssb_sql.specs.declared.lexeme.Lexeme.{Lexeme}
use Rattle.ssb_sql.specs.declared.lexeme.Lexeme.TheVariants as lexeme
use Rattle.ssb_sql.specs.declared.token.SqlToken.{SqlToken}

-- ---- what stands behind is shorter

abbrev CutBelow : ℕ → Option Cut → Type 0
CutBelow n None = Unit {0}
CutBelow n (Some own) = length own.rest < n

abbrev TextWithin : ℕ → Option (List ℕ) → Type 0
TextWithin n None = Unit {0}
TextWithin n (Some text) = length text ≤ n

abbrev PartBelow : ℕ → Option Part → Type 0
PartBelow n None = Unit {0}
PartBelow n (Some part) = length part.rest < n

cut_front : (text : List ℕ) (o : Option Front) → front_of text ≡ o → CutBelow (length text)
    (option_map (λ front. record { lexeme = front.lexeme; piece = take front.size text; rest = drop front.size text }) o)
cut_front text None is = tt
cut_front text (Some front) is =
    let ends = front_ends text front is in
    omega (arith, length-drop front.size text, ends.some, ends.within)

cut_below : (text : List ℕ) → CutBelow (length text) (spec.cut text)
cut_below text = cut_front text (front_of text) refl

gap_rest : (n : ℕ) (what : Lexeme) (rest : List ℕ) → length rest < n → TextWithin n (spec.rest_of_gap what rest)
gap_rest n lexeme.Gap rest below = omega arith
gap_rest n _ rest below = tt

gap_of : (n : ℕ) (o : Option Cut) → CutBelow n o
    → TextWithin n (option_and_then (λ own. spec.rest_of_gap own.lexeme own.rest) o)
gap_of n None below = tt
gap_of n (Some own) below = gap_rest n own.lexeme own.rest below

gaps_of : (most n : ℕ) (text : List ℕ) (o : Option (List ℕ)) → length text ≤ n → TextWithin n o
    → ((rest : List ℕ) → length (spec.behind_gaps most rest) ≤ length rest)
    → length (unwrap_or (option_map (spec.behind_gaps most) o) text) ≤ n
gaps_of most n text None all within others = all
gaps_of most n text (Some rest) all within others = omega (arith, others rest, within)

gaps_within : (most : ℕ) (text : List ℕ) → length (spec.behind_gaps most text) ≤ length text
gaps_within zero text = omega arith
gaps_within (suc most) text =
    gaps_of most (length text) text (spec.behind_gap text) (omega arith)
    (gap_of (length text) (spec.cut text) (cut_below text)) (gaps_within most)

pub without_within : (text : List ℕ) → length (spec.without_gaps text) ≤ length text
without_within text = gaps_within (length text) text

behind_grown : (n : ℕ) (d : Bool) (o : Option (List ℕ)) → TextWithin n o
    → TextWithin (n + 1) (if d then o else None)
behind_grown n true None within = tt
behind_grown n true (Some text) within = omega arith
behind_grown n false o within = tt

more_room : (n m : ℕ) (o : Option (List ℕ)) → n ≤ m → TextWithin n o → TextWithin m o
more_room n m None le within = tt
more_room n m (Some text) le within = omega arith

behind_within : (mark text : List ℕ) → TextWithin (length text) (spec.behind mark text)
behind_within [] text = omega arith
behind_within (m ∷ mark) [] = tt
behind_within (m ∷ mark) (b ∷ text) =
    more_room (length text + 1) (length (b ∷ text)) _ (omega arith)
    (behind_grown (length text) (eqb b m) (spec.behind mark text) (behind_within mark text))

collated_of : (n : ℕ) (word : List ℕ) (m : ℕ) (o : Option (List ℕ)) → m < n → TextWithin m o
    → PartBelow n (option_map (spec.by_bytes word) o)
collated_of n word m None below within = tt
collated_of n word m (Some rest) below within = omega arith

column_of : (n : ℕ) (first column rest : List ℕ) (o : Option Table) → length rest < n
    → PartBelow n (option_map (spec.column_of first column rest) o)
column_of n first column rest None below = tt
column_of n first column rest (Some own) below = below

column_as : (n : ℕ) (first : List ℕ) (what : Lexeme) (column rest : List ℕ) → length rest < n
    → PartBelow n (spec.column_as first what column rest)
column_as n first lexeme.Word column rest below = column_of n first column rest (words.table_with column) below
column_as n first _ column rest below = tt

qualified : (n m : ℕ) (first : List ℕ) (o : Option Cut) → m ≤ n → CutBelow m o → PartBelow n (spec.qualified first o)
qualified n m first None le below = tt
qualified n m first (Some own) le below =
    column_as n first own.lexeme own.piece own.rest (omega (arith, below))

word_then : (n : ℕ) (word rest : List ℕ) (o : Option (List ℕ)) → length rest < n → TextWithin (length rest) o
    → PartBelow n (spec.word_then word rest o)
word_then n word rest None below within = below
word_then n word rest (Some others) below within =
    qualified n (length others) word (spec.cut others) (omega (arith, below, within)) (cut_below others)

word_part : (n : ℕ) (word rest : List ℕ) → length rest < n → PartBelow n (spec.word_part word rest)
word_part n word rest below =
    cond_both (words.same_word word (codes "COLLATE")) (spec.collated word rest)
    (spec.word_then word rest (spec.behind (46 ∷ []) rest)) (PartBelow n)
    (λ is.
    collated_of n word (length (spec.without_gaps rest)) (spec.behind (codes "\"C\"") (spec.without_gaps rest))
    (omega (arith, without_within rest, below)) (behind_within (codes "\"C\"") (spec.without_gaps rest)))
    (λ is. word_then n word rest (spec.behind (46 ∷ []) rest) below (behind_within (46 ∷ []) rest))

plain_of : (n : ℕ) (piece rest : List ℕ) (o : Option SqlToken) → length rest < n
    → PartBelow n (option_map (spec.plain piece rest) o)
plain_of n piece rest None below = tt
plain_of n piece rest (Some token) below = below

part_as : (n : ℕ) (what : Lexeme) (piece rest : List ℕ) → length rest < n → PartBelow n (spec.part_as what piece rest)
part_as n lexeme.Word piece rest below = word_part n piece rest below
part_as n lexeme.Number piece rest below = plain_of n piece rest (spec.number_token piece) below
part_as n lexeme.Text piece rest below = plain_of n piece rest (spec.text_token piece) below
part_as n (lexeme.Mark mark) piece rest below = below
part_as n lexeme.Gap piece rest below = tt
part_as n lexeme.Point piece rest below = tt

part_of : (n : ℕ) (o : Option Cut) → CutBelow n o → PartBelow n (spec.part_of o)
part_of n None below = tt
part_of n (Some own) below = part_as n own.lexeme own.piece own.rest below

pub next_below : (text : List ℕ) (part : Part) → spec.next_part text ≡ Some part
    → length (spec.without_gaps part.rest) < length text
next_below text part is =
    let below : length part.rest < length text =
    subst (PartBelow (length text)) is (part_of (length text) (spec.cut text) (cut_below text)) in
    omega (arith, below, without_within part.rest)

-- ---- a reading on its way

abbrev pub reading : Found → ℕ → List ℕ → Option Found
reading found most rest = option_and_then (add_all found) (parts_in most rest)

part_added : (found more : Found) (part : Part) (o : Option (List Part)) → add found part ≡ Some more
    → option_and_then (add_all found) (option_map (λ parts. part ∷ parts) o) ≡ option_and_then (add_all more) o
part_added found more part None is = refl
part_added found more part (Some parts) is = ap (option_and_then (λ own. add_all own parts)) is

part_refused : (found : Found) (part : Part) (o : Option (List Part)) → add found part ≡ None
    → option_and_then (add_all found) (option_map (λ parts. part ∷ parts) o) ≡ None
part_refused found part None is = refl
part_refused found part (Some parts) is = ap (option_and_then (λ own. add_all own parts)) is

next_is : (most : ℕ) (rest : List ℕ) → 0 < length rest
    → parts_in (suc most) rest ≡ part_then (parts_in most) (spec.next_part rest)
next_is most [] some = absurd (omega (arith, some))
next_is most (b ∷ text) some = refl

steps : (n i : ℕ) (rest : List ℕ) (found : Found) → i < n → 0 < length rest
    → reading found (n - i) rest
    ≡ option_and_then (add_all found) (part_then (parts_in (n - (i + 1))) (spec.next_part rest))
steps n i rest found within some =
    let one : n - i ≡ suc (n - (i + 1)) = omega arith in
    ap (λ k. reading found k rest) one ∙ ap (option_and_then (add_all found)) (next_is (n - (i + 1)) rest some)

pub some_left : (n : ℕ) → false ≡ eqb n 0 → 0 < n
some_left n is = let some = eqb-false n 0 (sym is) in omega (arith, some)

pub begins : (text rest : List ℕ) (found : Found) (n : ℕ) → n ≡ length text → found ≡ nothing
    → rest ≡ spec.without_gaps text → reading found n rest ≡ all_of text
begins text rest found n whole none is =
    ap (λ k. reading found k rest) whole
    ∙ (ap (λ own. reading own (length text) rest) none ∙ ap (reading nothing (length text)) is)

pub part_more : (n i : ℕ) (rest : List ℕ) (part : Part) (found more : Found) (whole : Option Found) → i < n
    → 0 < length rest → spec.next_part rest ≡ Some part → add found part ≡ Some more
    → reading found (n - i) rest ≡ whole → reading more (n - (i + 1)) (spec.without_gaps part.rest) ≡ whole
part_more n i rest part found more whole within some is own told =
    sym (part_added found more part (parts_in (n - (i + 1)) (spec.without_gaps part.rest)) own)
    ∙ (sym (ap (λ o. option_and_then (add_all found) (part_then (parts_in (n - (i + 1))) o)) is)
    ∙ (sym (steps n i rest found within some) ∙ told))

pub part_wrong : (n i : ℕ) (rest : List ℕ) (found : Found) (whole : Option Found) → i < n → 0 < length rest
    → spec.next_part rest ≡ None → reading found (n - i) rest ≡ whole → whole ≡ None
part_wrong n i rest found whole within some is told =
    sym told
    ∙ (steps n i rest found within some
    ∙ ap (λ o. option_and_then (add_all found) (part_then (parts_in (n - (i + 1))) o)) is)

pub part_stops : (n i : ℕ) (rest : List ℕ) (part : Part) (found : Found) (whole : Option Found) → i < n
    → 0 < length rest → spec.next_part rest ≡ Some part → add found part ≡ None
    → reading found (n - i) rest ≡ whole → whole ≡ None
part_stops n i rest part found whole within some is own told =
    sym told
    ∙ (steps n i rest found within some
    ∙ (ap (λ o. option_and_then (add_all found) (part_then (parts_in (n - (i + 1))) o)) is
    ∙ part_refused found part (parts_in (n - (i + 1)) (spec.without_gaps part.rest)) own))
