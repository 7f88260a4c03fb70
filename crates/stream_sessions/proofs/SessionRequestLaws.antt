-- Which requests ask something of their session.
use Rattle.std.proofs.Common.{◌≡◌, ◌∙◌, ◌⊎◌, ℕ, Bool, true, false, List, [], ◌∷◌, map, Option, Some, None}
use Rattle.std.proofs.Common.{Result, Ok, Err, codes, refl, sym, ap, inl, inr, option_map, if◌then◌else◌}
use Rattle.std.specs.Cmp.Lexicographic.{same_text}
use Rattle.std.proofs.lemmas.Option.{none-some}
use Rattle.csv.specs.declared.reader.Reader.{Reader}
use Rattle.ssb_formats.specs.ReplyFormats.{format_named}
use Rattle.ssb_questions.specs.Clause.{column_named}
use Rattle.ssb_script.specs.Lines.{Bad, RecordFault, ScriptLine, line_after, line_of, word_of, word_spelled}
use Rattle.ssb_script.specs.Requests.{RequestRecord}
use Rattle.ssb_script.specs.Scripts.{SpellsScript}
use Rattle.ssb_text.proofs.OneListLaws.{one_records, text_begins}
use Rattle.ssb_text.specs.Records.{GivesNext, HasGiven, has_columns}
use Rattle.ssb_text.specs.Spelling.{field}
use Rattle.stream_sessions.specs.SessionRequests.{AsksNothing, AsksSession, is_word, request_of}
use Rattle.stream_sessions.specs.declared.lookup.Lookup.TheVariants.{Columns, Values, Status}
use Rattle.stream_sessions.specs.declared.session_request.SessionRequest.{SessionRequest}
use Rattle.stream_sessions.specs.declared.session_request.SessionRequest.TheVariants.{Format, LookUp}

none_is_one : {X : Type 0} (x : X) → [] ≡ x ∷ [] → ⊥
none_is_one x e = cc

two_are_one : {X : Type 0} (x a b : X) (more : List X) → x ∷ [] ≡ a ∷ b ∷ more → ⊥
two_are_one x a b more e = cc

first_same : {X : Type 0} (x y : X) (xs ys : List X) → x ∷ xs ≡ y ∷ ys → x ≡ y
first_same x y xs ys e = cc

-- A reader gave no record; one, which asks nothing of the session; two; or one alone, which does.

pub none_read : {R : Type 0} (remaining : R → Option (List ℕ)) (text : List ℕ) (old new : Reader R)
    (fields : List (List ℕ))
    → HasGiven remaining text old [] → GivesNext remaining old new false fields → AsksNothing text
none_read remaining text old new fields start ends = λ asked named.
    absurd (none_is_one named.fields (one_records text [] (named.fields ∷ []) (ends text [] start) named.all))

pub other_read : {R : Type 0} (remaining : R → Option (List ℕ)) (text : List ℕ) (old new : Reader R)
    (fields : List (List ℕ))
    → HasGiven remaining text old [] → GivesNext remaining old new true fields → request_of fields ≡ None
    → AsksNothing text
other_read remaining text old new fields start next none = λ asked named.
    let given = next text [] start in
    let whole = text_begins text (fields ∷ []) (named.fields ∷ []) (_, given.unread, given.reached) named.all in
    let same : named.fields ≡ fields = first_same named.fields fields [] whole.0 whole.1 in
    absurd (none-some asked (sym none ∙ ap request_of (sym same) ∙ named.asks))

pub two_read : {R : Type 0} (remaining : R → Option (List ℕ)) (text : List ℕ) (old mid new : Reader R)
    (one two : List (List ℕ))
    → HasGiven remaining text old [] → GivesNext remaining old mid true one → GivesNext remaining mid new true two
    → AsksNothing text
two_read remaining text old mid new one two start next then_next = λ asked named.
    let given = then_next text (one ∷ []) (next text [] start) in
    let whole = text_begins text (one ∷ two ∷ []) (named.fields ∷ []) (_, given.unread, given.reached) named.all in
    absurd (two_are_one named.fields one two whole.0 whole.1)

pub one_read : {R : Type 0} (remaining : R → Option (List ℕ)) (text : List ℕ) (old mid new : Reader R)
    (fields other : List (List ℕ)) (asked : SessionRequest)
    → HasGiven remaining text old [] → GivesNext remaining old mid true fields
    → GivesNext remaining mid new false other → request_of fields ≡ Some asked
    → AsksSession text asked
one_read remaining text old mid new fields other asked start next ends asks = record {
  fields = fields;
  all = ends text (fields ∷ []) (next text [] start);
  asks = asks;
}

-- a record that asks something of its session begins with one of four words, none of which is a script's
one_of : {X : Type 0} (a b : Bool) (x y : Option X) (asked : X)
    → (if a then x else if b then y else None) ≡ Some asked → (a ≡ true) ⊎ (b ≡ true)
one_of true b x y asked is = inl refl
one_of false true x y asked is = inr refl
one_of false false x y asked is = absurd (none-some asked is)

has_word : {X : Type 0} (first second a b c d : Bool) (w x y z : Option X) (asked : X)
    → (if first then (if a then w else if b then x else None)
    else if second then (if c then y else if d then z else None) else None) ≡ Some asked
    → ((a ≡ true) ⊎ (b ≡ true)) ⊎ ((c ≡ true) ⊎ (d ≡ true))
has_word true second a b c d w x y z asked is = inl (one_of a b w x asked is)
has_word false true a b c d w x y z asked is = inr (one_of c d y z asked is)
has_word false false a b c d w x y z asked is = absurd (none-some asked is)

bad_word : (word : List ℕ) → (fields : List (List ℕ)) → is_word word (field fields 0) ≡ true
    → line_of fields ≡ line_after (word_spelled word) fields
unfolding line_of word_of
bad_word word fields is =
    ap (λ (bytes : List ℕ). line_after (word_spelled bytes) fields) (same_text (field fields 0) word (sym is))

no_line : (fields : List (List ℕ)) (asked : SessionRequest) → request_of fields ≡ Some asked → line_of fields ≡ Err Bad
no_line fields asked asks =
    let first = field fields 0 in
    let name = field fields 1 in
    let words = has_word (has_columns 1 fields) (has_columns 2 fields) (is_word (codes "columns") first)
    (is_word (codes "status") first) (is_word (codes "format") first) (is_word (codes "values") first)
    (Some (LookUp Columns)) (Some (LookUp Status)) (option_map Format (format_named name))
    (option_map (λ column. LookUp (Values column)) (column_named name)) asked asks in
    elim words [
      | inl (inl is) ↦ bad_word (codes "columns") fields is
      | inl (inr is) ↦ bad_word (codes "status") fields is
      | inr (inl is) ↦ bad_word (codes "format") fields is
      | inr (inr is) ↦ bad_word (codes "values") fields is
    ]

not_spelled : (said : Result ScriptLine RecordFault) (lines : List ScriptLine) → said ≡ Err Bad
    → said ∷ [] ≡ map Ok lines → ⊥
not_spelled said [] bad is = cc
not_spelled said (l ∷ lines) bad is = cc

-- what spells a script asks nothing of its session
pub spelled_asks_nothing : (most : ℕ) (request : List ℕ) (asked : List RequestRecord)
    → SpellsScript most request asked → AsksNothing request
spelled_asks_nothing most request asked spells = λ own is.
    let same : spells.records ≡ is.fields ∷ []
    = one_records request spells.records (is.fields ∷ []) spells.all is.all in
    not_spelled (line_of is.fields) spells.lines (no_line is.fields own is.asks)
    (ap (map line_of) (sym same) ∙ spells.said)
