-- What is read off the start of a text is its first record.
use Rattle.std.proofs.Common.{◌≡◌, ◌⊎◌, inl, inr, ℕ, suc, ◌+◌, ◌-◌, ◌<◌, ◌≤◌, add-one, true, List, [], ◌∷◌, ◌++◌}
use Rattle.std.proofs.Common.{length, take, drop, length-append, length-drop, append_assoc, append-nil, None, Some, Ok}
use Rattle.std.proofs.Common.{refl, sym, ap, subst, ◌∙◌, arith}
use Rattle.std.specs.Prelude.{get_or}
use Rattle.std.specs.List.{AllZip}
use Rattle.std.proofs.Math.Seq.{get_or-append_seam, split_at}
use Rattle.std.proofs.lemmas.List.{take_all}
use Rattle.csv.specs.Machine.{next_record}
use Rattle.csv.specs.declared.parser.State.TheVariants as st
use Rattle.ssb_schema.specs.Columns.{Number, Text, Value, kinds_of, row_fault}
use Rattle.ssb_schema.specs.declared.kind.Kind.{Kind}
use Rattle.ssb_schema.specs.declared.kind.Kind.TheVariants as kind
use Rattle.ssb_schema.specs.declared.table.Table.TheVariants as table
use Rattle.ssb_text.specs.Direct.{BeginsWithField, BeginsWithLine, BeginsWithNumber, BeginsWithRow, BeginsWithText}
use Rattle.ssb_text.specs.Direct.{EndsLine, EndsWithText}
use Rattle.ssb_text.specs.Records.{has_columns, record_config}
use Rattle.ssb_text.specs.Row.{number_at, row_of, text_at, value_at, values_from}
use Rattle.ssb_text.specs.Lines.{SpellsAll}
use Rattle.ssb_text.specs.Tables.{SpellsRow}
use Rattle.ssb_text.specs.TextLines.{HasNoMark}
use Rattle.ssb_text.proofs.LineRecordLaws.{RecordsFrom, no_records, unmarked}
use Rattle.ssb_text.proofs.MachineLaws.{empty_line, first_join, same_records}
use Rattle.ssb_text.proofs.ReadingLaws.{AllZip-push}
use Rattle.ssb_text.proofs.RecordTextLaws.{IsPlainField, end-field, field-run, plain-byte}

-- How csv's machine goes on.

-- at the start of a field as in it
started : (done : List (List ℕ)) (text : List ℕ)
    → next_record record_config st.StartField done [] text ≡ next_record record_config st.InField done [] text
unfolding next_record
started done [] = refl
started done (b ∷ text) = refl

-- past a field and its bar
pub past_field : (done : List (List ℕ)) (text field behind : List ℕ) → BeginsWithField text field behind
    → next_record record_config st.InField done [] text
    ≡ next_record record_config st.InField (done ++ field ∷ []) [] behind
past_field done text field behind begins =
    rw begins.parted (field-run done [] field (124 ∷ behind) begins.plain ∙ end-field done field behind
    ∙ started (done ++ field ∷ []) behind)

-- from the start of a record into its first field
pub first_field : (text field behind : List ℕ) → BeginsWithField text field behind
    → next_record record_config st.StartRecord [] [] text ≡ next_record record_config st.InField [] [] text
unfolding next_record
first_field text [] behind begins = rw begins.parted refl
first_field text (b ∷ field) behind begins = grind (arith, plain-byte)

-- a text begins with the last fields of a record, behind which these bytes stand, and they spell these values in
-- columns of these kinds, the first of which has this place
pub record BeginsWithLast (place : ℕ) (kinds : List Kind) (values : List Value) (text behind : List ℕ) : Type 0 where
  pub fields : List (List ℕ)
  pub read : (done : List (List ℕ)) → next_record record_config st.InField done [] text
      ≡ Some (done ++ fields, st.StartRecord, behind)
  pub columns : has_columns (length kinds) fields ≡ true
  pub spelled : (done : List (List ℕ)) → length done ≡ place
      → values_from table.Lineorder place kinds (done ++ fields) ≡ Ok values
  pub fewer : length behind ≤ length text

-- a field more spells a value more
value_more : (place : ℕ) (k : Kind) (v : Value) (kinds : List Kind) (values : List Value) (done : List (List ℕ))
    (field : List ℕ) (fields : List (List ℕ)) → length done ≡ place
    → value_at (record { table = table.Lineorder; place = place + 1 }) k field ≡ Ok v
    → values_from table.Lineorder (place + 1) kinds ((done ++ field ∷ []) ++ fields) ≡ Ok values
    → values_from table.Lineorder place (k ∷ kinds) (done ++ field ∷ fields) ≡ Ok (v ∷ values)
unfolding values_from
value_more place k v kinds values done field fields at value later =
    let here : get_or (done ++ field ∷ fields) place [] ≡ field =
    subst (λ n. get_or (done ++ field ∷ fields) n [] ≡ field) at (get_or-append_seam done field fields []) in
    let rest = rw (append_assoc done (field ∷ []) fields) at later in
    rw (here, value, rest) refl

number_spelled : (place n : ℕ) (least most : ℕ) (text behind : List ℕ) (begins : BeginsWithNumber text n behind)
    → value_at (record { table = table.Lineorder; place = place + 1 }) (kind.Number least most) begins.field
    ≡ Ok (Number n)
unfolding number_at
number_spelled place n least most text behind begins = rw begins.spelled refl

text_spelled : (place : ℕ) (s text behind : List ℕ) (begins : BeginsWithText text s behind)
    → value_at (record { table = table.Lineorder; place = place + 1 }) kind.Text begins.field ≡ Ok (Text s)
unfolding text_at
text_spelled place s text behind begins = rw begins.spelled refl

column_more : (count : ℕ) (field : List ℕ) (fields : List (List ℕ)) → has_columns count fields ≡ true
    → has_columns (suc count) (field ∷ fields) ≡ true
column_more count field fields has = grind arith

-- a field before others of a record
field_then : (place : ℕ) (k : Kind) (v : Value) (kinds : List Kind) (values : List Value)
    (text field next behind : List ℕ) → BeginsWithField text field next
    → value_at (record { table = table.Lineorder; place = place + 1 }) k field ≡ Ok v
    → BeginsWithLast (place + 1) kinds values next behind
    → BeginsWithLast place (k ∷ kinds) (v ∷ values) text behind
field_then place k v kinds values text field next behind begins value last = record {
  fields = field ∷ last.fields;
  read = λ done.
      past_field done text field next begins ∙ last.read (done ++ field ∷ [])
      ∙ ap (λ all. Some (all, st.StartRecord, behind)) (append_assoc done (field ∷ []) last.fields);
  columns = column_more (length kinds) field last.fields last.columns;
  spelled = λ done at.
      value_more place k v kinds values done field last.fields at value
      (last.spelled (done ++ field ∷ []) (length-append done (field ∷ []) ∙ ap (λ n. n + 1) at));
  fewer = omega (arith, last.fewer, ap length begins.parted, length-append field (124 ∷ next));
}

pub number_then : {place n least most : ℕ} {kinds : List Kind} {values : List Value} {text next behind : List ℕ}
    → BeginsWithNumber text n next → BeginsWithLast (place + 1) kinds values next behind
    → BeginsWithLast place (kind.Number least most ∷ kinds) (Number n ∷ values) text behind
number_then {place} {n} {least} {most} {kinds} {values} {text} {next} {behind} begins last =
    field_then place (kind.Number least most) (Number n) kinds values text begins.field next behind begins.begins
    (number_spelled place n least most text next begins) last

pub text_then : {place : ℕ} {s : List ℕ} {kinds : List Kind} {values : List Value} {text next behind : List ℕ}
    → BeginsWithText text s next → BeginsWithLast (place + 1) kinds values next behind
    → BeginsWithLast place (kind.Text ∷ kinds) (Text s ∷ values) text behind
text_then {place} {s} {kinds} {values} {text} {next} {behind} begins last =
    field_then place kind.Text (Text s) kinds values text begins.field next behind begins.begins
    (text_spelled place s text next begins) last

-- how the last field of a line ends: a bar at the line's end makes one more field, of no bytes
record Ended (field end behind : List ℕ) : Type 0 where
  more : List (List ℕ)
  few : (more ≡ []) ⊎ (more ≡ [] ∷ [])
  read : (done : List (List ℕ)) → next_record record_config st.InField done field end
      ≡ Some (done ++ field ∷ more, st.StartRecord, behind)
  fewer : length behind ≤ length end

ended : (field end behind : List ℕ) → EndsLine end behind → Ended field end behind
unfolding next_record
ended field end behind (inl is) = record {
  more = [];
  few = inl refl;
  read = λ done. rw (is.0, is.1) refl;
  fewer = rw (is.0, is.1) (omega arith);
}
ended field end behind (inr (inl is)) = record {
  more = [];
  few = inl refl;
  read = λ done. rw is refl;
  fewer = omega (arith, ap length is);
}
ended field end behind (inr (inr (inl is))) = record {
  more = [] ∷ [];
  few = inr refl;
  read = λ done. rw (is.0, is.1, sym (append_assoc done (field ∷ []) ([] ∷ []))) refl;
  fewer = rw (is.0, is.1) (omega arith);
}
ended field end behind (inr (inr (inr is))) = record {
  more = [] ∷ [];
  few = inr refl;
  read = λ done. rw (is, sym (append_assoc done (field ∷ []) ([] ∷ []))) refl;
  fewer = omega (arith, ap length is);
}

one_column : (field : List ℕ) (more : List (List ℕ)) → (more ≡ []) ⊎ (more ≡ [] ∷ [])
    → has_columns 1 (field ∷ more) ≡ true
one_column field more few = elim few [
  | inl is ↦ rw is refl
  | inr is ↦ rw is refl
]

-- the last field of a line
pub last_text : {place : ℕ} {s text behind : List ℕ} → EndsWithText text s behind
    → BeginsWithLast place (kind.Text ∷ []) (Text s ∷ []) text behind
unfolding values_from text_at
last_text {place} {s} {text} {behind} ends =
    let end = ended ends.field ends.end behind ends.ends in
    record {
      fields = ends.field ∷ end.more;
      read = λ done. rw ends.parted (field-run done [] ends.field ends.end ends.plain ∙ end.read done);
      columns = one_column ends.field end.more end.few;
      spelled = λ done at.
          value_more place kind.Text (Text s) [] [] done ends.field end.more at (rw ends.spelled refl) refl;
      fewer = omega (arith, end.fewer, ap length ends.parted, length-append ends.field ends.end);
    }

-- the kinds of a line's columns behind the first
abbrev later_kinds : List Kind
later_kinds = drop 1 (kinds_of table.Lineorder)

-- a text begins with a row, whose first field is a number
pub begins_with_row : {n : ℕ} {values : List Value} {text next behind : List ℕ} → BeginsWithNumber text n next
    → BeginsWithLast 1 later_kinds values next behind → BeginsWithRow text (Number n ∷ values) behind
begins_with_row {n} {values} {text} {next} {behind} begins last =
    let all : BeginsWithLast 0 (kinds_of table.Lineorder) (Number n ∷ values) text behind = number_then begins last in
    record {
      fields = all.fields;
      first = first_field text begins.field next begins.begins ∙ all.read [];
      last = all.read;
      columns = all.columns;
      spelled = all.spelled [] refl;
      fewer = omega (
        arith,
        last.fewer,
        ap length begins.begins.parted,
        length-append begins.field (124 ∷ next),
      );
    }

-- a row that the schema takes is a line's
pub begins_with_line : (text : List ℕ) (values : List Value) (behind : List ℕ) → BeginsWithRow text values behind
    → row_fault table.Lineorder values ≡ None → BeginsWithLine text values behind
unfolding row_of
begins_with_line text values behind row sound = record {
  fields = row.fields;
  first = row.first;
  last = row.last;
  spelled = rw (row.columns, row.spelled, sound) refl;
  fewer = row.fewer;
}

-- What was read of a block.

pub no_bytes : (text : List ℕ) → length text ≡ 0 → text ≡ []
no_bytes [] none = refl
no_bytes (b ∷ rest) none = absurd cc

-- the records of a block before these bytes spell these lines
pub record HasTaken (block rest : List ℕ) (rows : List (List Value)) : Type 0 where
  pub records : List (List (List ℕ))
  pub spelled : AllZip (SpellsRow table.Lineorder) records rows
  pub join : (more : List (List (List ℕ))) → RecordsFrom rest more → RecordsFrom block (records ++ more)

pub taken_nothing : (block : List ℕ) → HasTaken block block []
taken_nothing block = record { records = []; spelled = tt; join = λ more are. are }

pub taken_feed : (block text behind : List ℕ) (rows : List (List Value)) → text ≡ 10 ∷ behind
    → HasTaken block text rows → HasTaken block behind rows
taken_feed block text behind rows is taken = record {
  records = taken.records;
  spelled = taken.spelled;
  join = λ more are.
      taken.join more (subst (λ t. RecordsFrom t more) (sym is)
      (same_records st.StartRecord st.StartRecord behind (10 ∷ behind) more (sym (empty_line behind)) are));
}

pub taken_line : (block text behind : List ℕ) (rows : List (List Value)) (values : List Value)
    → HasTaken block text rows → BeginsWithLine text values behind → HasTaken block behind (rows ++ values ∷ [])
taken_line block text behind rows values taken line = record {
  records = taken.records ++ line.fields ∷ [];
  spelled = AllZip-push (SpellsRow table.Lineorder) taken.records rows line.fields values taken.spelled line.spelled;
  join = λ more are.
      subst (RecordsFrom block) (sym (append_assoc taken.records (line.fields ∷ []) more))
      (taken.join (line.fields ∷ more)
      (first_join line.fields st.StartRecord st.StartRecord text behind behind more line.first refl are));
}

pub taken_all : (block rest : List ℕ) (rows : List (List Value)) → HasNoMark block → rest ≡ []
    → HasTaken block rest rows → SpellsAll block rows
taken_all block rest rows none is taken = record {
  records = taken.records;
  all = unmarked block taken.records none
      (subst (RecordsFrom block) (append-nil taken.records)
      (taken.join [] (subst (λ t. RecordsFrom t []) (sym is) no_records)));
  spelled = taken.spelled;
}

-- What stands at a place of a text.

-- a text begins with the bytes before a bar
pub field_at : (text : List ℕ) (at : ℕ) → at < length text → get_or text at 0 ≡ 124
    → IsPlainField (take at text)
    → BeginsWithField text (take at text) (take (length text - (at + 1)) (drop (at + 1) text))
field_at text at within is plain = record {
  parted =
      let behind : take (length text - (at + 1)) (drop (at + 1) text) ≡ drop (at + 1) text =
      take_all _ _ (omega (arith, length-drop (at + 1) text)) in
      split_at text at 0 within ∙ rw (behind, is, add-one) refl;
  plain = plain;
}
