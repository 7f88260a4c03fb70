-- A record that begins with a word.
use Rattle.std.proofs.Common.{◌≡◌, ℕ, ◌+◌, ◌<◌, true, List, [], ◌∷◌, ◌++◌, length, length-append}
use Rattle.std.proofs.Common.{take, drop, Some, refl, sym, ap, ◌∙◌, take-append-drop, arith}
use Rattle.csv.specs.Machine.{next_record}
use Rattle.csv.specs.declared.parser.State.TheVariants as st
use Rattle.ssb_schema.specs.Columns.{Value, is_plain_byte}
use Rattle.ssb_text.specs.Direct.{BeginsWithField, BeginsWithLine, BeginsWithLined, BeginsWithNumbered, BeginsWithRecord}
use Rattle.ssb_text.specs.Direct.{EndsWithNumber, FirstRecord, IsWord, LastFields}
use Rattle.ssb_text.specs.Records.{record_config}
use Rattle.ssb_text.proofs.DirectLaws.{first_field, past_field}
use Rattle.ssb_text.proofs.RecordTextLaws.{and-left, field-run, plain-byte}

-- from the start of a record into its first field, which has bytes
first_byte : (b : ℕ) (rest : List ℕ) → is_plain_byte b ≡ true
    → next_record record_config st.StartRecord [] [] (b ∷ rest) ≡ next_record record_config st.InField [] [] (b ∷ rest)
unfolding next_record
first_byte b rest plain = grind (arith, plain-byte)

into_word : (word rest : List ℕ) → IsWord word
    → next_record record_config st.StartRecord [] [] (word ++ rest)
    ≡ next_record record_config st.InField [] [] (word ++ rest)
into_word [] rest is = absurd (omega (arith, is.some))
into_word (b ∷ word) rest is = first_byte b (word ++ rest) (and-left (is_plain_byte b) _ is.plain)

-- a line feed behind a field ends the record
feed_ends : (done : List (List ℕ)) (field behind : List ℕ)
    → next_record record_config st.InField done field (10 ∷ behind) ≡ Some (done ++ field ∷ [], st.StartRecord, behind)
unfolding next_record
feed_ends done field behind = refl

-- the bytes at a text's start that were found there, and those behind them
pub parted_at : (text front found behind : List ℕ) (b : ℕ) → take (length front) text ≡ front
    → found ≡ drop (length front) text → found ≡ b ∷ behind → text ≡ front ++ b ∷ behind
parted_at text front found behind b is left next =
    sym (take-append-drop (length front) text) ∙ ap (λ t. t ++ drop (length front) text) is
    ∙ ap (λ t. front ++ t) (sym left ∙ next)

pub word_alone : (text word behind : List ℕ) → IsWord word → text ≡ word ++ 10 ∷ behind
    → BeginsWithRecord text (word ∷ []) behind
word_alone text word behind is parted = record {
  first = rw parted (into_word word (10 ∷ behind) is ∙ field-run [] [] word (10 ∷ behind) is.plain
      ∙ feed_ends [] word behind);
  fewer = omega (arith, ap length parted, length-append word (10 ∷ behind));
}

-- a word and then the last fields of its record
worded : (text word next : List ℕ) (fields : List (List ℕ)) (behind : List ℕ) → BeginsWithField text word next
    → LastFields next fields behind → FirstRecord text (word ∷ fields) behind
worded text word next fields behind begins last =
    first_field text word next begins ∙ past_field [] text word next begins ∙ last (word ∷ [])

fewer_behind : (text word next behind : List ℕ) → BeginsWithField text word next → length behind < length next + 1
    → length behind < length text
fewer_behind text word next behind begins few =
    omega (arith, few, ap length begins.parted, length-append word (124 ∷ next))

pub numbered : (text word next : List ℕ) (number : ℕ) (behind : List ℕ) → BeginsWithField text word next
    → EndsWithNumber next number behind → BeginsWithNumbered word text number behind
numbered text word next number behind begins ends = record {
  field = ends.field;
  begins = record {
    first = worded text word next (ends.field ∷ []) behind begins (λ done.
        rw ends.parted (field-run done [] ends.field (10 ∷ behind) ends.plain ∙ feed_ends done ends.field behind));
    fewer = fewer_behind text word next behind begins
        (omega (arith, ap length ends.parted, length-append ends.field (10 ∷ behind)));
  };
  spelled = ends.spelled;
}

pub lined : (text word next : List ℕ) (values : List Value) (behind : List ℕ) → BeginsWithField text word next
    → BeginsWithLine next values behind → BeginsWithLined word text values behind
lined text word next values behind begins line = record {
  fields = line.fields;
  begins = record {
    first = worded text word next line.fields behind begins line.last;
    fewer = fewer_behind text word next behind begins (omega (arith, line.fewer));
  };
  spelled = line.spelled;
}
