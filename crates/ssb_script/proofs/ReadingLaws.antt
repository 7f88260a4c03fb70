-- What is known of a script's text while it is read.
use Rattle.std.proofs.Common.{◌≡◌, ℕ, ◌+◌, ◌<◌, ◌≤◌, true, false, List, [], ◌∷◌, ◌++◌, Option, Some, None, Result, Ok}
use Rattle.std.proofs.Common.{Err, map, length, refl, subst, sym, ap, ◌∙◌, inl, inr, arith}
use Rattle.std.proofs.lemmas.List.Elements.{All-append}
use Rattle.std.specs.List.{AllZip}
use Rattle.std.specs.Option.{option_to_list}
use Rattle.std.specs.Result.{IfOk, IfErr}
use Rattle.std.proofs.lemmas.Bool.{le-ltb, lt-ltb}
use Rattle.std.proofs.lemmas.List.{append_assoc, append-nil, map-append, length_push}
use Rattle.csv.specs.declared.reader.Reader.{Reader}
use Rattle.ssb_text.specs.Records.{GivesNext, HasGiven}
use Rattle.ssb_script.specs.Begun.{Begun, Nothing}
use Rattle.ssb_script.specs.Lines.{ScriptLine, line_of, word_of}
use Rattle.ssb_script.specs.Requests.{RequestRecord, IsWholeRequest, request_of, requests_of}
use Rattle.ssb_script.specs.Scripts.{Spell, SpellAll, Spells, SpellsScript, IsFaultOf, IsFirstFault, IsScriptFault}
use Rattle.ssb_script.specs.Scripts.{EndsOpen}
use Rattle.ssb_script.specs.Scripts.{IsOpenEnd, checks_in, fault_of, first_of, lines_in, lines_of_begun, order_refused}
use Rattle.ssb_script.specs.Steps.{AreTaken, Follows, IsFoundIn, asked, begun_in}
use Rattle.ssb_script.specs.declared.begun.ScriptStep.{ScriptStep}
use Rattle.ssb_script.specs.declared.request.Request.{Request}
use Rattle.ssb_script.specs.declared.request.Script.{Script}
use Rattle.ssb_script.specs.declared.error.ScriptError.{ScriptError}
use Rattle.ssb_script.specs.declared.error.ScriptError.TheVariants as error

-- so many records that a reader has given of a text spell these requests, and what is begun
pub record HasRead {R : Type 0} (remaining : R → Option (List ℕ)) (text : List ℕ) (reader : Reader R) (count : ℕ)
    (requests : List RequestRecord) (begun : Begun) : Type 0 where
  pub records : List (List (List ℕ))
  pub given : HasGiven remaining text reader records
  pub many : length records ≡ count
  pub spells : Spells records requests begun

-- the same, of whatever text is known
abbrev pub HasReadKnown : {R : Type 0} → (R → Option (List ℕ)) → Option (List ℕ) → Reader R → ℕ → List RequestRecord
    → Begun → Type 0
HasReadKnown remaining known reader count requests begun =
    (text : List ℕ) → known ≡ Some text → HasRead remaining text reader count requests begun

-- at the start nothing was read
pub read_nothing : {R : Type 0} (remaining : R → Option (List ℕ)) (text : List ℕ) (reader : Reader R)
    → HasGiven remaining text reader [] → HasRead remaining text reader 0 [] Nothing
read_nothing remaining text reader given = grind arith

zip_push : {A B : Type 0} (R : A → B → Type 0) (xs : List A) (ys : List B) (x : A) (y : B) → AllZip R xs ys → R x y
    → AllZip R (xs ++ x ∷ []) (ys ++ y ∷ [])
zip_push R [] [] x y all one = (one, tt)
zip_push R [] (b ∷ ys) x y all one = absurd all
zip_push R (a ∷ xs) [] x y all one = absurd all
zip_push R (a ∷ xs) (b ∷ ys) x y all one = (all.0, zip_push R xs ys x y all.1 one)

lines_push : (parts : List (List ScriptLine)) (part : List ScriptLine)
    → lines_in (parts ++ part ∷ []) ≡ lines_in parts ++ part
lines_push [] part = append-nil part
lines_push (first ∷ parts) part = ap (λ rest. first ++ rest) (lines_push parts part)
    ∙ sym (append_assoc first (lines_in parts) part)

-- one request more
spell_push : (requests : List RequestRecord) (before : List ScriptLine) (one : RequestRecord) (lines : List ScriptLine)
    → SpellAll requests before → Spell one lines → SpellAll (requests ++ one ∷ []) (before ++ lines)
spell_push requests before one lines so_far spell = record {
  parts = so_far.parts ++ lines ∷ [];
  each = zip_push Spell requests so_far.parts one lines so_far.each spell;
  joined = ap (λ first. first ++ lines) so_far.joined ∙ sym (lines_push so_far.parts lines);
}

-- the lines of requests, and those of what is begun, where some were taken up
record Grown (before : List ScriptLine) (requests : List RequestRecord) (taken : List ScriptLine)
    (request : Option Request) (begun : Begun) : Type 0 where
  lines : List ScriptLine
  same : before ++ taken ≡ lines ++ lines_of_begun begun
  spelled : SpellAll (requests ++ map request_of (option_to_list request)) lines

grown : (before : List ScriptLine) (requests : List RequestRecord) (taken : List ScriptLine) (request : Option Request)
    (begun : Begun)
    → SpellAll requests before → AreTaken taken request begun → Grown before requests taken request begun
grown before requests taken None begun so_far are = record {
  lines = before;
  same = ap (λ rest. before ++ rest) are;
  spelled = subst (λ all. SpellAll all before) (sym (append-nil requests)) so_far;
}
grown before requests taken (Some request) begun so_far are = record {
  lines = before ++ taken;
  same = rw are.1 (sym (append-nil (before ++ taken)));
  spelled = spell_push requests before (request_of request) taken so_far are.0;
}

spells_more : (records : List (List (List ℕ))) (requests : List RequestRecord) (old : Begun) (fields : List (List ℕ))
    (line : ScriptLine) (step : ScriptStep)
    → Spells records requests old → line_of fields ≡ Ok line → Follows (length records + 1) old line step
    → Spells (records ++ fields ∷ []) (requests ++ asked step) (begun_in step.begun)
spells_more records requests old fields line step so_far spelled follows =
    let more = grown so_far.lines requests (lines_of_begun old ++ line ∷ []) step.request (begun_in step.begun)
    so_far.spelled follows.taken in
    record {
      lines = more.lines;
      said = rw (map-append line_of records (fields ∷ []), so_far.said, spelled)
          (sym (map-append Ok (so_far.lines ++ lines_of_begun old) (line ∷ []))
          ∙ ap (map Ok) (append_assoc so_far.lines (lines_of_begun old) (line ∷ []) ∙ more.same));
      spelled = more.spelled;
      whole = All-append IsWholeRequest requests (asked step) so_far.whole follows.whole;
      room = rw (length_push records fields) follows.room;
      settled = follows.settled;
    }

-- one more record was read
pub read_more : {R : Type 0} (remaining : R → Option (List ℕ)) (text : List ℕ) (old new : Reader R) (count : ℕ)
    (requests : List RequestRecord) (begun : Begun) (fields : List (List ℕ)) (line : ScriptLine) (step : ScriptStep)
    → HasRead remaining text old count requests begun → GivesNext remaining old new true fields
    → line_of fields ≡ Ok line → Follows (count + 1) begun line step
    → HasRead remaining text new (count + 1) (requests ++ asked step) (begun_in step.begun)
read_more remaining text old new count requests begun fields line step so_far next spelled follows = record {
  records = so_far.records ++ fields ∷ [];
  given = next text so_far.records so_far.given;
  many = length_push so_far.records fields ∙ ap (λ n. n + 1) so_far.many;
  spells = spells_more so_far.records requests begun fields line step so_far.spells spelled (rw so_far.many follows);
}

-- there was no more record, and nothing is begun
pub read_all : {R : Type 0} (remaining : R → Option (List ℕ)) (most : ℕ) (text : List ℕ) (old new : Reader R)
    (count : ℕ) (requests : List RequestRecord) (fields : List (List ℕ))
    → HasRead remaining text old count requests Nothing → GivesNext remaining old new false fields → count ≤ most
    → SpellsScript most text requests
read_all remaining most text old new count requests fields so_far next few = grind (arith, append-nil)

-- there was no more record, and a refresh or a block is begun
pub ends_open : {R : Type 0} (remaining : R → Option (List ℕ)) (most : ℕ) (text : List ℕ) (old new : Reader R)
    (count : ℕ) (requests : List RequestRecord) (begun : Begun) (fields : List (List ℕ)) (e : ScriptError)
    → HasRead remaining text old count requests begun → GivesNext remaining old new false fields → count ≤ most
    → IsOpenEnd begun e → EndsOpen most text e
ends_open remaining most text old new count requests begun fields e so_far next few is = grind arith

-- one more record was read, and it has a fault
pub first_fault : {R : Type 0} (remaining : R → Option (List ℕ)) (most : ℕ) (text : List ℕ) (old new : Reader R)
    (count : ℕ) (requests : List RequestRecord) (begun : Begun) (fields : List (List ℕ)) (e : ScriptError)
    → HasRead remaining text old count requests begun → GivesNext remaining old new true fields → count ≤ most
    → IsFaultOf most (count + 1) begun fields e → IsFirstFault most text e
first_fault remaining most text old new count requests begun fields e so_far next few bad =
    let given = next text so_far.records so_far.given in
    record {
      before = so_far.records;
      fields = fields;
      begins = (_, given.unread, given.reached);
      few = rw so_far.many few;
      requests = requests;
      begun = begun;
      spells = so_far.spells;
      is = rw so_far.many bad;
    }

-- past the bound no record is read
pub too_many : (most number : ℕ) (b : Begun) (fields : List (List ℕ)) → most < number
    → fault_of most number b fields ≡ Some error.TooLong
too_many most number b fields past = rw (lt-ltb most number past) refl

-- within it, the other checks decide
pub within : (most number : ℕ) (b : Begun) (fields : List (List ℕ)) → number ≤ most
    → fault_of most number b fields ≡ first_of (order_refused b (word_of fields) ∷ checks_in number b (line_of fields))
within most number b fields few = rw (le-ltb most number few) refl

-- what an error tells, where the other checks found it
pub found_fault : {R : Type 0} (remaining : R → Option (List ℕ)) (most : ℕ) (known : Option (List ℕ))
    (old new : Reader R) (count : ℕ) (requests : List RequestRecord) (begun : Begun) (fields : List (List ℕ))
    (e : ScriptError)
    → HasReadKnown remaining known old count requests begun → GivesNext remaining old new true fields → count < most
    → IsFoundIn (count + 1) (line_of fields)
    (order_refused begun (word_of fields) ∷ checks_in (count + 1) begun (line_of fields)) e
    → (text : List ℕ) → known ≡ Some text → IsScriptFault most text e
found_fault remaining most known old new count requests begun fields e so_far next few (inl (inl memory)) text is =
    inr (inl memory)
found_fault remaining most known old new count requests begun fields e so_far next few (inl (inr found)) text is =
    inr (inr (inl (first_fault remaining most text old new count requests begun fields e (so_far text is) next
    (omega arith) (inl (within most (count + 1) begun fields (omega arith) ∙ found)))))
found_fault remaining most known old new count requests begun fields e so_far next few (inr refused) text is =
    inr (inr (inl (first_fault remaining most text old new count requests begun fields e (so_far text is) next
    (omega arith) (inr (within most (count + 1) begun fields (omega arith) ∙ refused.0, refused.1)))))

-- what the reading gives where there is no more record
pub read_script_all : {R : Type 0} (remaining : R → Option (List ℕ)) (most : ℕ) (known : Option (List ℕ))
    (old new : Reader R) (count : ℕ) (requests : List RequestRecord) (begun : Begun) (fields : List (List ℕ))
    (result : Result Script ScriptError)
    → HasReadKnown remaining known old count requests begun → GivesNext remaining old new false fields → count ≤ most
    → IfOk result (λ script. (begun ≡ Nothing) × (requests_of script ≡ requests))
    → IfOk result (λ script. (text : List ℕ) → known ≡ Some text → SpellsScript most text (requests_of script))
read_script_all remaining most known old new count requests begun fields (Ok script) so_far next few made = λ text is.
    rw made.1 (read_all remaining most text old new count requests fields (rw made.0 at (so_far text is)) next few)
read_script_all remaining most known old new count requests begun fields (Err e) so_far next few made = tt

pub read_script_ends : {R : Type 0} (remaining : R → Option (List ℕ)) (most : ℕ) (known : Option (List ℕ))
    (old new : Reader R) (count : ℕ) (requests : List RequestRecord) (begun : Begun) (fields : List (List ℕ))
    (result : Result Script ScriptError)
    → HasReadKnown remaining known old count requests begun → GivesNext remaining old new false fields → count ≤ most
    → IfErr result (IsOpenEnd begun)
    → IfErr result (λ e. (text : List ℕ) → known ≡ Some text → IsScriptFault most text e)
read_script_ends remaining most known old new count requests begun fields (Ok script) so_far next few told = tt
read_script_ends remaining most known old new count requests begun fields (Err e) so_far next few told = λ text is.
    inr (inr (inr (ends_open remaining most text old new count requests begun fields e (so_far text is) next few told)))
