-- What a script asks is what its requests ask, one after another.
use Rattle.std.proofs.Common.{◌≡◌, ◌≢◌, ◌≤◌, ℕ, false, List, [], ◌∷◌, ◌++◌, length, map, Some, None, Ok, refl}
use Rattle.std.proofs.Common.{sym, ap, subst, ◌∙◌, append_assoc, append-nil, length-append, arith, false, inl, inr, ◌⊎◌}
use Rattle.std.specs.List.{AllByRecursion, AllZip, concat, flat_map}
use Rattle.std.proofs.lemmas.List.{append_cancel_right}
use Rattle.std.proofs.lemmas.List.Elements.{All-from_recursion, recursion_from_All}
use Rattle.csv.specs.Reading.{strip_bom}
use Rattle.ssb_schema.specs.declared.line.LineFields.{LineFields}
use Rattle.ssb_schema.specs.declared.refresh.Action.{Action}
use Rattle.ssb_schema.specs.declared.refresh.Action.TheVariants as action
use Rattle.ssb_questions.specs.declared.query.Query.{Query as Named}
use Rattle.ssb_questions.specs.declared.value.Value.{Value}
use Rattle.ssb_text.specs.Records.{HasRecords}
use Rattle.ssb_text.specs.TextLines.{IsLine, HasNoLoneReturn, HasNoMark}
use Rattle.ssb_script.specs.Blocks.{opens}
use Rattle.ssb_script.specs.Cutting.{EndAt, MakeRequest, IsRequest, IsCutInto}
use Rattle.ssb_script.specs.declared.block.BlockKind.{BlockKind}
use Rattle.ssb_script.specs.declared.block.BlockKind.TheVariants.{Refreshing, Asking}
use Rattle.ssb_script.specs.declared.request.Asking.TheVariants.{Alone, Together, Statement as Stated}
use Rattle.ssb_script.specs.Lines.{ScriptLine, line_of}
use Rattle.ssb_script.specs.Lines as script
use Rattle.ssb_script.specs.Begun.{Begun}
use Rattle.ssb_script.specs.Begun as begun
use Rattle.ssb_script.specs.Requests.{RequestRecord, Refresh, Ask, Order, Abort, IsWholeRequest, lines_of_action}
use Rattle.ssb_script.specs.Scripts.{Spell, SpellsScript, is_outside, lines_in, lines_of_begun}
use Rattle.ssb_script.specs.declared.control.OrderOpening.{OrderOpening}
use Rattle.ssb_script.specs.declared.control.OrderOpening.TheVariants.{Add, Amend, Put}
use Rattle.ssb_script.specs.CuttingLaws.{AskedBy, HasScriptOfRequests, request_texts}
use Rattle.ssb_text.proofs.MachineLaws.{Ended, fields_from, records_in}
use Rattle.ssb_text.proofs.LineRecordLaws.{RecordsFrom, contents_of, lines_have, strip_line, strip_lines, unmarked}
use Rattle.ssb_script.proofs.WordLaws.{Ends, opening_of, closing_of, line_opens, line_opens_not, line_closes}
use Rattle.ssb_script.proofs.WordLaws.{line_closes_not}

-- records spell these lines
abbrev Say : List (List (List ℕ)) → List ScriptLine → Type 0
Say records lines = map line_of records ≡ map Ok lines

abbrev HasNoEnd : BlockKind → List ScriptLine → Type 0
HasNoEnd block lines = AllByRecursion (λ l. Ends block l → ⊥) lines

no_end : (block : BlockKind) (l : ScriptLine) → l ≢ closing_of block → l ≢ script.Abort → Ends block l → ⊥
no_end block l own abort ends = elim ends [ inl is ↦ own is | inr is ↦ abort is ]

all-append : {X : Type 0} (P : X → Type 0) (xs ys : List X) → AllByRecursion P xs → AllByRecursion P ys
    → AllByRecursion P (xs ++ ys)
all-append P [] ys a b = b
all-append P (x ∷ xs) ys a b = (a.0, all-append P xs ys a.1 b)

all-parts : {X : Type 0} (P : X → Type 0) (xs ys : List X) → AllByRecursion P (xs ++ ys)
    → AllByRecursion P xs × AllByRecursion P ys
all-parts P [] ys a = (tt, a)
all-parts P (x ∷ xs) ys a = let rest = all-parts P xs ys a.1 in ((a.0, rest.0), rest.1)

order_has_no_end : (order : List LineFields) → HasNoEnd Refreshing (map script.Line order)
order_has_no_end [] = tt
order_has_no_end (row ∷ order) =
    (no_end Refreshing (script.Line row) (λ e. cc) (λ e. cc), order_has_no_end order)

opening_is_no_end : (opening : OrderOpening) → Ends Refreshing (script.Open opening) → ⊥
opening_is_no_end opening = no_end Refreshing (script.Open opening) (λ e. cc) (λ e. cc)

action_has_no_end : (a : Action) → HasNoEnd Refreshing (lines_of_action a)
action_has_no_end (action.Add order) = (opening_is_no_end Add, order_has_no_end order)
action_has_no_end (action.Amend order) = (opening_is_no_end Amend, order_has_no_end order)
action_has_no_end (action.Put order) = (opening_is_no_end Put, order_has_no_end order)
action_has_no_end (action.Withdraw key) = (no_end Refreshing (script.Withdraw key) (λ e. cc) (λ e. cc), tt)

actions_have_no_end : (actions : List Action) → HasNoEnd Refreshing (flat_map lines_of_action actions)
actions_have_no_end [] = tt
actions_have_no_end (a ∷ actions) =
    all-append (λ l. Ends Refreshing l → ⊥) (lines_of_action a) (flat_map lines_of_action actions)
    (action_has_no_end a) (actions_have_no_end actions)

questions_have_no_end : (questions : List (Named × List Value)) → HasNoEnd Asking (map script.Query questions)
questions_have_no_end [] = tt
questions_have_no_end (question ∷ questions) =
    (no_end Asking (script.Query question) (λ e. cc) (λ e. cc), questions_have_no_end questions)

-- lines of a block: one that begins it, some that do not end it, and one that does
record IsBlock (lines : List ScriptLine) : Type 0 where
  block : BlockKind
  said : List ScriptLine
  end : ScriptLine
  shape : lines ≡ opening_of block ∷ (said ++ end ∷ [])
  ends : Ends block end
  none : HasNoEnd block said

dropped_block : (b : Begun) (lines : List ScriptLine) → is_outside b ≡ false
    → lines ≡ lines_of_begun b ++ script.Abort ∷ [] → IsBlock lines
dropped_block begun.Nothing lines inside is = absurd cc
dropped_block (begun.Refresh actions) lines inside is = record {
  block = Refreshing;
  said = flat_map lines_of_action actions;
  end = script.Abort;
  shape = is;
  ends = inr refl;
  none = actions_have_no_end actions;
}
dropped_block (begun.Order order) lines inside is =
    let acts = flat_map lines_of_action order.actions in
    let last : List ScriptLine = script.Open order.opening ∷ map script.Line order.lines in
    record {
      block = Refreshing;
      said = acts ++ last;
      end = script.Abort;
      shape = is;
      ends = inr refl;
      none = all-append (λ l. Ends Refreshing l → ⊥) acts last (actions_have_no_end order.actions)
          (opening_is_no_end order.opening, order_has_no_end order.lines);
    }
dropped_block (begun.Asked questions) lines inside is = record {
  block = Asking;
  said = map script.Query questions;
  end = script.Abort;
  shape = is;
  ends = inr refl;
  none = questions_have_no_end questions;
}

-- a line that is a request by itself: a question, a statement or what asks for an order
abbrev IsLone : ScriptLine → Type 0
IsLone (script.Query question) = Unit {0}
IsLone (script.Sql text) = Unit {0}
IsLone (script.Order key) = Unit {0}
IsLone _ = ⊥

-- a request is such a line alone, or a block
shape_of : (one : RequestRecord) (lines : List ScriptLine) → Spell one lines
    → ((said : ScriptLine) × IsLone said × (lines ≡ said ∷ [])) ⊎ IsBlock lines
shape_of (Ask (Alone question)) lines spell = inl (script.Query question, tt, spell)
shape_of (Ask (Stated asked)) lines spell = inl (script.Sql asked.value.text, tt, spell)
shape_of (Order key) lines spell = inl (script.Order key, tt, spell)
shape_of (Ask (Together questions)) lines spell = inr (record {
  block = Asking;
  said = map script.Query questions;
  end = script.Answer;
  shape = spell;
  ends = inl refl;
  none = questions_have_no_end questions;
})
shape_of (Refresh actions) lines spell = inr (record {
  block = Refreshing;
  said = flat_map lines_of_action actions;
  end = script.Commit;
  shape = spell;
  ends = inl refl;
  none = actions_have_no_end actions;
})
shape_of Abort lines spell = inr (dropped_block spell.begun lines spell.inside spell.joined)

-- the first record says the first line
first_says : (f : List (List ℕ)) (records : List (List (List ℕ))) (l : ScriptLine) (lines : List ScriptLine)
    → Say (f ∷ records) (l ∷ lines) → (line_of f ≡ Ok l) × Say records lines
first_says f records l lines h = (cc, cc)

more_say : (f : List (List ℕ)) (records : List (List (List ℕ))) (l : ScriptLine) (lines : List ScriptLine)
    → line_of f ≡ Ok l → Say records lines → Say (f ∷ records) (l ∷ lines)
more_say f records l lines first rest = cc

-- the lines through the first that ends a block say the lines through the first that ends it
block_ends : (block : BlockKind) (lines contents : List (List ℕ)) (said : List ScriptLine) (end : ScriptLine)
    (more : List ScriptLine) (behind : List (List (List ℕ)))
    → EndAt block lines → AllZip Ended lines contents → HasNoEnd block said → Ends block end
    → Say (flat_map records_in contents ++ behind) (said ++ end ∷ more)
    → Say (flat_map records_in contents) (said ++ end ∷ []) × Say behind more
block_ends block [] contents said end more behind ends ended none is h = absurd ends
block_ends block (l ∷ lines) [] said end more behind ends ended none is h = absurd ended
block_ends block (l ∷ []) (c ∷ d ∷ contents) said end more behind ends ended none is h = absurd ended.1
block_ends block (l ∷ m ∷ lines) (c ∷ []) said end more behind ends ended none is h = absurd ended.1
block_ends block (l ∷ []) ([] ∷ []) said end more behind ends ended none is h =
    let found = line_closes l [] block ended.0 ends in
    let e = found.one in absurd cc
block_ends block (l ∷ []) ((b ∷ c) ∷ []) [] end more behind ends ended none is h =
    let first = first_says (fields_from [] (b ∷ c)) behind end more h in
    (more_say (fields_from [] (b ∷ c)) [] end [] first.0 refl, first.1)
block_ends block (l ∷ []) ((b ∷ c) ∷ []) (s ∷ said) end more behind ends ended none is h =
    let first = first_says (fields_from [] (b ∷ c)) behind s (said ++ end ∷ more) h in
    let found = line_closes l (b ∷ c) block ended.0 ends in
    let same : fields_from [] (b ∷ c) ≡ found.fields = let e = found.one in cc in
    let both : Ok found.said ≡ Ok s = sym found.says ∙ (ap line_of (sym same) ∙ first.0) in
    let last : found.said ≡ s = cc in
    absurd (none.0 (subst (Ends block) last found.ends))
block_ends block (l ∷ m ∷ lines) ([] ∷ d ∷ contents) said end more behind ends ended none is h =
    block_ends block (m ∷ lines) (d ∷ contents) said end more behind ends.1 ended.1 none is h
block_ends block (l ∷ m ∷ lines) ((b ∷ c) ∷ d ∷ contents) [] end more behind ends ended none is h =
    let first = first_says (fields_from [] (b ∷ c)) (flat_map records_in (d ∷ contents) ++ behind) end more h in
    absurd (line_closes_not l (b ∷ c) (fields_from [] (b ∷ c)) block end ended.0 ends.0 refl first.0 is)
block_ends block (l ∷ m ∷ lines) ((b ∷ c) ∷ d ∷ contents) (s ∷ said) end more behind ends ended none is h =
    let first = first_says (fields_from [] (b ∷ c)) (flat_map records_in (d ∷ contents) ++ behind) s
    (said ++ end ∷ more) h in
    let rest = block_ends block (m ∷ lines) (d ∷ contents) said end more behind ends.1 ended.1 none.1 is first.1 in (
      more_say (fields_from [] (b ∷ c)) (flat_map records_in (d ∷ contents)) s (said ++ end ∷ []) first.0 rest.0,
      rest.1,
    )

-- the first of these lines begins with no byte order mark
abbrev FirstHasNoMark : List (List ℕ) → Type 0
FirstHasNoMark [] = Unit {0}
FirstHasNoMark (l ∷ lines) = HasNoMark l

-- what a request asks, of the wanted that are left
record Asks (records behind : List (List (List ℕ))) (wanted : List RequestRecord) : Type 0 where
  asked : List RequestRecord
  left : List RequestRecord
  parted : wanted ≡ asked ++ left
  parts : List (List ScriptLine)
  each : AllZip Spell asked parts
  says : Say records (lines_in parts)
  behind_parts : List (List ScriptLine)
  behind_each : AllZip Spell left behind_parts
  behind_says : Say behind (lines_in behind_parts)
  one : length asked ≤ 1

one_line_asks : (l c : List ℕ) (wanted : List RequestRecord) (parts : List (List ScriptLine))
    (behind : List (List (List ℕ))) → opens l ≡ None
    → Ended l c → HasNoMark l → AllZip Spell wanted parts
    → Say (flat_map records_in (c ∷ []) ++ behind) (lines_in parts) → Asks (flat_map records_in (c ∷ [])) behind wanted
one_line_asks l [] wanted parts behind opened ended mark each h = record {
  asked = [];
  left = wanted;
  parted = refl;
  parts = [];
  each = tt;
  says = refl;
  behind_parts = parts;
  behind_each = each;
  behind_says = h;
  one = omega arith;
}
one_line_asks l (b ∷ c) [] [] behind opened ended mark each h = absurd cc
one_line_asks l (b ∷ c) [] (part ∷ parts) behind opened ended mark each h = absurd each
one_line_asks l (b ∷ c) (request ∷ wanted) [] behind opened ended mark each h = absurd each
one_line_asks l (b ∷ c) (request ∷ wanted) (part ∷ parts) behind opened ended mark each h =
    elim (shape_of request part each.0) [
      | inl alone ↦ let said : Say (fields_from [] (b ∷ c) ∷ behind) (alone.0 ∷ lines_in parts) =
          h ∙ ap (λ p. map Ok (p ++ lines_in parts)) alone.2 in
          let first = first_says (fields_from [] (b ∷ c)) behind alone.0 (lines_in parts) said in
          record {
            asked = request ∷ [];
            left = wanted;
            parted = refl;
            parts = part ∷ [];
            each = (each.0, tt);
            says = more_say (fields_from [] (b ∷ c)) [] alone.0 [] first.0 refl
                ∙ ap (λ p. map Ok (p ++ [])) (sym alone.2);
            behind_parts = parts;
            behind_each = each.1;
            behind_says = first.1;
            one = omega arith;
          }
      | inr is ↦ let said : Say (fields_from [] (b ∷ c) ∷ behind)
          (opening_of is.block ∷ ((is.said ++ is.end ∷ []) ++ lines_in parts)) =
          h ∙ ap (λ p. map Ok (p ++ lines_in parts)) is.shape in
          let first = first_says (fields_from [] (b ∷ c)) behind (opening_of is.block)
          ((is.said ++ is.end ∷ []) ++ lines_in parts) said in
          absurd (line_opens_not l (b ∷ c) (fields_from [] (b ∷ c)) is.block ended mark opened refl first.0)
    ]

-- the record of a line that begins a block says so
first_opens : (l c : List ℕ) (block : BlockKind) (said : ScriptLine) → opens l ≡ Some block → Ended l c → HasNoMark l
    → (f : List (List ℕ)) → records_in c ≡ f ∷ [] → line_of f ≡ Ok said → said ≡ opening_of block
first_opens l c block said opened ended mark f is says = grind (arith, line_opens)

opening_is_one : (a b : BlockKind) → opening_of a ≡ opening_of b → a ≡ b
opening_is_one Refreshing Refreshing e = refl
opening_is_one Refreshing Asking e = absurd cc
opening_is_one Asking Refreshing e = absurd cc
opening_is_one Asking Asking e = refl

no_lone_opens : (block : BlockKind) (said : ScriptLine) → IsLone said → said ≡ opening_of block → ⊥
no_lone_opens Refreshing said lone e = subst IsLone e lone
no_lone_opens Asking said lone e = subst IsLone e lone

-- the records of a block, which are those of one request
block_asks_one : (block : BlockKind) (request : RequestRecord) (part : List ScriptLine) (l m : List ℕ)
    (lines : List (List ℕ)) (b : ℕ) (c d : List ℕ) (contents : List (List ℕ)) (wanted : List RequestRecord)
    (parts : List (List ScriptLine)) (behind : List (List (List ℕ)))
    → (is : IsBlock part) → opens l ≡ Some block → EndAt block (m ∷ lines)
    → AllZip Ended (l ∷ m ∷ lines) ((b ∷ c) ∷ d ∷ contents) → HasNoMark l
    → Spell request part → AllZip Spell wanted parts
    → Say (flat_map records_in ((b ∷ c) ∷ d ∷ contents) ++ behind) (part ++ lines_in parts)
    → Asks (flat_map records_in ((b ∷ c) ∷ d ∷ contents)) behind (request ∷ wanted)
block_asks_one block request part l m lines b c d contents wanted parts behind is opened ends ended mark spell each h =
    let all : part ++ lines_in parts ≡ opening_of is.block ∷ (is.said ++ is.end ∷ lines_in parts) =
    ap (λ p. p ++ lines_in parts) is.shape
    ∙ ap (λ t. opening_of is.block ∷ t) (append_assoc is.said (is.end ∷ []) (lines_in parts)) in
    let first = first_says (fields_from [] (b ∷ c)) (flat_map records_in (d ∷ contents) ++ behind)
    (opening_of is.block) (is.said ++ is.end ∷ lines_in parts) (h ∙ ap (map Ok) all) in
    let same : is.block ≡ block = opening_is_one is.block block
    (first_opens l (b ∷ c) block (opening_of is.block) opened ended.0 mark (fields_from [] (b ∷ c)) refl first.0) in
    let rest = block_ends block (m ∷ lines) (d ∷ contents) is.said is.end (lines_in parts) behind ends ended.1
    (subst (λ k. HasNoEnd k is.said) same is.none) (subst (λ k. Ends k is.end) same is.ends) first.1 in
    record {
      asked = request ∷ [];
      left = wanted;
      parted = refl;
      parts = part ∷ [];
      each = (spell, tt);
      says = more_say (fields_from [] (b ∷ c)) (flat_map records_in (d ∷ contents)) (opening_of is.block)
          (is.said ++ is.end ∷ []) first.0 rest.0 ∙ ap (map Ok) (sym is.shape ∙ sym (append-nil part));
      behind_parts = parts;
      behind_each = each;
      behind_says = rest.1;
      one = omega arith;
    }

block_asks : (block : BlockKind) (l m : List ℕ) (lines : List (List ℕ)) (c d : List ℕ) (contents : List (List ℕ))
    (wanted : List RequestRecord) (parts : List (List ScriptLine)) (behind : List (List (List ℕ)))
    → opens l ≡ Some block → EndAt block (m ∷ lines)
    → AllZip Ended (l ∷ m ∷ lines) (c ∷ d ∷ contents) → HasNoMark l → AllZip Spell wanted parts
    → Say (flat_map records_in (c ∷ d ∷ contents) ++ behind) (lines_in parts)
    → Asks (flat_map records_in (c ∷ d ∷ contents)) behind wanted
block_asks block l m lines [] d contents wanted parts behind opened ends ended mark each h =
    let one = line_opens l [] block ended.0 mark opened in
    let e = one.1 in absurd cc
block_asks block l m lines (b ∷ c) d contents [] [] behind opened ends ended mark each h = absurd cc
block_asks block l m lines (b ∷ c) d contents [] (part ∷ parts) behind opened ends ended mark each h = absurd each
block_asks block l m lines (b ∷ c) d contents (request ∷ wanted) [] behind opened ends ended mark each h = absurd each
block_asks block l m lines (b ∷ c) d contents (request ∷ wanted) (part ∷ parts) behind opened ends ended mark each h =
    elim (shape_of request part each.0) [
      | inl alone ↦ let first = first_says (fields_from [] (b ∷ c)) (flat_map records_in (d ∷ contents) ++ behind)
          alone.0 (lines_in parts) (h ∙ ap (λ p. map Ok (p ++ lines_in parts)) alone.2) in
          absurd (no_lone_opens block alone.0 alone.1 (first_opens l (b ∷ c) block alone.0 opened ended.0 mark
          (fields_from [] (b ∷ c)) refl first.0))
      | inr is ↦ block_asks_one block request part l m lines b c d contents wanted parts behind is opened ends ended
          mark each.0 each.1 h
    ]

lines_ask : (lines contents : List (List ℕ)) (wanted : List RequestRecord) (parts : List (List ScriptLine))
    (behind : List (List (List ℕ)))
    → MakeRequest lines → AllZip Ended lines contents → FirstHasNoMark lines → AllZip Spell wanted parts
    → Say (flat_map records_in contents ++ behind) (lines_in parts)
    → Asks (flat_map records_in contents) behind wanted
lines_ask [] contents wanted parts behind makes ended mark each h = absurd makes
lines_ask (l ∷ lines) [] wanted parts behind makes ended mark each h = absurd ended
lines_ask (l ∷ []) (c ∷ d ∷ contents) wanted parts behind makes ended mark each h = absurd ended.1
lines_ask (l ∷ m ∷ lines) (c ∷ []) wanted parts behind makes ended mark each h = absurd ended.1
lines_ask (l ∷ []) (c ∷ []) wanted parts behind makes ended mark each h =
    one_line_asks l c wanted parts behind makes ended.0 mark each h
lines_ask (l ∷ m ∷ lines) (c ∷ d ∷ contents) wanted parts behind makes ended mark each h =
    block_asks makes.0 l m lines c d contents wanted parts behind makes.1 makes.2 ended mark each h

first_unmarked : (lines : List (List ℕ)) → AllByRecursion IsLine lines → HasNoMark (concat lines)
    → FirstHasNoMark lines
first_unmarked [] each none = tt
first_unmarked (l ∷ lines) each none =
    append_cancel_right (strip_bom l) l (concat lines) (sym (strip_line l (concat lines) each.0) ∙ none)

-- a request has a line, so that a byte order mark stands in it or not, whatever follows
request_has_lines : (request : List ℕ) → (p : IsRequest request) → p.lines ≢ []
request_has_lines request p = λ none. subst MakeRequest none p.makes

strip_request : (request y : List ℕ) → IsRequest request → strip_bom (request ++ y) ≡ strip_bom request ++ y
strip_request request y p =
    let P : List ℕ → Type 0 = λ t. strip_bom (t ++ y) ≡ strip_bom t ++ y in
    subst P (sym p.joined) (strip_lines p.lines y p.each (request_has_lines request p))

-- so none stands at the front of a text whose requests have none
text_unmarked : (requests : List (List ℕ)) (rest : List ℕ) → AllByRecursion IsRequest requests
    → AllByRecursion HasNoMark (request_texts requests rest) → HasNoMark (concat requests ++ rest)
text_unmarked [] rest each none = grind arith
text_unmarked (p ∷ requests) rest each none = grind (arith, append_assoc, strip_request)

-- the contents of a request's lines, where something stands behind it
request_contents : (request more : List ℕ) → (p : IsRequest request) → HasNoLoneReturn (request ++ more)
    → (contents : List (List ℕ)) × AllZip Ended p.lines contents × HasNoLoneReturn more
request_contents request more p none =
    contents_of p.lines more p.each (subst (λ t. HasNoLoneReturn (t ++ more)) p.joined none)

-- the records of a text, from its front on
text_records : (text : List ℕ) (requests : List (List ℕ)) (rest : List ℕ) (records : List (List (List ℕ)))
    → (cut : IsCutInto text requests rest) → AllByRecursion HasNoMark (request_texts requests rest)
    → HasRecords text records → RecordsFrom (concat requests ++ rest) records
text_records text requests rest records cut marks are =
    subst (λ t. RecordsFrom t records)
    (ap strip_bom cut.joined ∙ text_unmarked requests rest cut.each marks) are

joined_more : (wanted asked left last : List RequestRecord) (each : List (List RequestRecord))
    → wanted ≡ asked ++ left → left ≡ flat_map (λ r. r) each ++ last
    → wanted ≡ flat_map (λ r. r) (asked ∷ each) ++ last
joined_more wanted asked left last each parted joined =
    parted ∙ ap (λ r. asked ++ r) joined ∙ sym (append_assoc asked (flat_map (λ r. r) each) last)

texts_ask : (most : ℕ) (requests : List (List ℕ)) (rest : List ℕ) (records : List (List (List ℕ)))
    (wanted : List RequestRecord) (parts : List (List ScriptLine))
    → AllByRecursion IsRequest requests → HasNoLoneReturn (concat requests ++ rest)
    → AllByRecursion HasNoMark (request_texts requests rest) → RecordsFrom (concat requests ++ rest) records
    → length records ≤ most → AllByRecursion IsWholeRequest wanted → AllZip Spell wanted parts
    → Say records (lines_in parts) → AskedBy most requests rest wanted
texts_ask most [] rest records wanted parts each none marks are few whole spell h = record {
  each = [];
  last = wanted;
  joined = refl;
  spelled = tt;
  few = tt;
  spelled_last = record {
    records = records;
    all = unmarked rest records marks.0 are;
    few = few;
    lines = lines_in parts;
    said = h;
    spelled = record { parts = parts; each = spell; joined = refl };
    whole = All-from_recursion IsWholeRequest wanted whole;
  };
}
texts_ask most (p ∷ requests) rest records wanted parts each none marks are few whole spell h =
    let regrouped = append_assoc p (concat requests) rest in
    let contents = request_contents p (concat requests ++ rest) each.0 (subst HasNoLoneReturn regrouped none) in
    let has = lines_have p each.0.lines contents.0 each.0.joined contents.1 in
    let front = flat_map records_in contents.0 in
    let first = has.split (concat requests ++ rest) records (subst (λ t. RecordsFrom t records) regrouped are) in
    let mark = first_unmarked each.0.lines each.0.each (subst HasNoMark each.0.joined marks.0) in
    let asks = lines_ask each.0.lines contents.0 wanted parts first.0 each.0.makes contents.1 mark spell
    (ap (map line_of) (sym first.1) ∙ h) in
    let wholes = all-parts IsWholeRequest asks.asked asks.left
    (subst (AllByRecursion IsWholeRequest) asks.parted whole) in
    let count = ap length first.1 ∙ length-append front first.0 in
    let later = texts_ask most requests rest first.0 asks.left asks.behind_parts each.1 contents.2 marks.1 first.2
    (omega (arith, few, count)) wholes.1 asks.behind_each asks.behind_says in
    let own : SpellsScript most p asks.asked = record {
      records = front;
      all = unmarked p front marks.0 has.own;
      few = omega (arith, few, count);
      lines = lines_in asks.parts;
      said = asks.says;
      spelled = record { parts = asks.parts; each = asks.each; joined = refl };
      whole = All-from_recursion IsWholeRequest asks.asked wholes.0;
    } in
    record {
      each = asks.asked ∷ later.each;
      last = later.last;
      joined = joined_more wanted asks.asked asks.left later.last later.each asks.parted later.joined;
      spelled = (own, later.spelled);
      few = (asks.one, later.few);
      spelled_last = later.spelled_last;
    }

pub script_of_requests_of : (most : ℕ) (text : List ℕ) → HasScriptOfRequests most text
script_of_requests_of most text = λ requests rest wanted cut none marks spells.
    texts_ask most requests rest spells.records wanted spells.spelled.parts cut.each
    (subst HasNoLoneReturn cut.joined none) marks
    (text_records text requests rest spells.records cut marks spells.all) spells.few
    (recursion_from_All IsWholeRequest wanted spells.whole) spells.spelled.each
    (spells.said ∙ ap (map Ok) spells.spelled.joined)
