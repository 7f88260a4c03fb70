-- The lines that are read directly off the start of a text are those of its records.
use Rattle.std.proofs.Common.{◌≡◌, ℕ, List, [], ◌∷◌, ◌++◌, Some, Ok, length, length-append, map, refl, sym, ap, ◌∙◌}
use Rattle.std.proofs.Common.{subst, append_assoc, append-nil, arith}
use Rattle.std.specs.List.{All, flat_map}
use Rattle.std.proofs.lemmas.Grind.{flat_map-append}
use Rattle.std.proofs.lemmas.List.{map-append}
use Rattle.std.proofs.lemmas.List.Elements.{All-push, recursion_from_All}
use Rattle.csv.specs.Machine.{next_record}
use Rattle.csv.specs.Reading.{Reached}
use Rattle.csv.specs.declared.parser.State.{State}
use Rattle.csv.specs.declared.parser.State.TheVariants as st
use Rattle.row_store.specs.History.{CommitRecord}
use Rattle.ssb_schema.specs.Numerals.{number_of}
use Rattle.ssb_schema.specs.Rows.{line_values}
use Rattle.ssb_schema.specs.declared.line.LineFields.{LineFields}
use Rattle.ssb_schema.specs.declared.refresh.Action.{Action}
use Rattle.ssb_schema.specs.declared.refresh.Action.TheVariants as action
use Rattle.ssb_schema.specs.declared.table.Table.TheVariants as table
use Rattle.ssb_script.specs.Lines.{ScriptLine}
use Rattle.ssb_script.specs.Lines as script
use Rattle.ssb_script.specs.Requests.{IsWholeRequest, Refresh, lines_of_action}
use Rattle.ssb_script.specs.declared.control.OrderOpening.TheVariants.{Add, Amend, Put}
use Rattle.ssb_text.specs.Direct.{BeginsWithLined, BeginsWithNumbered, BeginsWithRecord}
use Rattle.ssb_text.specs.Records.{HasRecords, record_config}
use Rattle.ssb_text.specs.Row.{row_of}
use Rattle.ssb_text.specs.Spelling.{without_spaces}
use Rattle.ssb_text.specs.TextLines.{HasNoMark}
use Rattle.ssb_trace.specs.Direct.{BeginsWithLines, SpellsCommits, lines_in}
use Rattle.ssb_trace.specs.Entries.{in_commit, lines_of_commit}
use Rattle.ssb_trace.specs.Heads.{client_numbered}
use Rattle.ssb_trace.specs.Lines.{TraceLine, Begin, Inside, AreLines, Says, word_of}
use Rattle.ssb_trace.specs.declared.word.TraceWord.TheVariants as word
use Rattle.ssb_trace.proofs.InOrderLaws.{spells_in_order}
use Rattle.ssb_trace.proofs.WrittenLaws.{said-both}

-- Records one after another.

reached_both : (rs ss : List (List (List ℕ))) (s t u : State) (xs ys zs : List ℕ)
    → Reached record_config s xs rs t ys → Reached record_config t ys ss u zs
    → Reached record_config s xs (rs ++ ss) u zs
unfolding Reached
reached_both [] ss s t u xs ys zs first later = rw (first.0, first.1) later
reached_both (r ∷ rs) ss s t u xs ys zs first later =
    (first.0, first.1, first.2, reached_both rs ss first.0.1 t u first.0.2 ys zs first.3 later)

pub begins_none : (text : List ℕ) → BeginsWithLines text [] text
unfolding Reached
begins_none text = record { records = []; reached = (refl, refl); said = tt; fewer = omega arith }

pub begins_both : {text behind end : List ℕ} {first later : List TraceLine} → BeginsWithLines text first behind
    → BeginsWithLines behind later end → BeginsWithLines text (first ++ later) end
begins_both {text} {behind} {end} {first} {later} one other = record {
  records = one.records ++ other.records;
  reached = reached_both one.records other.records st.StartRecord st.StartRecord st.StartRecord text behind end
      one.reached other.reached;
  said = said-both one.records other.records first later one.said other.said;
  fewer = omega (arith, one.fewer, other.fewer, length-append one.records other.records);
}

begins_one : {text behind : List ℕ} {fields : List (List ℕ)} {line : TraceLine} → BeginsWithRecord text fields behind
    → Says fields line → BeginsWithLines text (line ∷ []) behind
unfolding Reached
begins_one {text} {behind} {fields} {line} begins says = record {
  records = fields ∷ [];
  reached = ((fields, st.StartRecord, behind), begins.first, refl, (refl, refl));
  said = (says, tt);
  fewer = omega (arith, begins.fewer);
}

-- What the records say.

says_add : Says ((97 ∷ 100 ∷ 100 ∷ []) ∷ []) (Inside (script.Open Add))
unfolding word_of without_spaces
says_add = refl

says_amend : Says ((97 ∷ 109 ∷ 101 ∷ 110 ∷ 100 ∷ []) ∷ []) (Inside (script.Open Amend))
unfolding word_of without_spaces
says_amend = refl

says_put : Says ((112 ∷ 117 ∷ 116 ∷ []) ∷ []) (Inside (script.Open Put))
unfolding word_of without_spaces
says_put = refl

says_end : Says ((101 ∷ 110 ∷ 100 ∷ []) ∷ []) (Inside script.Commit)
unfolding word_of without_spaces
says_end = refl

abbrev withdraw_word : List ℕ
withdraw_word = 119 ∷ 105 ∷ 116 ∷ 104 ∷ 100 ∷ 114 ∷ 97 ∷ 119 ∷ []

abbrev commit_word : List ℕ
commit_word = 99 ∷ 111 ∷ 109 ∷ 109 ∷ 105 ∷ 116 ∷ []

abbrev line_word : List ℕ
line_word = 108 ∷ 105 ∷ 110 ∷ 101 ∷ []

withdraw_is : (fields : List (List ℕ)) → word_of (withdraw_word ∷ fields) ≡ Some word.Withdraw
unfolding word_of without_spaces
withdraw_is fields = refl

commit_is : (fields : List (List ℕ)) → word_of (commit_word ∷ fields) ≡ Some word.Commit
unfolding word_of without_spaces
commit_is fields = refl

line_is : (fields : List (List ℕ)) → word_of (line_word ∷ fields) ≡ Some word.Line
unfolding word_of without_spaces
line_is fields = refl

says_withdraw : (field : List ℕ) (key : ℕ) → number_of (without_spaces field) ≡ Some key
    → Says (withdraw_word ∷ field ∷ []) (Inside (script.Withdraw key))
says_withdraw field key spelled = rw (withdraw_is (field ∷ []), spelled) refl

says_commit : (field : List ℕ) (number client : ℕ) → number_of (without_spaces field) ≡ Some number
    → client_numbered number ≡ Some client → Says (commit_word ∷ field ∷ []) (Begin client)
says_commit field number client spelled is = rw (commit_is (field ∷ []), spelled, is) refl

says_line : (fields : List (List ℕ)) (line : LineFields) → row_of table.Lineorder fields ≡ Ok (line_values line)
    → Says (line_word ∷ fields) (Inside (script.Line line))
says_line fields line spelled = rw (line_is fields, spelled) refl

-- What stands at the start of a text.

pub begins_add : {text behind end : List ℕ} (lines : List ScriptLine)
    → BeginsWithRecord text ((97 ∷ 100 ∷ 100 ∷ []) ∷ []) behind
    → BeginsWithLines behind (lines_in lines) end → BeginsWithLines text (lines_in (script.Open Add ∷ lines)) end
begins_add lines begins rest = begins_both (begins_one begins says_add) rest

pub begins_amend : {text behind end : List ℕ} (lines : List ScriptLine)
    → BeginsWithRecord text ((97 ∷ 109 ∷ 101 ∷ 110 ∷ 100 ∷ []) ∷ []) behind
    → BeginsWithLines behind (lines_in lines) end → BeginsWithLines text (lines_in (script.Open Amend ∷ lines)) end
begins_amend lines begins rest = begins_both (begins_one begins says_amend) rest

pub begins_put : {text behind end : List ℕ} (lines : List ScriptLine)
    → BeginsWithRecord text ((112 ∷ 117 ∷ 116 ∷ []) ∷ []) behind
    → BeginsWithLines behind (lines_in lines) end → BeginsWithLines text (lines_in (script.Open Put ∷ lines)) end
begins_put lines begins rest = begins_both (begins_one begins says_put) rest

pub begins_withdraw : {text behind : List ℕ} {key : ℕ} → BeginsWithNumbered withdraw_word text key behind
    → BeginsWithLines text (lines_in (script.Withdraw key ∷ [])) behind
begins_withdraw {text} {behind} {key} begins =
    begins_one begins.begins (says_withdraw begins.field key begins.spelled)

-- one line more behind others
pub lines_more : {text behind end : List ℕ} (lines : List LineFields) (line : LineFields)
    → BeginsWithLines text (lines_in (map script.Line lines)) behind
    → BeginsWithLined line_word behind (line_values line) end
    → BeginsWithLines text (lines_in (map script.Line (lines ++ line ∷ []))) end
lines_more {text} {behind} {end} lines line so_far begins =
    rw (map-append script.Line lines (line ∷ []), map-append Inside (map script.Line lines) (script.Line line ∷ []))
    (begins_both so_far (begins_one begins.begins (says_line begins.fields line begins.spelled)))

abbrev pub lines_of_actions : List Action → List ScriptLine
lines_of_actions actions = flat_map lines_of_action actions

one_action : (one : Action) → flat_map lines_of_action (one ∷ []) ≡ lines_of_action one
one_action one = append-nil (lines_of_action one)

-- one action more behind others
pub actions_more : {text behind end : List ℕ} (actions : List Action) (one : Action)
    → BeginsWithLines text (lines_in (lines_of_actions actions)) behind
    → BeginsWithLines behind (lines_in (lines_of_action one)) end
    → BeginsWithLines text (lines_in (lines_of_actions (actions ++ one ∷ []))) end
actions_more {text} {behind} {end} actions one so_far begins =
    rw (
      flat_map-append lines_of_action actions (one ∷ []),
      one_action one,
      map-append Inside (lines_of_actions actions) (lines_of_action one),
    ) (begins_both so_far begins)

-- the end behind all actions
pub actions_end : {text behind end : List ℕ} (actions : List Action)
    → BeginsWithLines text (lines_in (lines_of_actions actions)) behind
    → BeginsWithRecord behind ((101 ∷ 110 ∷ 100 ∷ []) ∷ []) end
    → BeginsWithLines text (lines_in (lines_of_actions actions ++ script.Commit ∷ [])) end
actions_end {text} {behind} {end} actions so_far begins =
    rw (map-append Inside (lines_of_actions actions) (script.Commit ∷ [])) (begins_both so_far (begins_one begins says_end))

-- The lines of a commit are those of its refresh.

order_inside : (client : ℕ) (order : List LineFields)
    → map (in_commit client) (map script.Line order) ≡ lines_in (map script.Line order)
order_inside client [] = refl
order_inside client (line ∷ order) = ap (λ rest. Inside (script.Line line) ∷ rest) (order_inside client order)

action_inside : (client : ℕ) (one : Action) → map (in_commit client) (lines_of_action one) ≡ lines_in (lines_of_action one)
action_inside client (action.Add order) = ap (λ rest. Inside (script.Open Add) ∷ rest) (order_inside client order)
action_inside client (action.Amend order) = ap (λ rest. Inside (script.Open Amend) ∷ rest) (order_inside client order)
action_inside client (action.Put order) = ap (λ rest. Inside (script.Open Put) ∷ rest) (order_inside client order)
action_inside client (action.Withdraw key) = refl

actions_inside : (client : ℕ) (actions : List Action)
    → map (in_commit client) (lines_of_actions actions ++ script.Commit ∷ [])
    ≡ lines_in (lines_of_actions actions ++ script.Commit ∷ [])
actions_inside client [] = refl
actions_inside client (one ∷ actions) =
    rw (
      append_assoc (lines_of_action one) (lines_of_actions actions) (script.Commit ∷ []),
      map-append (in_commit client) (lines_of_action one) (lines_of_actions actions ++ script.Commit ∷ []),
      map-append Inside (lines_of_action one) (lines_of_actions actions ++ script.Commit ∷ []),
      action_inside client one,
      actions_inside client actions,
    ) refl

pub begins_commit : {text behind end : List ℕ} {number client : ℕ} (actions : List Action)
    → BeginsWithNumbered commit_word text number behind → client_numbered number ≡ Some client
    → BeginsWithLines behind (lines_in (lines_of_actions actions ++ script.Commit ∷ [])) end
    → BeginsWithLines text (lines_of_commit (record { client = client; actions = actions })) end
begins_commit {text} {behind} {end} {number} {client} actions begins is rest =
    rw (actions_inside client actions)
    (begins_both (begins_one begins.begins (says_commit begins.field number client begins.spelled is)) rest)

-- The commits of a text.

pub record HasTaken (text rest : List ℕ) (commits : List CommitRecord) : Type 0 where
  pub unmarked : HasNoMark text
  pub begins : BeginsWithLines text (flat_map lines_of_commit commits) rest
  pub whole : All (λ commit. IsWholeRequest (Refresh commit.actions)) commits

one_commit : (commit : CommitRecord) → flat_map lines_of_commit (commit ∷ []) ≡ lines_of_commit commit
one_commit commit = append-nil (lines_of_commit commit)

pub commits_more : {text rest behind : List ℕ} {commits : List CommitRecord} (commit : CommitRecord)
    → HasTaken text rest commits → IsWholeRequest (Refresh commit.actions)
    → BeginsWithLines rest (lines_of_commit commit) behind → HasTaken text behind (commits ++ commit ∷ [])
commits_more {text} {rest} {behind} {commits} commit taken whole begins = record {
  unmarked = taken.unmarked;
  begins = rw (flat_map-append lines_of_commit commits (commit ∷ []), one_commit commit)
      (begins_both taken.begins begins);
  whole = All-push (λ c. IsWholeRequest (Refresh c.actions)) commits commit taken.whole whole;
}

all_records : (text rest : List ℕ) (records : List (List (List ℕ))) → HasNoMark text → rest ≡ []
    → Reached record_config st.StartRecord text records st.StartRecord rest → HasRecords text records
unfolding next_record
all_records text rest records unmarked none reached =
    rw unmarked (
      st.StartRecord,
      [],
      subst (λ t. Reached record_config st.StartRecord text records st.StartRecord t) none
          reached,
      refl,
    )

pub taken_all : {text rest : List ℕ} {commits : List CommitRecord} → HasTaken text rest commits → rest ≡ []
    → SpellsCommits text commits
taken_all {text} {rest} {commits} taken none =
    let records = taken.begins.records in
    let said = subst (λ lines. AreLines records lines) (sym (append-nil (flat_map lines_of_commit commits)))
    taken.begins.said in (
      length records,
      spells_in_order (length records) text records (record { commits = commits; answers = [] })
          (all_records text rest records taken.unmarked none taken.begins.reached) (omega arith) said
          (recursion_from_All (λ commit. IsWholeRequest (Refresh commit.actions)) commits taken.whole),
    )
