use Rattle.std.proofs.Common.{arith}
-- The text of a commit spells its lines.
use Rattle.std.proofs.Common.{◌≡◌, ℕ, ◌^◌, ◌<◌, List, [], ◌∷◌, ◌++◌, map, drop, refl, sym, ap, ◌∙◌, decimal, codes}
use Rattle.std.specs.List.{AllByRecursion, flat_map}
use Rattle.row_store.specs.History.{CommitRecord}
use Rattle.ssb_text.specs.Spelling.{without_spaces}
use Rattle.ssb_schema.specs.Columns.{Number}
use Rattle.ssb_schema.specs.Rows.{line_values}
use Rattle.ssb_schema.specs.declared.line.LineFields.{LineFields}
use Rattle.ssb_schema.specs.declared.refresh.Action.{Action}
use Rattle.ssb_schema.specs.declared.refresh.Action.TheVariants as action
use Rattle.ssb_script.specs.Lines.{ScriptLine, line_or_refusal}
use Rattle.ssb_script.specs.Lines as script
use Rattle.ssb_script.specs.Requests.{lines_of_action}
use Rattle.ssb_script.specs.declared.control.OrderOpening.TheVariants as opening
use Rattle.ssb_trace.specs.TraceText.{action_text, begun_text, commit_text, line_text}
use Rattle.ssb_text.specs.TableText.{column_text, record_text, row_text}
use Rattle.ssb_trace.specs.Entries.{in_commit, lines_of_commit}
use Rattle.ssb_trace.specs.Lines.{TraceLine, Begin, Inside, Says, word_of}
use Rattle.ssb_trace.specs.Allowed.{IsAllowedAction, IsAllowedCommit, IsAllowedLine, IsClient}
use Rattle.ssb_trace.proofs.ClientLaws.{client_read, client_small}
use Rattle.ssb_text.proofs.RowTextLaws.{line_plain, line_read, row_record}
use Rattle.ssb_text.proofs.NumberTextLaws.{number_kept, number_read}
use Rattle.ssb_trace.proofs.WrittenLaws.{Written, written_as, written_both, written_each, written_map, written_one}

-- the records of a commit
says-begin : (client : ℕ) → IsClient client → Says (codes "commit" ∷ decimal client ∷ []) (Begin client)
unfolding word_of without_spaces
says-begin client is = rw ((number_kept client (client_small client is)).kept, client_read client is) refl

says-add : Says (codes "add" ∷ []) (Inside (script.Open opening.Add))
unfolding word_of without_spaces
says-add = refl

says-amend : Says (codes "amend" ∷ []) (Inside (script.Open opening.Amend))
unfolding word_of without_spaces
says-amend = refl

says-put : Says (codes "put" ∷ []) (Inside (script.Open opening.Put))
unfolding word_of without_spaces
says-put = refl

says-end : Says (codes "end" ∷ []) (Inside script.Commit)
unfolding word_of without_spaces
says-end = refl

says-withdraw : (key : ℕ) → key < 2 ^ 64 → Says (codes "withdraw" ∷ decimal key ∷ []) (Inside (script.Withdraw key))
unfolding word_of without_spaces
says-withdraw key small = rw ((number_kept key small).kept, number_read key small) refl

says-line : (line : LineFields) → IsAllowedLine line → Says (codes "line" ∷ map column_text (line_values line))
    (Inside (script.Line line))
unfolding word_of without_spaces
says-line line allowed = ap line_or_refusal (line_read line allowed)

written-line : (line : LineFields) → IsAllowedLine line → Written (line_text line) (Inside (script.Line line) ∷ [])
written-line line allowed =
    written_one (codes "line" ∷ map column_text (line_values line)) (Inside (script.Line line))
    (refl, refl, line_plain line allowed) (says-line line allowed)

-- the record of a line is its word and the row
pub line_in_parts : (line : LineFields) → line_text line ≡ (codes "line|" ++ []) ++ row_text (line_values line)
line_in_parts line =
    ap (λ row. codes "line|" ++ row) (sym (row_record (Number line.order_key) (drop 1 (line_values line))))

written-end : Written (record_text (codes "end") []) (Inside script.Commit ∷ [])
written-end = written_one (codes "end" ∷ []) (Inside script.Commit) (refl, refl, tt) says-end

written-begin : (client : ℕ) → IsClient client → Written (record_text (codes "commit") (decimal client ∷ []))
    (Begin client ∷ [])
written-begin client is =
    written_one (codes "commit" ∷ decimal client ∷ []) (Begin client)
    (refl, refl, ((number_kept client (client_small client is)).plain, tt)) (says-begin client is)

-- the lines of an order, in a commit
each-line : (order : List LineFields) → AllByRecursion IsAllowedLine order
    → AllByRecursion (λ line. Written (line_text line) (Inside (script.Line line) ∷ [])) order
each-line [] all = tt
each-line (line ∷ order) all = (written-line line all.0, each-line order all.1)

lines-inside : (client : ℕ) (order : List LineFields) → map (λ line. Inside (script.Line line)) order ≡ map
    (in_commit client) (map script.Line order)
lines-inside client [] = refl
lines-inside client (line ∷ order) = ap (λ rest. Inside (script.Line line) ∷ rest) (lines-inside client order)

written-lines : (client : ℕ) (order : List LineFields) → AllByRecursion IsAllowedLine order
    → Written (flat_map line_text order) (map (in_commit client) (map script.Line order))
written-lines client order all =
    written_as (flat_map line_text order) (flat_map line_text order) (map (λ line. Inside (script.Line line)) order)
    (map (in_commit client) (map script.Line order))
    refl (lines-inside client order)
    (written_map line_text (λ line. Inside (script.Line line)) order (each-line order all))

-- an action, in a commit
inside : ℕ → Action → List TraceLine
inside client a = map (in_commit client) (lines_of_action a)

written-action : (client : ℕ) (a : Action) → IsAllowedAction a → Written (action_text a) (inside client a)
unfolding inside
written-action client (action.Add order) allowed =
    written_both (record_text (codes "add") []) (flat_map line_text order) (Inside (script.Open opening.Add) ∷ [])
    (map (in_commit client) (map script.Line order))
    (written_one (codes "add" ∷ []) (Inside (script.Open opening.Add)) (refl, refl, tt) says-add)
    (written-lines client order allowed)
written-action client (action.Amend order) allowed =
    written_both (record_text (codes "amend") []) (flat_map line_text order) (Inside (script.Open opening.Amend) ∷ [])
    (map (in_commit client) (map script.Line order))
    (written_one (codes "amend" ∷ []) (Inside (script.Open opening.Amend)) (refl, refl, tt) says-amend)
    (written-lines client order allowed)
written-action client (action.Put order) allowed =
    written_both (record_text (codes "put") []) (flat_map line_text order) (Inside (script.Open opening.Put) ∷ [])
    (map (in_commit client) (map script.Line order))
    (written_one (codes "put" ∷ []) (Inside (script.Open opening.Put)) (refl, refl, tt) says-put)
    (written-lines client order allowed)
written-action client (action.Withdraw key) allowed =
    written_one (codes "withdraw" ∷ decimal key ∷ []) (Inside (script.Withdraw key))
    (refl, refl, ((number_kept key allowed).plain, tt)) (says-withdraw key allowed)

each-action : (client : ℕ) (actions : List Action) → AllByRecursion IsAllowedAction actions
    → AllByRecursion (λ a. Written (action_text a) (inside client a)) actions
each-action client [] all = tt
each-action client (a ∷ actions) all = (written-action client a all.0, each-action client actions all.1)

-- the lines of the actions and the end, in a commit
map-both : (f : ScriptLine → TraceLine) (one other : List ScriptLine) → map f (one ++ other) ≡ map f one ++ map f other
map-both f [] other = refl
map-both f (line ∷ one) other = ap (λ rest. f line ∷ rest) (map-both f one other)

actions-inside : (client : ℕ) (actions : List Action) → flat_map (inside client) actions ≡ map (in_commit client)
    (flat_map lines_of_action actions)
unfolding inside
actions-inside client [] = grind arith
actions-inside client (a ∷ actions) = grind (arith, map-both, actions-inside client actions)

lines-of-rest : (client : ℕ) (actions : List Action)
    → flat_map (inside client) actions ++ Inside script.Commit ∷ [] ≡ map (in_commit client)
    (flat_map lines_of_action actions ++ script.Commit ∷ [])
lines-of-rest client actions =
    ap (λ front. front ++ Inside script.Commit ∷ []) (actions-inside client actions)
    ∙ sym (map-both (in_commit client) (flat_map lines_of_action actions) (script.Commit ∷ []))

pub written_commit : (commit : CommitRecord) → IsAllowedCommit commit
    → Written (commit_text commit) (lines_of_commit commit)
written_commit commit allowed =
    let client = commit.client in
    let front : Written (begun_text client commit.actions) (Begin client ∷ flat_map (inside client) commit.actions)
    = written_both (record_text (codes "commit") (decimal client ∷ [])) (flat_map action_text commit.actions)
    (Begin client ∷ []) (flat_map (inside client) commit.actions)
    (written-begin client allowed.client)
    (written_each action_text (inside client) commit.actions (each-action client commit.actions allowed.actions)) in
    written_as (commit_text commit) (commit_text commit)
    (Begin client ∷ (flat_map (inside client) commit.actions ++ Inside script.Commit ∷ [])) (lines_of_commit commit)
    refl (ap (λ rest. Begin client ∷ rest) (lines-of-rest client commit.actions))
    (written_both (begun_text client commit.actions) (record_text (codes "end") [])
    (Begin client ∷ flat_map (inside client) commit.actions) (Inside script.Commit ∷ []) front written-end)
