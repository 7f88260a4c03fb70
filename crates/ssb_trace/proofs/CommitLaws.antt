-- Of the lines of a commit, which are those of a refresh: no refresh begins inside another.
use Rattle.std.proofs.Common.{◌≡◌, ℕ, ◌+◌, true, false, List, [], ◌∷◌, ◌++◌, Option, Some, None, Result, Ok, Err, map}
use Rattle.std.proofs.Common.{refl, sym, ap, ◌∙◌, subst, arith, Bool}
use Rattle.std.specs.List.{All}
use Rattle.std.specs.Option.{option_map}
use Rattle.std.specs.Bool.{if◌then◌else◌}
use Rattle.std.proofs.lemmas.List.{append-nil, map-append}
use Rattle.std.proofs.lemmas.List.Elements.{All-head, All-nil, All-push}
use Rattle.ssb_text.specs.Records.{has_columns}
use Rattle.ssb_text.specs.declared.error.LineFault.{LineFault}
use Rattle.ssb_text.specs.declared.error.LineFault.TheVariants as fault
use Rattle.ssb_schema.specs.Columns as columns
use Rattle.ssb_schema.specs.declared.refresh.Action.{Action}
use Rattle.ssb_schema.specs.declared.refresh.Action.TheVariants as action
use Rattle.ssb_script.specs.Begun.{Begun}
use Rattle.ssb_script.specs.Begun as begun
use Rattle.ssb_script.specs.Lines.{ScriptLine, line_or_bad, line_or_refusal}
use Rattle.ssb_script.specs.Lines as script
use Rattle.ssb_script.specs.Requests.{RequestRecord, Refresh, Ask, Abort, IsWholeAction, IsWholeRequest}
use Rattle.ssb_script.specs.Requests.{lines_of_refresh, request_of}
use Rattle.ssb_script.specs.Scripts.{Spell, is_refreshing, lines_of_begun}
use Rattle.ssb_script.specs.Steps.{AreTaken, Follows as FollowsInScript, asked, begun_in}
use Rattle.ssb_script.specs.declared.begun.ScriptStep.{ScriptStep}
use Rattle.std.specs.Option.{option_to_list}
use Rattle.ssb_script.specs.declared.request.Request.{Request}
use Rattle.ssb_questions.specs.declared.value.Value.{Value}
use Rattle.ssb_trace.specs.Entries.{IsWholeEntry, in_commit, lines_of_commit}
use Rattle.ssb_script.specs.declared.begun.Begun.TheVariants as held
use Rattle.ssb_script.specs.declared.error.ScriptError.{ScriptError}
use Rattle.std.specs.Result.{IfOk}
use Rattle.ssb_trace.specs.Lines.{TraceLine, Begin, Inside, SaysAfter, line_inside}
use Rattle.ssb_trace.specs.Steps.{Follows, StandsInside, Takes, TakesRecord}
use Rattle.ssb_trace.specs.declared.unfinished.TraceStep.{TraceStep}
use Rattle.ssb_trace.specs.declared.unfinished.Unfinished.{Unfinished}
use Rattle.ssb_trace.specs.declared.entry.TraceEntry.TheVariants as entry
use Rattle.ssb_trace.specs.declared.unfinished.Unfinished.TheVariants as unfinished
use Rattle.ssb_trace.specs.declared.word.TraceWord.{TraceWord}
use Rattle.ssb_trace.specs.declared.word.TraceWord.TheVariants as word

-- a record that says something in a commit says what may stand in a refresh
same_line : (spelled line : ScriptLine) → line_or_bad (Some spelled) ≡ Ok line → spelled ≡ line
same_line spelled line e = cc

of_alone : (spelled line : ScriptLine) (only : Bool) → StandsInside spelled
    → line_or_bad (if only then Some spelled else None) ≡ Ok line → StandsInside line
of_alone spelled line true stands e = subst StandsInside (same_line spelled line e) stands
of_alone spelled line false stands e = absurd cc

of_key : (key : Option ℕ) (line : ScriptLine) → line_or_bad (option_map script.Withdraw key) ≡ Ok line
    → StandsInside line
of_key (Some key) line e = subst StandsInside (same_line (script.Withdraw key) line e) tt
of_key None line e = absurd cc

of_row : (row : Result (List columns.Value) LineFault) (line : ScriptLine) → line_or_refusal row ≡ Ok line
    → StandsInside line
of_row (Ok values) line e = subst StandsInside (same_line (script.Line (script.line_with values)) line e) tt
of_row (Err (fault.Refused why)) line e = absurd cc
of_row (Err fault.FieldCount) line e = absurd cc
of_row (Err (fault.NotUtf8 column)) line e = absurd cc
of_row (Err (fault.NotANumber column)) line e = absurd cc
of_row (Err fault.OutOfMemory) line e = absurd cc

pub stands_inside : (w : Option TraceWord) (fields : List (List ℕ)) (line : ScriptLine) → line_inside w fields ≡ Ok line
    → StandsInside line
stands_inside None fields line e = absurd cc
stands_inside (Some word.Commit) fields line e = absurd cc
stands_inside (Some word.Add) fields line e = of_alone _ line (has_columns 1 fields) tt e
stands_inside (Some word.Amend) fields line e = of_alone _ line (has_columns 1 fields) tt e
stands_inside (Some word.Put) fields line e = of_alone _ line (has_columns 1 fields) tt e
stands_inside (Some word.Line) fields line e = of_row _ line e
stands_inside (Some word.Withdraw) fields line e = of_key (script.key_of fields) line e
stands_inside (Some word.End) fields line e = of_alone _ line (has_columns 1 fields) tt e
stands_inside (Some word.Answer) fields line e = absurd cc
stands_inside (Some word.Row) fields line e = absurd cc

ended_one : (request : Option Request) (one : RequestRecord) (lines : List ScriptLine) (b : Begun)
    → map request_of (option_to_list request) ≡ one ∷ [] → AreTaken lines request b → Spell one lines
ended_one None one lines b is taken = absurd cc
ended_one (Some request) one lines b is taken =
    let same : request_of request ≡ one = cc in
    subst (λ (r : RequestRecord). Spell r lines) same taken.0

-- the step of a script's refresh, in which nothing, or a refresh, ended
module _ (number : ℕ) (old : Begun) (line : ScriptLine) (step : ScriptStep) (inside : is_refreshing old ≡ true)
    (stands : StandsInside line) (follows : FollowsInScript number old line step) where
  pub lines_whole : (actions : List Action) → asked step ≡ Refresh actions ∷ [] → lines_of_begun old
      ++ line ∷ [] ≡ lines_of_refresh actions
  lines_whole actions one =
      ended_one step.request (Refresh actions) (lines_of_begun old ++ line ∷ []) (begun_in step.begun) one
      follows.taken

  pub takes_refresh : (client : ℕ) (actions : List Action) → asked step ≡ Refresh actions ∷ []
      → Takes number (map (in_commit client) (lines_of_begun old ++ line ∷ []))
      (record {
        entry = Some (entry.Commit (record { client = client; actions = actions }));
        unfinished = unfinished.Nothing;
      })
  takes_refresh client actions one =
      let commit = lines_of_commit (record { client = client; actions = actions }) in
      let whole : All IsWholeRequest (Refresh actions ∷ []) = rw one at follows.whole in
      record {
        lines = ap (map (in_commit client)) (lines_whole actions one)
            ∙ (sym (append-nil commit) ∙ sym (append-nil (commit ++ [])));
        whole = All-push IsWholeEntry [] (entry.Commit (record { client = client; actions = actions }))
            (All-nil IsWholeEntry) (All-head IsWholeRequest (Refresh actions) [] whole);
        unfinished = tt;
      }

-- a line that may stand in a refresh, in a commit
in_commit-inside : (client : ℕ) (line : ScriptLine) → StandsInside line → in_commit client line ≡ Inside line
in_commit-inside client (script.Query question) stands = refl
in_commit-inside client (script.Sql text) stands = refl
in_commit-inside client (script.Order key) stands = absurd stands
in_commit-inside client script.Begin stands = absurd stands
in_commit-inside client (script.Open opening) stands = refl
in_commit-inside client (script.Line row) stands = refl
in_commit-inside client (script.Withdraw key) stands = refl
in_commit-inside client script.Commit stands = refl
in_commit-inside client script.Ask stands = absurd stands
in_commit-inside client script.Answer stands = absurd stands
in_commit-inside client script.Abort stands = absurd stands

pub lines-inside : (client : ℕ) (lines : List ScriptLine) (line : ScriptLine) → StandsInside line
    → map (in_commit client) (lines ++ line ∷ []) ≡ map (in_commit client) lines ++ Inside line ∷ []
lines-inside client lines line stands = map-append (in_commit client) lines (line ∷ [])
    ∙ ap (λ last. map (in_commit client) lines ++ last ∷ []) (in_commit-inside client line stands)

-- a commit that begins has no line but its first
pub takes_first : (number client : ℕ) (actions : List Action) → actions ≡ []
    → Takes number (Begin client ∷ []) (record {
      entry = None;
      unfinished = unfinished.Commit (record { client = client; begun = held.Refresh actions });
    })
takes_first number client actions none = rw none (record {
  lines = refl;
  whole = All-nil IsWholeEntry;
  unfinished = (refl, (omega arith, All-nil IsWholeAction), refl);
})

-- a record that says this line gives what follows it
pub takes_said : (result : Result TraceStep ScriptError) (number : ℕ) (old : Unfinished) (w : Option TraceWord)
    (fields : List (List ℕ)) (line : TraceLine)
    → SaysAfter w fields line → IfOk result (λ step. (n : ℕ) → Follows n old line step)
    → IfOk result (TakesRecord number old w fields)
takes_said (Ok step) number old w fields line says follows = (line, says, follows number)
takes_said (Err e) number old w fields line says follows = tt
