-- What a record spells, by its word.
use Rattle.std.proofs.Common.{◌≡◌, ℕ, Bool, true, false, List, Option, Some, None, Result, Ok, Err, refl, sym, ap, ◌∙◌}
use Rattle.std.proofs.Common.{if◌then◌else◌}
use Rattle.std.specs.Option.{option_map}
use Rattle.ssb_schema.specs.Columns as columns
use Rattle.ssb_text.specs.Records.{has_columns}
use Rattle.ssb_text.specs.declared.error.LineFault.{LineFault}
use Rattle.ssb_text.specs.declared.error.LineFault.TheVariants as fault
use Rattle.ssb_script.specs.Lines.{ScriptLine, RecordFault, alone, is_abort, is_line, line_after, line_of, line_or_bad}
use Rattle.ssb_script.specs.Lines.{line_or_refusal, word_of}
use Rattle.ssb_script.specs.Lines as line
use Rattle.ssb_script.specs.Steps.{line_of_row, line_of_control}
use Rattle.ssb_script.specs.declared.control.Control.{Control}
use Rattle.ssb_script.specs.declared.control.OrderOpening.TheVariants.{Add, Amend, Put}
use Rattle.ssb_script.specs.declared.order_line.OrderLine.{OrderLine}
use Rattle.ssb_script.specs.declared.word.ScriptWord.{ScriptWord}
use Rattle.ssb_script.specs.declared.word.ScriptWord.TheVariants as word

-- the only word of a `line`, and of an `abort`
line_word : (w : Option ScriptWord) → is_line w ≡ true → w ≡ Some word.Line
line_word (Some word.Line) is_one = refl
line_word _ is_one = absurd cc

abort_word : (w : Option ScriptWord) → is_abort w ≡ true → w ≡ Some word.Abort
abort_word (Some word.Abort) is_one = refl
abort_word _ is_one = absurd cc

-- a record whose word is `line` spells what its row does
pub line_of-row : (fields : List (List ℕ)) (w : Option ScriptWord) (found : OrderLine) → w ≡ word_of fields
    → is_line w ≡ true → line_after (Some word.Line) fields ≡ line_of_row found → line_of fields ≡ line_of_row found
unfolding line_of
line_of-row fields w found at is_one row = ap (λ v. line_after v fields) (sym at ∙ line_word w is_one) ∙ row

-- a record whose word is `abort` spells that, if it has no more than its word
pub line_of-abort : (fields : List (List ℕ)) (w : Option ScriptWord) → w ≡ word_of fields → is_abort w ≡ true
    → line_of fields ≡ line_or_bad (alone line.Abort fields)
unfolding line_of
line_of-abort fields w at is_one = ap (λ v. line_after v fields) (sym at ∙ abort_word w is_one)

-- a record of another word spells what its control does
pub line_of-control : (fields : List (List ℕ)) (w : Option ScriptWord) (found : Option Control) → w ≡ word_of fields
    → line_after w fields ≡ line_or_bad (option_map line_of_control found)
    → line_of fields ≡ line_or_bad (option_map line_of_control found)
unfolding line_of
line_of-control fields w found at control = ap (λ v. line_after v fields) (sym at) ∙ control

-- the word that a line begins with
abbrev pub word_for : ScriptLine → ScriptWord
word_for (line.Query question) = word.Query
word_for (line.Sql text) = word.Sql
word_for line.Begin = word.Begin
word_for (line.Open Add) = word.Add
word_for (line.Open Amend) = word.Amend
word_for (line.Open Put) = word.Put
word_for (line.Line row) = word.Line
word_for (line.Withdraw key) = word.Withdraw
word_for line.Commit = word.Commit
word_for line.Ask = word.Ask
word_for line.Answer = word.Answer
word_for (line.Order key) = word.Order
word_for line.Abort = word.Abort

same_line : (w : ScriptWord) (said l : ScriptLine) → word_for said ≡ w → line_or_bad (Some said) ≡ Ok l
    → Some w ≡ Some (word_for l)
same_line w said l is e = let same : said ≡ l = cc in ap Some (sym is ∙ ap word_for same)

by_option : {X : Type 0} (w : ScriptWord) (f : X → ScriptLine) (o : Option X) (l : ScriptLine)
    → ((x : X) → word_for (f x) ≡ w) → line_or_bad (option_map f o) ≡ Ok l → Some w ≡ Some (word_for l)
by_option w f None l is e = absurd cc
by_option w f (Some x) l is e = same_line w (f x) l (is x) e

by_row : (r : Result (List columns.Value) LineFault) (l : ScriptLine) → line_or_refusal r ≡ Ok l
    → Some word.Line ≡ Some (word_for l)
by_row (Ok values) l e = same_line word.Line (line.Line (line.line_with values)) l refl e
by_row (Err (fault.Refused why)) l e = absurd cc
by_row (Err _) l e = absurd cc

by_alone : (test : Bool) (said l : ScriptLine) → line_or_bad (if test then Some said else None) ≡ Ok l
    → Some (word_for said) ≡ Some (word_for l)
by_alone true said l e = same_line (word_for said) said l refl e
by_alone false said l e = absurd cc

-- what a record says begins with its word
pub word_said : (w : Option ScriptWord) (fields : List (List ℕ)) (l : ScriptLine) → line_after w fields ≡ Ok l
    → w ≡ Some (word_for l)
word_said None fields l e = absurd cc
word_said (Some word.Query) fields l e = by_option word.Query line.Query _ l (λ x. refl) e
word_said (Some word.Sql) fields l e = by_option word.Sql line.Sql _ l (λ x. refl) e
word_said (Some word.Begin) fields l e = by_alone _ line.Begin l e
word_said (Some word.Add) fields l e = by_alone _ (line.Open Add) l e
word_said (Some word.Amend) fields l e = by_alone _ (line.Open Amend) l e
word_said (Some word.Put) fields l e = by_alone _ (line.Open Put) l e
word_said (Some word.Line) fields l e = by_row _ l e
word_said (Some word.Withdraw) fields l e = by_option word.Withdraw line.Withdraw _ l (λ x. refl) e
word_said (Some word.Commit) fields l e = by_alone _ line.Commit l e
word_said (Some word.Ask) fields l e = by_alone _ line.Ask l e
word_said (Some word.Answer) fields l e = by_alone _ line.Answer l e
word_said (Some word.Order) fields l e = by_option word.Order line.Order _ l (λ x. refl) e
word_said (Some word.Abort) fields l e = by_alone _ line.Abort l e

-- the lines whose word stands alone in the record
abbrev pub IsAlone : ScriptLine → Type 0
IsAlone (line.Query question) = ⊥
IsAlone (line.Sql text) = ⊥
IsAlone line.Begin = Unit {0}
IsAlone (line.Open opening) = Unit {0}
IsAlone (line.Line row) = ⊥
IsAlone (line.Withdraw key) = ⊥
IsAlone line.Commit = Unit {0}
IsAlone line.Ask = Unit {0}
IsAlone line.Answer = Unit {0}
IsAlone (line.Order key) = ⊥
IsAlone line.Abort = Unit {0}

after_alone : (l : ScriptLine) (fields : List (List ℕ)) → IsAlone l
    → line_after (Some (word_for l)) fields ≡ line_or_bad (alone l fields)
after_alone (line.Query question) fields is = absurd is
after_alone (line.Sql text) fields is = absurd is
after_alone line.Begin fields is = refl
after_alone (line.Open Add) fields is = refl
after_alone (line.Open Amend) fields is = refl
after_alone (line.Open Put) fields is = refl
after_alone (line.Line row) fields is = absurd is
after_alone (line.Withdraw key) fields is = absurd is
after_alone line.Commit fields is = refl
after_alone line.Ask fields is = refl
after_alone line.Answer fields is = refl
after_alone (line.Order key) fields is = absurd is
after_alone line.Abort fields is = refl

was_alone : (test : Bool) (l : ScriptLine) → line_or_bad (if test then Some l else None) ≡ Ok l → test ≡ true
was_alone true l e = refl
was_alone false l e = absurd cc

-- a record says such a line where it has its word and no more
pub said_alone : (l : ScriptLine) (fields : List (List ℕ)) → IsAlone l → line_of fields ≡ Ok l
    → (word_of fields ≡ Some (word_for l)) × (has_columns 1 fields ≡ true)
unfolding line_of
said_alone l fields is e =
    let w = word_said (word_of fields) fields l e in
    let after = sym (after_alone l fields is) ∙ (ap (λ v. line_after v fields) (sym w) ∙ e) in
    (w, was_alone (has_columns 1 fields) l after)

pub says_alone : (l : ScriptLine) (fields : List (List ℕ)) → IsAlone l → word_of fields ≡ Some (word_for l)
    → has_columns 1 fields ≡ true → line_of fields ≡ Ok l
unfolding line_of
says_alone l fields is w columns = ap (λ v. line_after v fields) w ∙ (after_alone l fields is ∙ rw columns refl)
