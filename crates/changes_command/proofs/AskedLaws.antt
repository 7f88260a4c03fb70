-- What is asked for of the signed lines of commits.
use Rattle.std.proofs.Common.{◌≡◌, ℕ, suc, ◌+◌, true, false, cond, List, [], ◌∷◌, ◌++◌, length}
use Rattle.std.proofs.Common.{fold, refl, sym, ap, ◌∙◌, arith, append_assoc, append-nil}
use Rattle.std.proofs.lemmas.List.Elements.{filter-append}
use Rattle.std.proofs.lemmas.List.Sums.{fold-append}
use Rattle.row_store.specs.History.{CommitRecord, lines_after}
use Rattle.row_store.specs.Lines.{added_by, lines_after_action, lines_after_refresh}
use Rattle.ssb_base.specs.Base.{Tables}
use Rattle.ssb_schema.specs.declared.line.LineFields.{LineFields}
use Rattle.ssb_schema.specs.declared.refresh.Action.{Action}
use Rattle.changes_command.specs.Signed.{SignedLine, asked_of, changes_behind, changes_by_all}
use Rattle.changes_command.specs.SignedText.{lines_text}
use Rattle.changes_command.specs.Signed.{is_asked, signed, taken_by}
use Rattle.changes_command.specs.declared.format.ChangesFormat.{ChangesFormat}
use Rattle.changes_command.specs.declared.signed.ChangesStart.{ChangesStart}
use Rattle.changes_command.specs.declared.signed.Sign.{Sign}
use Rattle.changes_command.specs.declared.signed.Sign.TheVariants.{Came, Went}
use Rattle.changes_command.proofs.TextLaws.{text_both}

pub asked_both : (start : ChangesStart) (one other : List SignedLine)
    → asked_of start (one ++ other) ≡ asked_of start one ++ asked_of start other
asked_both start one other = filter-append (λ (l : SignedLine). is_asked start l.commit) one other

-- the text of what is asked for, some and then others
pub asked_text : (format : ChangesFormat) (start : ChangesStart) (one other : List SignedLine) → lines_text format (asked_of start (one ++ other))
    ≡ lines_text format (asked_of start one) ++ lines_text format (asked_of start other)
asked_text format start one other =
    ap (lines_text format) (asked_both start one other) ∙ text_both format (asked_of start one) (asked_of start other)

-- all of what one commit changes is asked for, or none
pub all_asked : (start : ChangesStart) (commit : ℕ) (sign : Sign) (lines : List LineFields)
    → is_asked start commit ≡ true → asked_of start (signed commit sign lines) ≡ signed commit sign lines
all_asked start commit sign [] is = refl
all_asked start commit sign (line ∷ lines) is =
    let here : SignedLine = record { commit = commit; sign = sign; line = line } in
    ap (λ b. cond b (here ∷ asked_of start (signed commit sign lines)) (asked_of start (signed commit sign lines))) is
    ∙ ap (λ l. here ∷ l) (all_asked start commit sign lines is)

pub none_asked : (start : ChangesStart) (commit : ℕ) (sign : Sign) (lines : List LineFields)
    → is_asked start commit ≡ false → asked_of start (signed commit sign lines) ≡ []
none_asked start commit sign [] is = refl
none_asked start commit sign (line ∷ lines) is =
    let here : SignedLine = record { commit = commit; sign = sign; line = line } in
    ap (λ b. cond b (here ∷ asked_of start (signed commit sign lines)) (asked_of start (signed commit sign lines))) is
    ∙ none_asked start commit sign lines is

pub all_of_commit : (start : ChangesStart) (commit : ℕ) (lines : List LineFields) (actions : List Action)
    → is_asked start commit ≡ true
    → asked_of start (changes_by_all commit lines actions) ≡ changes_by_all commit lines actions
all_of_commit start commit lines [] is = refl
all_of_commit start commit lines (action ∷ later) is =
    let went = signed commit Went (taken_by lines action) in
    let came = signed commit Came (added_by action) in
    let rest = changes_by_all commit (lines_after_action lines action) later in
    asked_both start (went ++ came) rest
    ∙ ap (λ l. l ++ asked_of start rest) (asked_both start went came
    ∙ ap (λ l. l ++ asked_of start came) (all_asked start commit Went (taken_by lines action) is)
    ∙ ap (λ l. went ++ l) (all_asked start commit Came (added_by action) is))
    ∙ ap (λ l. (went ++ came) ++ l) (all_of_commit start commit (lines_after_action lines action) later is)

pub none_of_commit : (start : ChangesStart) (commit : ℕ) (lines : List LineFields) (actions : List Action)
    → is_asked start commit ≡ false → asked_of start (changes_by_all commit lines actions) ≡ []
none_of_commit start commit lines [] is = refl
none_of_commit start commit lines (action ∷ later) is =
    let went = signed commit Went (taken_by lines action) in
    let came = signed commit Came (added_by action) in
    let rest = changes_by_all commit (lines_after_action lines action) later in
    asked_both start (went ++ came) rest
    ∙ ap (λ l. l ++ asked_of start rest) (asked_both start went came
    ∙ ap (λ l. l ++ asked_of start came) (none_asked start commit Went (taken_by lines action) is)
    ∙ none_asked start commit Came (added_by action) is)
    ∙ none_of_commit start commit (lines_after_action lines action) later is

abbrev pub lines_behind : List LineFields → List CommitRecord → List LineFields
lines_behind lines history = fold (λ now (commit : CommitRecord). lines_after_refresh now commit.actions) lines history

-- what commits change, some and then others
pub behind_both : (before : ℕ) (lines : List LineFields) (one other : List CommitRecord)
    → changes_behind before lines (one ++ other)
    ≡ changes_behind before lines one ++ changes_behind (before + length one) (lines_behind lines one) other
behind_both before lines [] other =
    let same : before ≡ before + 0 = omega arith in ap (λ n. changes_behind n lines other) same
behind_both before lines (commit ∷ one) other =
    let now = lines_after_refresh lines commit.actions in
    let same : before + 1 + length one ≡ before + suc (length one) = omega arith in
    ap (λ rest. changes_by_all (before + 1) lines commit.actions ++ rest)
    (behind_both (before + 1) now one other
    ∙ ap (λ n. changes_behind (before + 1) now one ++ changes_behind n (lines_behind now one) other) same)
    ∙ sym (append_assoc (changes_by_all (before + 1) lines commit.actions) (changes_behind (before + 1) now one)
    (changes_behind (before + suc (length one)) (lines_behind now one) other))

pub lines_after_more : (base : Tables) (history more : List CommitRecord)
    → lines_after base (history ++ more) ≡ lines_behind (lines_after base history) more
lines_after_more base history more =
    fold-append (λ now (commit : CommitRecord). lines_after_refresh now commit.actions) base.lines history more

-- the text of what one commit more changes
pub text_of_next : (format : ChangesFormat) (start : ChangesStart) (before : ℕ) (lines : List LineFields) (front : List CommitRecord)
    (commit : CommitRecord) → lines_text format (asked_of start (changes_behind before lines (front ++ commit ∷ [])))
    ≡ lines_text format (asked_of start (changes_behind before lines front)) ++ lines_text format
    (asked_of start (changes_by_all (before + length front + 1) (lines_behind lines front) commit.actions))
text_of_next format start before lines front commit =
    let own = changes_by_all (before + length front + 1) (lines_behind lines front) commit.actions in
    ap (λ l. lines_text format (asked_of start l)) (behind_both before lines front (commit ∷ [])
    ∙ ap (λ l. changes_behind before lines front ++ l) (append-nil own))
    ∙ asked_text format start (changes_behind before lines front) own

-- the text of what more commits change comes behind that of others
pub text_behind : (format : ChangesFormat) (start : ChangesStart) (past : ℕ) (base : Tables) (history more : List CommitRecord)
    → lines_text format (asked_of start (changes_behind past base.lines (history ++ more)))
    ≡ lines_text format (asked_of start (changes_behind past base.lines history))
    ++ lines_text format (asked_of start (changes_behind (past + length history) (lines_after base history) more))
text_behind format start past base history more =
    ap (λ l. lines_text format (asked_of start l)) (behind_both past base.lines history more)
    ∙ asked_text format start (changes_behind past base.lines history)
    (changes_behind (past + length history) (lines_after base history) more)
