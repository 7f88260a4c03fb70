-- What the record of a line says, and the word that the line has alone.
use Rattle.std.proofs.Common.{◌≡◌, ◌≢◌, ◌<◌, ◌+◌, ◌-◌, ℕ, suc, Bool, true, false, nat_eq, nat_lt, List, [], ◌∷◌, ◌++◌}
use Rattle.std.proofs.Common.{length, take, get_or, Some, None, Ok, refl, sym, ap, subst, ◌∙◌}
use Rattle.std.proofs.Common.{append_assoc, append-nil, length-append, arith, inl, inr, ◌⊎◌, if◌then◌else◌, cond}
use Rattle.std.specs.Prelude.{◌==◌, ◌&&◌, ◌||◌}
use Rattle.std.specs.List.{AllByRecursion, find, list_all}
use Rattle.std.specs.Cmp.Lexicographic.{pointwise, same_text}
use Rattle.std.specs.Io.BufRead.{strip_last}
use Rattle.std.proofs.lemmas.Bool.{eq-eqb, eqb-true, lt-ltb, true≢false}
use Rattle.ssb_text.specs.Records.{has_columns}
use Rattle.ssb_text.specs.Spelling.{field, without_spaces}
use Rattle.ssb_text.specs.TextLines.{HasNoMark}
use Rattle.ssb_text.proofs.MachineLaws.{ArePlain, Ended, fields_from, records_in}
use Rattle.ssb_script.specs.Blocks.{begins, closes, closing_word, has_alone, opening_word, opens, text_alone}
use Rattle.ssb_script.specs.Lines.{ScriptLine, line_after, line_of, line_or_bad, spelling_of, word_of, word_spelled}
use Rattle.ssb_script.specs.Lines.{words}
use Rattle.ssb_script.specs.Lines as script
use Rattle.ssb_script.specs.declared.block.BlockKind.{BlockKind}
use Rattle.ssb_script.specs.declared.block.BlockKind.TheVariants.{Refreshing, Asking}
use Rattle.ssb_script.specs.declared.word.ScriptWord.{ScriptWord}
use Rattle.ssb_script.specs.declared.word.ScriptWord.TheVariants as word
use Rattle.ssb_script.proofs.LineLaws.{IsAlone, said_alone, says_alone, word_for}

-- strip_last, from the front
strip-one : (e b : ℕ) → (b == e) ≡ false → strip_last e (b ∷ []) ≡ b ∷ []
strip-one e b other = rw other refl

cond-cons : (t : Bool) (b : ℕ) (x y : List ℕ) → cond t (b ∷ x) (b ∷ y) ≡ b ∷ cond t x y
cond-cons true b x y = refl
cond-cons false b x y = refl

strip-cons : (e b c : ℕ) (xs : List ℕ) → strip_last e (b ∷ c ∷ xs) ≡ b ∷ strip_last e (c ∷ xs)
strip-cons e b c xs =
    let more : suc (suc (length xs)) - 1 ≡ suc (length xs) = omega arith in
    let here : suc (length xs) - 1 ≡ length xs = omega arith in
    let some : nat_lt 0 (suc (suc (length xs))) ≡ true = lt-ltb _ _ (omega arith) in
    let last : nat_lt 0 (suc (length xs)) ≡ true = lt-ltb _ _ (omega arith) in
    rw (some, last, more, here) (cond-cons (get_or (c ∷ xs) (length xs) 0 == e) b (take (length xs) (c ∷ xs)) (c ∷ xs))

strip-other : (e b : ℕ) (xs : List ℕ) → (b == e) ≡ false → strip_last e (b ∷ xs) ≡ b ∷ strip_last e xs
strip-other e b [] other = strip-one e b other
strip-other e b (c ∷ xs) other = strip-cons e b c xs

strip-none : (e : ℕ) (xs : List ℕ) → AllByRecursion (λ b. (b == e) ≡ false) xs → strip_last e xs ≡ xs
strip-none e [] none = refl
strip-none e (b ∷ xs) none = strip-other e b xs none.0 ∙ ap (λ t. b ∷ t) (strip-none e xs none.1)

strip-push : (e : ℕ) (xs : List ℕ) → strip_last e (xs ++ e ∷ []) ≡ xs
strip-push e [] = let same : (e == e) ≡ true = eq-eqb e e refl in rw same refl
strip-push e (b ∷ []) = strip-cons e b e [] ∙ ap (λ t. b ∷ t) (strip-push e [])
strip-push e (b ∷ c ∷ xs) = strip-cons e b c (xs ++ e ∷ []) ∙ ap (λ t. b ∷ t) (strip-push e (c ∷ xs))

no_returns : (content : List ℕ) → ArePlain content → AllByRecursion (λ b. (b == 13) ≡ false) content
no_returns [] plain = tt
no_returns (b ∷ content) plain = (plain.0.0, no_returns content plain.1)

-- a line without LF or CR LF is its content
content_of_line : (line content : List ℕ) → Ended line content → strip_last 13 (strip_last 10 line) ≡ content
content_of_line line content is = elim is.ends [
  | inl e ↦ ap (λ l. strip_last 13 (strip_last 10 l)) e ∙ ap (strip_last 13) (strip-push 10 content)
      ∙ strip-none 13 content (no_returns content is.plain)
  | inr e ↦ ap (λ l. strip_last 13 (strip_last 10 l)) (e ∙ sym (append_assoc content (13 ∷ []) (10 ∷ [])))
      ∙ ap (strip_last 13) (strip-push 10 (content ++ 13 ∷ [])) ∙ strip-push 13 content
]

abbrev no_bar : ℕ → Type 0
no_bar b = (b == 124) ≡ false

tells : (b : Bool) → (b ≡ true) ⊎ (b ≡ false)
tells true = inl refl
tells false = inr refl

chosen-true : {A : Type 0} (b : Bool) (x y : A) → b ≡ true → (if b then x else y) ≡ x
chosen-true b x y is = rw is refl

chosen-false : {A : Type 0} (b : Bool) (x y : A) → b ≡ false → (if b then x else y) ≡ y
chosen-false b x y is = rw is refl

some_fields : (first content : List ℕ) → 0 < length (fields_from first content)
some_fields first [] = omega arith
some_fields first (b ∷ content) = elim (tells (b == 124)) [
  | inl bar ↦ rw bar (omega arith)
  | inr other ↦ rw other (some_fields (first ++ b ∷ []) content)
]

first_has_bytes : (first content : List ℕ) → 0 < length first → 0 < length (get_or (fields_from first content) 0 [])
first_has_bytes first [] some = some
first_has_bytes first (b ∷ content) some = elim (tells (b == 124)) [
  | inl bar ↦ rw bar some
  | inr other ↦ rw other (first_has_bytes (first ++ b ∷ []) content (omega (arith, length-append first (b ∷ []))))
]

or_true : (a b : Bool) → (a || b) ≡ true → (a ≡ true) ⊎ (b ≡ true)
or_true true b h = inl refl
or_true false b h = inr h

and_true : (a b : Bool) → (a && b) ≡ true → (a ≡ true) × (b ≡ true)
and_true true b h = (refl, h)
and_true false b h = absurd cc

-- behind the bar that closes a record with its word alone stands nothing
two_fields : (d : ℕ) (content : List ℕ) → (d == 124) ≡ true → suc (length (fields_from [] (d ∷ content))) ≡ 1 + 1 → ⊥
two_fields d content bar n =
    let e = chosen-true (d == 124) ([] ∷ fields_from [] content) (fields_from (d ∷ []) content) bar in
    let more : suc (length (fields_from [] content)) ≡ length (fields_from [] (d ∷ content)) = ap length (sym e) in
    omega (arith, n, more, some_fields [] content)

nothing_behind : (first content : List ℕ) → has_columns 1 (first ∷ fields_from [] content) ≡ true → content ≡ []
nothing_behind first [] h = refl
nothing_behind first (d ∷ content) h =
    let fields : List (List ℕ) = fields_from [] (d ∷ content) in
    let count : ℕ = length (first ∷ fields) in
    absurd (elim (or_true (count == 1) ((count == 1 + 1) && (length (get_or fields 0 []) == 0)) h) [
      | inl one ↦ let n = eqb-true count 1 one in omega (arith, n, some_fields [] (d ∷ content))
      | inr two ↦ let both = and_true (count == 1 + 1) (length (get_or fields 0 []) == 0) two in
          let n = eqb-true count (1 + 1) both.0 in
          let none = eqb-true (length (get_or fields 0 [])) 0 both.1 in
          elim (tells (d == 124)) [
            | inl bar ↦ two_fields d content bar n
            | inr other ↦ let e = chosen-false (d == 124) ([] ∷ fields_from [] content)
                (fields_from (d ∷ []) content) other in
                let empty : length (get_or (fields_from (d ∷ []) content) 0 []) ≡ 0 =
                ap (λ f. length (get_or f 0 [])) (sym e) ∙ none in
                omega (arith, empty, first_has_bytes (d ∷ []) content (omega arith))
          ]
    ])

-- the first field of a record with its word alone
first_alone : (first content : List ℕ) → has_columns 1 (fields_from first content) ≡ true
    → get_or (fields_from first content) 0 [] ≡ first ++ strip_last 124 content
first_alone first [] h = sym (append-nil first)
first_alone first (b ∷ content) h = elim (tells (b == 124)) [
  | inl bar ↦ let none = nothing_behind first content (rw bar at h) in
      rw (bar, none) (rw bar (sym (append-nil first)))
  | inr other ↦ rw other (first_alone (first ++ b ∷ []) content (rw other at h)
      ∙ append_assoc first (b ∷ []) (strip_last 124 content)
      ∙ ap (λ t. first ++ t) (sym (strip-other 124 b content other)))
]

-- bytes without a bar, but for one at their end, are a record with a word alone
alone_behind : (first content : List ℕ) → AllByRecursion no_bar (strip_last 124 content)
    → (has_columns 1 (fields_from first content) ≡ true)
    × (get_or (fields_from first content) 0 [] ≡ first ++ strip_last 124 content)
alone_behind first [] none = (refl, sym (append-nil first))
alone_behind first (b ∷ []) none = elim (tells (b == 124)) [
  | inl bar ↦ rw bar (refl, sym (append-nil first))
  | inr other ↦ rw other (refl, refl)
]
alone_behind first (b ∷ d ∷ content) none =
    let all = subst (AllByRecursion no_bar) (strip-cons 124 b d content) none in
    let later = alone_behind (first ++ b ∷ []) (d ∷ content) all.1 in (
      ap (has_columns 1) (chosen-false (b == 124) _ _ all.0) ∙ later.0,
      ap (λ f. get_or f 0 []) (chosen-false (b == 124) _ _ all.0) ∙ later.1
          ∙ append_assoc first (b ∷ []) (strip_last 124 (d ∷ content))
          ∙ ap (λ t. first ++ t) (sym (strip-cons 124 b d content)),
    )

spaces_have_no_bar : (bytes : List ℕ) → list_all (λ c. c == 32) bytes ≡ true → AllByRecursion no_bar bytes
spaces_have_no_bar [] all = tt
spaces_have_no_bar (b ∷ bytes) all =
    let both = and_true _ _ all in
    let space = eqb-true b 32 both.0 in
    (rw space refl, spaces_have_no_bar bytes both.1)

no_bars_behind : (bytes : List ℕ) → AllByRecursion no_bar (without_spaces bytes) → AllByRecursion no_bar bytes
unfolding without_spaces
no_bars_behind [] none = tt
no_bars_behind (b ∷ bytes) none = elim (tells (list_all (λ c. c == 32) (b ∷ bytes))) [
  | inl all ↦ spaces_have_no_bar (b ∷ bytes) all
  | inr other ↦ let here = rw other at none in (here.0, no_bars_behind bytes here.1)
]

-- the text of a line's content, if it has one alone
abbrev text_in : List ℕ → List ℕ
text_in content = without_spaces (strip_last 124 content)

field_alone : (content : List ℕ) → has_columns 1 (fields_from [] content) ≡ true
    → field (fields_from [] content) 0 ≡ text_in content
field_alone content h = ap without_spaces (first_alone [] content h)

content_alone : (content spelling : List ℕ) → AllByRecursion no_bar spelling → text_in content ≡ spelling
    → (field (fields_from [] content) 0 ≡ spelling) × (has_columns 1 (fields_from [] content) ≡ true)
content_alone content spelling none is =
    let bars = no_bars_behind (strip_last 124 content) (subst (AllByRecursion no_bar) (sym is) none) in
    let alone = alone_behind [] content bars in
    (ap without_spaces alone.1 ∙ is, alone.0)

-- the spelling of a word has bytes, none of which is a bar, and spells that word alone
abbrev IsSpelling : ScriptWord → List ℕ → Type 0
IsSpelling w spelling =
    (spelling ≢ []) × AllByRecursion no_bar spelling × (pointwise nat_eq spelling spelling ≡ true)
    × (word_spelled spelling ≡ Some w)

spelling_is : (w : ScriptWord) → IsSpelling w (spelling_of w)
spelling_is word.Query = (λ e. cc, (refl, (refl, (refl, (refl, (refl, tt))))), refl, refl)
spelling_is word.Sql = (λ e. cc, (refl, (refl, (refl, tt))), refl, refl)
spelling_is word.Begin = (λ e. cc, (refl, (refl, (refl, (refl, (refl, tt))))), refl, refl)
spelling_is word.Add = (λ e. cc, (refl, (refl, (refl, tt))), refl, refl)
spelling_is word.Amend = (λ e. cc, (refl, (refl, (refl, (refl, (refl, tt))))), refl, refl)
spelling_is word.Put = (λ e. cc, (refl, (refl, (refl, tt))), refl, refl)
spelling_is word.Line = (λ e. cc, (refl, (refl, (refl, (refl, tt)))), refl, refl)
spelling_is word.Withdraw = (λ e. cc, (refl, (refl, (refl, (refl, (refl, (refl, (refl, (refl, tt)))))))), refl, refl)
spelling_is word.Commit = (λ e. cc, (refl, (refl, (refl, (refl, (refl, (refl, tt)))))), refl, refl)
spelling_is word.Ask = (λ e. cc, (refl, (refl, (refl, tt))), refl, refl)
spelling_is word.Answer = (λ e. cc, (refl, (refl, (refl, (refl, (refl, (refl, tt)))))), refl, refl)
spelling_is word.Order = (λ e. cc, (refl, (refl, (refl, (refl, (refl, tt))))), refl, refl)
spelling_is word.Abort = (λ e. cc, (refl, (refl, (refl, (refl, (refl, tt))))), refl, refl)

-- bytes that spell a word are its spelling
found_is : (bytes : List ℕ) (among : List ScriptWord) (w : ScriptWord)
    → find (λ v. pointwise nat_eq (spelling_of v) bytes) among ≡ Some w → spelling_of w ≡ bytes
found_is bytes [] w e = absurd cc
found_is bytes (v ∷ among) w e = elim (tells (pointwise nat_eq (spelling_of v) bytes)) [
  | inl is ↦ let same : v ≡ w = let here = rw is at e in cc in
      ap spelling_of (sym same) ∙ same_text (spelling_of v) bytes (sym is)
  | inr other ↦ found_is bytes among w (rw other at e)
]

word_found : (fields : List (List ℕ)) → word_of fields ≡ word_spelled (field fields 0)
unfolding word_of
word_found fields = refl

no_text : text_in [] ≡ []
unfolding without_spaces
no_text = refl

text_of_line : (line content : List ℕ) → Ended line content → text_alone line ≡ text_in content
text_of_line line content is = ap text_in (content_of_line line content is)

-- a line that has the word of such a line alone has one record, which says it
line_says : (l : ScriptLine) (line content : List ℕ) → IsAlone l → Ended line content
    → has_alone (word_for l) line ≡ true → (f : List (List ℕ)) × (records_in content ≡ f ∷ []) × (line_of f ≡ Ok l)
unfolding has_alone
line_says l line [] alone is has =
    let spelled = same_text (text_alone line) (spelling_of (word_for l)) (sym has) in
    absurd ((spelling_is (word_for l)).0 (sym spelled ∙ text_of_line line [] is ∙ no_text))
line_says l line (b ∷ content) alone is has =
    let w = word_for l in
    let spelled = same_text (text_alone line) (spelling_of w) (sym has) in
    let found = content_alone (b ∷ content) (spelling_of w) (spelling_is w).1
    (sym (text_of_line line (b ∷ content) is) ∙ spelled) in
    let f = fields_from [] (b ∷ content) in
    (f, refl, says_alone l f alone (word_found f ∙ (ap word_spelled found.0 ∙ (spelling_is w).3)) found.1)

-- and one that has it not says something else
line_says_not : (l : ScriptLine) (line content : List ℕ) (f : List (List ℕ)) → IsAlone l → Ended line content
    → has_alone (word_for l) line ≡ false → records_in content ≡ f ∷ [] → line_of f ≡ Ok l → ⊥
unfolding has_alone
line_says_not l line [] f alone is other e says = cc
line_says_not l line (b ∷ content) f alone is other e says =
    let w = word_for l in
    let same : fields_from [] (b ∷ content) ≡ f = cc in
    let said = said_alone l (fields_from [] (b ∷ content)) alone (ap line_of same ∙ says) in
    let first = found_is (field (fields_from [] (b ∷ content)) 0) words w
    (sym (word_found (fields_from [] (b ∷ content))) ∙ said.0) in
    let spelled = text_of_line line (b ∷ content) is ∙ sym (field_alone (b ∷ content) said.1) ∙ sym first in
    true≢false (sym (ap (λ t. pointwise nat_eq t (spelling_of w)) spelled ∙ (spelling_is w).2) ∙ other)

-- the lines that begin and end a block
abbrev pub opening_of : BlockKind → ScriptLine
opening_of Refreshing = script.Begin
opening_of Asking = script.Ask

abbrev pub closing_of : BlockKind → ScriptLine
closing_of Refreshing = script.Commit
closing_of Asking = script.Answer

-- the lines that end one
abbrev pub Ends : BlockKind → ScriptLine → Type 0
Ends block l = (l ≡ closing_of block) ⊎ (l ≡ script.Abort)

opening_alone : (block : BlockKind) → IsAlone (opening_of block) × (word_for (opening_of block) ≡ opening_word block)
opening_alone Refreshing = (tt, refl)
opening_alone Asking = (tt, refl)

closing_alone : (block : BlockKind) → IsAlone (closing_of block) × (word_for (closing_of block) ≡ closing_word block)
closing_alone Refreshing = (tt, refl)
closing_alone Asking = (tt, refl)

-- which block a line begins
opens_one : (begin ask : Bool) (block : BlockKind)
    → (if begin then Some Refreshing else if ask then Some Asking else None) ≡ Some block
    → ((begin ≡ true) × (block ≡ Refreshing)) ⊎ ((ask ≡ true) × (block ≡ Asking))
opens_one true ask block e = inl (refl, cc)
opens_one false true block e = inr (refl, cc)
opens_one false false block e = absurd cc

opens_none : (begin ask : Bool) → (if begin then Some Refreshing else if ask then Some Asking else None) ≡ None
    → (begin ≡ false) × (ask ≡ false)
opens_none true ask e = absurd cc
opens_none false true e = absurd cc
opens_none false false e = (refl, refl)

begins_it : (line : List ℕ) (block : BlockKind) → opens line ≡ Some block → begins block line ≡ true
begins_it line block e = elim (opens_one (begins Refreshing line) (begins Asking line) block e) [
  | inl one ↦ ap (λ b. begins b line) one.1 ∙ one.0
  | inr one ↦ ap (λ b. begins b line) one.1 ∙ one.0
]

begins_none : (line : List ℕ) (block : BlockKind) → opens line ≡ None → begins block line ≡ false
begins_none line Refreshing e = (opens_none (begins Refreshing line) (begins Asking line) e).0
begins_none line Asking e = (opens_none (begins Refreshing line) (begins Asking line) e).1

-- the word that begins a block, of a line without a byte order mark
opening_has : (line : List ℕ) (block : BlockKind) → HasNoMark line
    → has_alone (word_for (opening_of block)) line ≡ begins block line
opening_has line block none =
    ap (λ w. has_alone w line) (opening_alone block).1 ∙ ap (has_alone (opening_word block)) (sym none)

-- a line that begins a block has one record, which says so
pub line_opens : (line content : List ℕ) (block : BlockKind) → Ended line content → HasNoMark line
    → opens line ≡ Some block
    → (f : List (List ℕ)) × (records_in content ≡ f ∷ []) × (line_of f ≡ Ok (opening_of block))
line_opens line content block is none e =
    line_says (opening_of block) line content (opening_alone block).0 is
    (opening_has line block none ∙ begins_it line block e)

-- one that begins none says neither
pub line_opens_not : (line content : List ℕ) (f : List (List ℕ)) (block : BlockKind) → Ended line content
    → HasNoMark line → opens line ≡ None → records_in content ≡ f ∷ [] → line_of f ≡ Ok (opening_of block) → ⊥
line_opens_not line content f block is none other =
    line_says_not (opening_of block) line content f (opening_alone block).0 is
    (opening_has line block none ∙ begins_none line block other)

-- a line that ends a block has one record, which says one of the two
pub record SaysEnd (block : BlockKind) (content : List ℕ) : Type 0 where
  pub fields : List (List ℕ)
  pub said : ScriptLine
  pub one : records_in content ≡ fields ∷ []
  pub says : line_of fields ≡ Ok said
  pub ends : Ends block said

end_found : (block : BlockKind) (content : List ℕ) (said : ScriptLine) → Ends block said
    → (f : List (List ℕ)) × (records_in content ≡ f ∷ []) × (line_of f ≡ Ok said) → SaysEnd block content
end_found block content said ends found =
    record { fields = found.0; said = said; one = found.1; says = found.2; ends = ends }

closing_has : (line : List ℕ) (block : BlockKind)
    → has_alone (word_for (closing_of block)) line ≡ has_alone (closing_word block) line
closing_has line block = ap (λ w. has_alone w line) (closing_alone block).1

pub line_closes : (line content : List ℕ) (block : BlockKind) → Ended line content → closes block line ≡ true
    → SaysEnd block content
line_closes line content block is ends = elim (or_true (has_alone (closing_word block) line) _ ends) [
  | inl own ↦ end_found block content (closing_of block) (inl refl)
      (line_says (closing_of block) line content (closing_alone block).0 is (closing_has line block ∙ own))
  | inr abort ↦ end_found block content script.Abort (inr refl) (line_says script.Abort line content tt is abort)
]

or_false : (a b : Bool) → (a || b) ≡ false → (a ≡ false) × (b ≡ false)
or_false true b h = absurd cc
or_false false b h = (refl, h)

-- and one that ends none says neither
pub line_closes_not : (line content : List ℕ) (f : List (List ℕ)) (block : BlockKind) (said : ScriptLine)
    → Ended line content → closes block line ≡ false → records_in content ≡ f ∷ [] → line_of f ≡ Ok said
    → Ends block said → ⊥
line_closes_not line content f block said is other e says ends =
    let neither = or_false (has_alone (closing_word block) line) (has_alone word.Abort line) other in
    elim ends [
      | inl own ↦ line_says_not (closing_of block) line content f (closing_alone block).0 is
          (closing_has line block ∙ neither.0) e (says ∙ ap Ok own)
      | inr abort ↦ line_says_not script.Abort line content f tt is neither.1 e (says ∙ ap Ok abort)
    ]
