-- A text that spells a script has no fault, but for a statement's: its lines are read from the first to the last, and
-- each may stand.
use Rattle.std.proofs.Common.{◌≡◌, ℕ, ◌+◌, ◌<◌, ◌≤◌, Bool, true, false, List, [], ◌∷◌, ◌++◌, map, length, Option, Some}
use Rattle.std.proofs.Common.{None, Result, Ok, if◌then◌else◌, nat_eq, nat_lt, subst, refl, sym, ap, ◌∙◌}
use Rattle.std.proofs.Common.{append_assoc, append-nil, arith, inl, inr}
use Rattle.std.specs.List.{AllByRecursion, AllZip, flat_map, list_any}
use Rattle.std.specs.Prelude.{◌||◌}
use Rattle.std.proofs.Math.Bool.{or-true}
use Rattle.std.proofs.lemmas.Bool.{le-ltb, lt-ltb, ltb-false}
use Rattle.std.proofs.lemmas.List.Folds.{list_any-append}
use Rattle.std.proofs.lemmas.Bool.Decides.{nat_tests}
use Rattle.std.proofs.lemmas.List.{length_push, length-append, map-append}
use Rattle.std.proofs.lemmas.List.Elements.{recursion_from_All}
use Rattle.std.proofs.lemmas.Option.{none-some}
use Rattle.ssb_schema.specs.Orders.{order_fault, most_order_lines}
use Rattle.ssb_schema.specs.Refreshes.{refresh_fault, most_actions}
use Rattle.ssb_schema.specs.declared.fault.SchemaFault.TheVariants as schema
use Rattle.ssb_schema.specs.declared.line.LineFields.{LineFields}
use Rattle.ssb_schema.specs.declared.refresh.Action.{Action}
use Rattle.ssb_schema.specs.declared.refresh.Action.TheVariants as action
use Rattle.ssb_schema.proofs.FirstFaultLaws.{test_none}
use Rattle.ssb_schema.proofs.OrderLaws.{order_keeps}
use Rattle.ssb_script.specs.Begun.{Begun}
use Rattle.ssb_script.specs.Begun as begun
use Rattle.ssb_script.specs.Laws.{HasNoFaultIfSpelled, IsOfStatement}
use Rattle.ssb_script.specs.Lines.{ScriptLine, RecordFault, is_abort, is_line, line_of, word_of}
use Rattle.ssb_script.specs.Lines as line
use Rattle.ssb_script.specs.Requests.{RequestRecord, Refresh, Ask, Order, Abort, IsWholeAction, IsWholeRequest, action_of}
use Rattle.ssb_script.specs.Requests.{has_statement, is_statement}
use Rattle.ssb_script.specs.Requests.{lines_of_action, lines_of_asking, lines_of_refresh, most_questions}
use Rattle.ssb_script.specs.Scripts.{EndsOpen, HasRoom, IsFaultOf, IsFirstFault, IsNoStatement, IsOpenEnd, IsSettled}
use Rattle.ssb_script.specs.Scripts.{Spell, SpellAll}
use Rattle.ssb_script.specs.Scripts.{SpellsScript, checks_in, ends_in_order, fault_of, first_of, is_outside, lines_in}
use Rattle.ssb_script.specs.Scripts.{lines_of_begun, order_refused, refusal_at_end}
use Rattle.ssb_script.specs.declared.control.OrderOpening.{OrderOpening}
use Rattle.ssb_script.specs.declared.control.OrderOpening.TheVariants.{Add, Amend, Put}
use Rattle.ssb_script.specs.declared.error.ScriptError.{ScriptError}
use Rattle.ssb_script.specs.declared.error.ScriptError.TheVariants as error
use Rattle.ssb_script.specs.declared.request.Asking.{Asking}
use Rattle.ssb_script.specs.declared.request.Asking.TheVariants.{Alone, Together, Statement as Stated}
use Rattle.ssb_questions.specs.declared.query.Query.{Query as Named}
use Rattle.ssb_questions.specs.declared.value.Value.{Value}
use Rattle.ssb_script.specs.declared.word.ScriptWord.{ScriptWord}
use Rattle.ssb_script.proofs.LineLaws.{word_for, word_said}
use Rattle.ssb_script.proofs.OneReadingLaws.{all_given, given}
use Rattle.ssb_text.proofs.OneListLaws.{one_records, text_begins}

abbrev Question : Type 0
Question = Named × List Value

-- what is begun where a line stands: nothing, a refresh, an order in a refresh, or a block
data Stand : Type 0 where
  Outside : Stand
  Inside : List Action → Stand
  Within : List Action → OrderOpening → List LineFields → Stand
  Block : List Question → Stand

abbrev stand_of : Begun → Stand
stand_of begun.Nothing = Outside
stand_of (begun.Refresh actions) = Inside actions
stand_of (begun.Order order) = Within order.actions order.opening order.lines
stand_of (begun.Asked questions) = Block questions

-- the actions of the refresh, with that of the order that is being read
abbrev actions_of : Stand → List Action
actions_of Outside = []
actions_of (Inside actions) = actions
actions_of (Within actions opening lines) = actions ++ action_of opening lines ∷ []
actions_of (Block questions) = []

-- what is begun behind a line, and behind lines
abbrev next : Stand → ScriptLine → Stand
next s line.Begin = Inside []
next s (line.Open opening) = Within (actions_of s) opening []
next Outside (line.Query question) = Outside
next (Inside actions) (line.Query question) = Outside
next (Within actions opening lines) (line.Query question) = Outside
next (Block questions) (line.Query question) = Block (questions ++ question ∷ [])
next Outside (line.Line row) = Outside
next (Inside actions) (line.Line row) = Inside actions
next (Within actions opening lines) (line.Line row) = Within actions opening (lines ++ row ∷ [])
next (Block questions) (line.Line row) = Block questions
next s (line.Sql text) = Outside
next s (line.Order key) = Outside
next s (line.Withdraw key) = Inside (actions_of s ++ action.Withdraw key ∷ [])
next s line.Commit = Outside
next s line.Ask = Block []
next s line.Answer = Outside
next s line.Abort = Outside

abbrev behind : Stand → List ScriptLine → Stand
behind s [] = s
behind s (l ∷ lines) = behind (next s l) lines

-- nothing is begun; a refresh is, in which no order is refused that ends there; an order is, that takes one line more
abbrev IsOutside : Stand → Type 0
IsOutside Outside = Unit {0}
IsOutside (Inside actions) = ⊥
IsOutside (Within actions opening lines) = ⊥
IsOutside (Block questions) = ⊥

abbrev IsInside : Stand → Type 0
IsInside Outside = ⊥
IsInside (Inside actions) = Unit {0}
IsInside (Within actions opening lines) = Unit {0}
IsInside (Block questions) = Unit {0}

abbrev MayEnd : Stand → Type 0
MayEnd Outside = ⊥
MayEnd (Inside actions) = Unit {0}
MayEnd (Within actions opening lines) = order_fault lines ≡ None
MayEnd (Block questions) = ⊥

abbrev TakesLine : Stand → Type 0
TakesLine Outside = ⊥
TakesLine (Inside actions) = ⊥
TakesLine (Within actions opening lines) = length lines < most_order_lines
TakesLine (Block questions) = ⊥

-- a question may stand there, and the end of a block
abbrev MayAsk : Stand → Type 0
MayAsk Outside = Unit {0}
MayAsk (Inside actions) = ⊥
MayAsk (Within actions opening lines) = ⊥
MayAsk (Block questions) = length questions < most_questions

abbrev MayAnswer : Stand → Type 0
MayAnswer Outside = ⊥
MayAnswer (Inside actions) = ⊥
MayAnswer (Within actions opening lines) = ⊥
MayAnswer (Block questions) = 0 < length questions

-- a line may stand there, and lines may, one after another
abbrev Fits : Stand → ScriptLine → Type 0
Fits s (line.Query question) = MayAsk s
Fits s (line.Sql text) = IsOutside s
Fits s (line.Order key) = IsOutside s
Fits s line.Begin = IsOutside s
Fits s (line.Open opening) = MayEnd s × (length (actions_of s) < most_actions)
Fits s (line.Line row) = TakesLine s
Fits s (line.Withdraw key) = MayEnd s × (length (actions_of s) < most_actions)
Fits s line.Commit = MayEnd s × (0 < length (actions_of s))
Fits s line.Ask = IsOutside s
Fits s line.Answer = MayAnswer s
Fits s line.Abort = IsInside s

abbrev AllFit : Stand → List ScriptLine → Type 0
AllFit s [] = Unit {0}
AllFit s (l ∷ lines) = Fits s l × AllFit (next s l) lines

behind-append : (s : Stand) (xs ys : List ScriptLine) → behind s (xs ++ ys) ≡ behind (behind s xs) ys
behind-append s [] ys = refl
behind-append s (l ∷ xs) ys = behind-append (next s l) xs ys

fit_behind : (s : Stand) (xs ys : List ScriptLine) → AllFit s (xs ++ ys) → AllFit (behind s xs) ys
fit_behind s [] ys fit = fit
fit_behind s (l ∷ xs) ys fit = fit_behind (next s l) xs ys fit.1

-- behind the lines of an order, of an action, of actions
behind_rows : (actions : List Action) (opening : OrderOpening) (lines order : List LineFields)
    → behind (Within actions opening lines) (map line.Line order) ≡ Within actions opening (lines ++ order)
behind_rows actions opening lines [] = ap (Within actions opening) (sym (append-nil lines))
behind_rows actions opening lines (row ∷ order) = behind_rows actions opening (lines ++ row ∷ []) order
    ∙ ap (Within actions opening) (append_assoc lines (row ∷ []) order)

behind_questions : (questions more : List Question)
    → behind (Block questions) (map line.Query more) ≡ Block (questions ++ more)
behind_questions questions [] = ap Block (sym (append-nil questions))
behind_questions questions (question ∷ more) = behind_questions (questions ++ question ∷ []) more
    ∙ ap Block (append_assoc questions (question ∷ []) more)

behind_action : (s : Stand) (a : Action) → actions_of (behind s (lines_of_action a)) ≡ actions_of s ++ a ∷ []
behind_action s (action.Add order) = ap actions_of (behind_rows (actions_of s) Add [] order)
behind_action s (action.Amend order) = ap actions_of (behind_rows (actions_of s) Amend [] order)
behind_action s (action.Put order) = ap actions_of (behind_rows (actions_of s) Put [] order)
behind_action s (action.Withdraw key) = refl

behind_actions : (actions : List Action) (s : Stand)
    → actions_of (behind s (flat_map lines_of_action actions)) ≡ actions_of s ++ actions
behind_actions [] s = sym (append-nil (actions_of s))
behind_actions (a ∷ actions) s =
    let between = behind s (lines_of_action a) in
    ap actions_of (behind-append s (lines_of_action a) (flat_map lines_of_action actions))
    ∙ (behind_actions actions between
    ∙ (ap (λ xs. xs ++ actions) (behind_action s a) ∙ append_assoc (actions_of s) (a ∷ []) actions))

-- where the last action is no order, none is being read
behind_settled : (a : Action) (actions : List Action) (s : Stand) → ends_in_order (a ∷ actions) ≡ false
    → behind s (flat_map lines_of_action (a ∷ actions)) ≡ Inside (actions_of s ++ a ∷ actions)
behind_settled (action.Add order) [] s e = absurd cc
behind_settled (action.Amend order) [] s e = absurd cc
behind_settled (action.Put order) [] s e = absurd cc
behind_settled (action.Withdraw key) [] s e = refl
behind_settled a (b ∷ actions) s e =
    let between = behind s (lines_of_action a) in
    behind-append s (lines_of_action a) (flat_map lines_of_action (b ∷ actions))
    ∙ (behind_settled b actions between e
    ∙ ap Inside (ap (λ xs. xs ++ b ∷ actions) (behind_action s a)
    ∙ append_assoc (actions_of s) (a ∷ []) (b ∷ actions)))

behind_request : (one : RequestRecord) (lines : List ScriptLine) → Spell one lines → behind Outside lines ≡ Outside
behind_request (Refresh actions) lines spell =
    ap (behind Outside) spell ∙ behind-append (Inside []) (flat_map lines_of_action actions) (line.Commit ∷ [])
behind_request (Ask (Alone question)) lines spell = ap (behind Outside) spell
behind_request (Ask (Together questions)) lines spell =
    ap (behind Outside) spell ∙ behind-append (Block []) (map line.Query questions) (line.Answer ∷ [])
behind_request (Ask (Stated asked)) lines spell = ap (behind Outside) spell
behind_request (Order key) lines spell = ap (behind Outside) spell
behind_request Abort lines spell =
    ap (behind Outside) spell.joined ∙ behind-append Outside (lines_of_begun spell.begun) (line.Abort ∷ [])

behind_parts : (requests : List RequestRecord) (parts : List (List ScriptLine)) → AllZip Spell requests parts
    → behind Outside (lines_in parts) ≡ Outside
behind_parts [] [] each = refl
behind_parts [] (part ∷ parts) each = absurd each
behind_parts (one ∷ requests) [] each = absurd each
behind_parts (one ∷ requests) (part ∷ parts) each =
    behind-append Outside part (lines_in parts)
    ∙ (ap (λ s. behind s (lines_in parts)) (behind_request one part each.0) ∙ behind_parts requests parts each.1)

behind_requests : (requests : List RequestRecord) (lines : List ScriptLine) → SpellAll requests lines
    → behind Outside lines ≡ Outside
behind_requests requests lines spell =
    ap (behind Outside) spell.joined ∙ behind_parts requests spell.parts spell.each

behind_begun : (b : Begun) → IsSettled b → behind Outside (lines_of_begun b) ≡ stand_of b
behind_begun begun.Nothing settled = refl
behind_begun (begun.Asked questions) settled = behind_questions [] questions
behind_begun (begun.Refresh []) settled = refl
behind_begun (begun.Refresh (a ∷ actions)) settled = behind_settled a actions (Inside []) settled
behind_begun (begun.Order order) settled =
    let acts = flat_map lines_of_action order.actions in
    behind-append (Inside []) acts (line.Open order.opening ∷ map line.Line order.lines)
    ∙ (behind_rows (actions_of (behind (Inside []) acts)) order.opening [] order.lines
    ∙ ap (λ actions. Within actions order.opening order.lines) (behind_actions order.actions (Inside [])))

-- behind whole requests and what is begun, that is begun
behind_all : (requests : List RequestRecord) (lines : List ScriptLine) (b : Begun) → SpellAll requests lines
    → IsSettled b → behind Outside (lines ++ lines_of_begun b) ≡ stand_of b
behind_all requests lines b spell settled =
    behind-append Outside lines (lines_of_begun b)
    ∙ (ap (λ s. behind s (lines_of_begun b)) (behind_requests requests lines spell) ∙ behind_begun b settled)

-- the lines of whole requests fit
fit_rows : (actions : List Action) (opening : OrderOpening) (lines order : List LineFields) (rest : List ScriptLine)
    → length lines + length order ≤ most_order_lines → AllFit (Within actions opening (lines ++ order)) rest
    → AllFit (Within actions opening lines) (map line.Line order ++ rest)
fit_rows actions opening lines [] rest room fit =
    subst (λ xs. AllFit (Within actions opening xs) rest) (append-nil lines) fit
fit_rows actions opening lines (row ∷ order) rest room fit = (
  omega (arith, room),
  fit_rows actions opening (lines ++ row ∷ []) order rest (omega (arith, room, length_push lines row))
      (subst (λ xs. AllFit (Within actions opening xs) rest) (sym (append_assoc lines (row ∷ []) order)) fit),
)

fit_questions : (questions more : List Question) (rest : List ScriptLine)
    → length questions + length more ≤ most_questions → AllFit (Block (questions ++ more)) rest
    → AllFit (Block questions) (map line.Query more ++ rest)
fit_questions questions [] rest room fit = subst (λ xs. AllFit (Block xs) rest) (append-nil questions) fit
fit_questions questions (question ∷ more) rest room fit = (
  omega (arith, room),
  fit_questions (questions ++ question ∷ []) more rest (omega (arith, room, length_push questions question))
      (subst (λ xs. AllFit (Block xs) rest) (sym (append_assoc questions (question ∷ []) more)) fit),
)

fit_action : (a : Action) (s : Stand) (rest : List ScriptLine) → MayEnd s → length (actions_of s) < most_actions
    → IsWholeAction a → ((t : Stand) → MayEnd t → actions_of t ≡ actions_of s ++ a ∷ [] → AllFit t rest)
    → AllFit s (lines_of_action a ++ rest)
fit_action (action.Add order) s rest end room whole later = (
  (end, room),
  fit_rows (actions_of s) Add [] order rest (omega (arith, (order_keeps order whole).few))
      (later (Within (actions_of s) Add order) whole refl),
)
fit_action (action.Amend order) s rest end room whole later = (
  (end, room),
  fit_rows (actions_of s) Amend [] order rest (omega (arith, (order_keeps order whole).few))
      (later (Within (actions_of s) Amend order) whole refl),
)
fit_action (action.Put order) s rest end room whole later = (
  (end, room),
  fit_rows (actions_of s) Put [] order rest (omega (arith, (order_keeps order whole).few))
      (later (Within (actions_of s) Put order) whole refl),
)
fit_action (action.Withdraw key) s rest end room whole later =
    ((end, room), later (Inside (actions_of s ++ action.Withdraw key ∷ [])) tt refl)

fit_actions : (actions : List Action) (s : Stand) (rest : List ScriptLine) → MayEnd s
    → length (actions_of s) + length actions ≤ most_actions → AllByRecursion IsWholeAction actions
    → ((t : Stand) → MayEnd t → actions_of t ≡ actions_of s ++ actions → AllFit t rest)
    → AllFit s (flat_map lines_of_action actions ++ rest)
fit_actions [] s rest end room whole later = later s end (sym (append-nil (actions_of s)))
fit_actions (a ∷ actions) s rest end room whole later =
    let acts = flat_map lines_of_action actions in
    subst (AllFit s) (sym (append_assoc (lines_of_action a) acts rest))
    (fit_action a s (acts ++ rest) end (omega (arith, room)) whole.0 (λ t end_t at_t. fit_actions actions t rest end_t
    (omega (arith, room, length_push (actions_of s) a, ap length at_t)) whole.1 (λ u end_u at_u. later u end_u
    (at_u ∙ (ap (λ xs. xs ++ actions) at_t ∙ append_assoc (actions_of s) (a ∷ []) actions)))))

-- a refresh that is not refused has 1 to 64 actions
has_some : (actions : List Action) → refresh_fault actions ≡ None → 0 < length actions
has_some [] none = absurd cc
has_some (a ∷ actions) none = omega arith

has_few : (actions : List Action) → refresh_fault actions ≡ None → length actions ≤ most_actions
has_few actions none = few_of (length actions) none
  where
    few_of : (n : ℕ) → (if nat_eq n 0 then Some schema.NoActions else if nat_lt 64 n then Some schema.TooManyActions
        else None) ≡ None → n ≤ 64
    few_of n none = ltb-false 64 n (test_none _ _ _ (test_none (nat_eq n 0) _ _ none).1).0

fit_asking : (asking : Asking) (rest : List ScriptLine) → IsWholeRequest (Ask asking) → AllFit Outside rest
    → AllFit Outside (lines_of_asking asking ++ rest)
fit_asking (Alone question) rest whole fit = (tt, fit)
fit_asking (Stated asked) rest whole fit = (tt, fit)
fit_asking (Together questions) rest whole fit = (
  tt,
  subst (AllFit (Block [])) (sym (append_assoc (map line.Query questions) (line.Answer ∷ []) rest))
      (fit_questions [] questions (line.Answer ∷ rest) (omega (arith, whole.1)) (omega (arith, whole.0), fit)),
)

fit_refresh : (actions : List Action) (rest : List ScriptLine) → IsWholeRequest (Refresh actions) → AllFit Outside rest
    → AllFit Outside (lines_of_refresh actions ++ rest)
fit_refresh actions rest whole fit = (
  tt,
  subst (AllFit (Inside [])) (sym (append_assoc (flat_map lines_of_action actions) (line.Commit ∷ []) rest))
      (fit_actions actions (Inside []) (line.Commit ∷ rest) tt (omega (arith, has_few actions whole.0))
      (recursion_from_All IsWholeAction actions whole.1)
      (λ t end at. ((end, rw at (has_some actions whole.0)), fit))),
)

-- where an action may end, what is begun may be dropped
may_drop : (s : Stand) → MayEnd s → IsInside s
may_drop Outside ends = absurd ends
may_drop (Inside actions) ends = tt
may_drop (Within actions opening lines) ends = tt
may_drop (Block questions) ends = absurd ends

fit_dropped : (b : Begun) (count : ℕ) (rest : List ScriptLine) → is_outside b ≡ false → HasRoom count b
    → AllFit Outside rest → AllFit Outside ((lines_of_begun b ++ line.Abort ∷ []) ++ rest)
fit_dropped begun.Nothing count rest inside room fit = absurd cc
fit_dropped (begun.Refresh actions) count rest inside room fit = (
  tt,
  subst (AllFit (Inside [])) (sym (append_assoc (flat_map lines_of_action actions) (line.Abort ∷ []) rest))
      (fit_actions actions (Inside []) (line.Abort ∷ rest) tt (omega (arith, room.0))
      (recursion_from_All IsWholeAction actions room.1) (λ t end at. (may_drop t end, fit))),
)
fit_dropped (begun.Order order) count rest inside room fit =
    let acts = flat_map lines_of_action order.actions in
    let last : List ScriptLine = line.Open order.opening ∷ map line.Line order.lines in (
      tt,
      subst (AllFit (Inside []))
          (sym (append_assoc (acts ++ last) (line.Abort ∷ []) rest ∙ append_assoc acts last (line.Abort ∷ rest)))
          (fit_actions order.actions (Inside []) (last ++ line.Abort ∷ rest) tt (omega (arith, room.0))
          (recursion_from_All IsWholeAction order.actions room.1)
          (λ t end at. (
            (end, rw at room.0),
            fit_rows (actions_of t) order.opening [] order.lines (line.Abort ∷ rest) (omega (arith, room.2))
                (tt, fit),
          ))),
    )
fit_dropped (begun.Asked questions) count rest inside room fit = (
  tt,
  subst (AllFit (Block [])) (sym (append_assoc (map line.Query questions) (line.Abort ∷ []) rest))
      (fit_questions [] questions (line.Abort ∷ rest) (omega (arith, room)) (tt, fit)),
)

fit_request : (one : RequestRecord) (lines rest : List ScriptLine) → Spell one lines → IsWholeRequest one
    → AllFit Outside rest → AllFit Outside (lines ++ rest)
fit_request (Ask asking) lines rest spell whole fit =
    subst (λ first. AllFit Outside (first ++ rest)) (sym spell) (fit_asking asking rest whole fit)
fit_request (Refresh actions) lines rest spell whole fit =
    subst (λ first. AllFit Outside (first ++ rest)) (sym spell) (fit_refresh actions rest whole fit)
fit_request (Order key) lines rest spell whole fit =
    subst (λ first. AllFit Outside (first ++ rest)) (sym spell) (tt, fit)
fit_request Abort lines rest spell whole fit =
    subst (λ first. AllFit Outside (first ++ rest)) (sym spell.joined)
    (fit_dropped spell.begun spell.count rest spell.inside spell.room fit)

fit_parts : (requests : List RequestRecord) (parts : List (List ScriptLine)) → AllZip Spell requests parts
    → AllByRecursion IsWholeRequest requests → AllFit Outside (lines_in parts)
fit_parts [] [] each whole = tt
fit_parts [] (part ∷ parts) each whole = absurd each
fit_parts (one ∷ requests) [] each whole = absurd each
fit_parts (one ∷ requests) (part ∷ parts) each whole =
    fit_request one part (lines_in parts) each.0 whole.0 (fit_parts requests parts each.1 whole.1)

fit_requests : (requests : List RequestRecord) (lines : List ScriptLine) → SpellAll requests lines
    → AllByRecursion IsWholeRequest requests → AllFit Outside lines
fit_requests requests lines spell whole =
    subst (AllFit Outside) (sym spell.joined) (fit_parts requests spell.parts spell.each whole)

-- a line that fits has no fault; before one of an order, and before an `abort`, no order is refused
abbrev spared : Option ScriptWord → Bool
spared w = is_line w || is_abort w

abbrev spares : ScriptLine → Bool
spares l = spared (Some (word_for l))

-- no order is being read that is refused where it ends
abbrev EndsWell : Stand → Type 0
EndsWell Outside = Unit {0}
EndsWell (Inside actions) = Unit {0}
EndsWell (Within actions opening lines) = order_fault lines ≡ None
EndsWell (Block questions) = Unit {0}

well_outside : (s : Stand) → IsOutside s → EndsWell s
well_outside Outside outside = tt
well_outside _ outside = absurd outside

well_ended : (s : Stand) → MayEnd s → EndsWell s
well_ended (Inside actions) ends = tt
well_ended (Within actions opening lines) ends = ends
well_ended _ ends = absurd ends

well_asked : (s : Stand) → MayAsk s → EndsWell s
well_asked Outside asks = tt
well_asked (Block questions) asks = tt
well_asked _ asks = absurd asks

well_answered : (s : Stand) → MayAnswer s → EndsWell s
well_answered (Block questions) answers = tt
well_answered _ answers = absurd answers

ends_unless_spared : (s : Stand) (l : ScriptLine) → Fits s l → spares l ≡ false → EndsWell s
ends_unless_spared s (line.Query question) fits e = well_asked s fits
ends_unless_spared s (line.Sql text) fits e = well_outside s fits
ends_unless_spared s (line.Order key) fits e = well_outside s fits
ends_unless_spared s line.Begin fits e = well_outside s fits
ends_unless_spared s (line.Open opening) fits e = well_ended s fits.0
ends_unless_spared s (line.Line row) fits e = absurd cc
ends_unless_spared s (line.Withdraw key) fits e = well_ended s fits.0
ends_unless_spared s line.Commit fits e = well_ended s fits.0
ends_unless_spared s line.Ask fits e = well_outside s fits
ends_unless_spared s line.Answer fits e = well_answered s fits
ends_unless_spared s line.Abort fits e = absurd cc

end_not_refused : (b : Begun) → EndsWell (stand_of b) → refusal_at_end b ≡ None
end_not_refused begun.Nothing ends = refl
end_not_refused (begun.Refresh actions) ends = refl
end_not_refused (begun.Order order) whole = rw whole refl
end_not_refused (begun.Asked questions) ends = refl

not_refused : (b : Begun) (l : ScriptLine) (w : Option ScriptWord) → Fits (stand_of b) l → spared w ≡ spares l
    → order_refused b w ≡ None
not_refused b l w fits same = by (spares l) same refl
  where
    by : (is : Bool) → spared w ≡ is → spares l ≡ is → (if spared w then None else refusal_at_end b) ≡ None
    by true w_is l_is = rw w_is refl
    by false w_is l_is = rw w_is (end_not_refused b (ends_unless_spared (stand_of b) l fits l_is))

not_zero : (n : ℕ) → 0 < n → nat_eq n 0 ≡ false
not_zero n some = grind (arith, nat_tests)

checks_none : (number : ℕ) (b : Begun) (l : ScriptLine) → Fits (stand_of b) l
    → first_of (checks_in number b (Ok l)) ≡ None
checks_none number begun.Nothing (line.Query question) fits = refl
checks_none number begun.Nothing (line.Sql text) fits = refl
checks_none number begun.Nothing (line.Order key) fits = refl
checks_none number begun.Nothing line.Begin fits = refl
checks_none number begun.Nothing (line.Open opening) fits = absurd fits.0
checks_none number begun.Nothing (line.Withdraw key) fits = absurd fits.0
checks_none number begun.Nothing line.Commit fits = absurd fits.0
checks_none number begun.Nothing line.Ask fits = refl
checks_none number begun.Nothing _ fits = absurd fits
checks_none number (begun.Refresh actions) (line.Open opening) fits = rw (lt-ltb (length actions) 64 fits.1) refl
checks_none number (begun.Refresh actions) (line.Withdraw key) fits = rw (lt-ltb (length actions) 64 fits.1) refl
checks_none number (begun.Refresh actions) line.Commit fits = rw (not_zero (length actions) fits.1) refl
checks_none number (begun.Refresh actions) line.Abort fits = refl
checks_none number (begun.Refresh actions) _ fits = absurd fits
checks_none number (begun.Order order) (line.Open opening) fits =
    let few : length order.actions + 1 < 64 =
    omega (arith, fits.1, length_push order.actions (action_of order.opening order.lines)) in
    rw (lt-ltb (length order.actions + 1) 64 few) refl
checks_none number (begun.Order order) (line.Line row) fits = rw (lt-ltb (length order.lines) 7 fits) refl
checks_none number (begun.Order order) (line.Withdraw key) fits =
    let few : length order.actions + 1 < 64 =
    omega (arith, fits.1, length_push order.actions (action_of order.opening order.lines)) in
    rw (lt-ltb (length order.actions + 1) 64 few) refl
checks_none number (begun.Order order) line.Commit fits =
    let some : 0 < length order.actions + 1 = omega arith in
    rw (not_zero (length order.actions + 1) some) refl
checks_none number (begun.Order order) line.Abort fits = refl
checks_none number (begun.Order order) _ fits = absurd fits
checks_none number (begun.Asked questions) (line.Query question) fits = rw (lt-ltb (length questions) 16 fits) refl
checks_none number (begun.Asked questions) (line.Open opening) fits = absurd fits.0
checks_none number (begun.Asked questions) (line.Withdraw key) fits = absurd fits.0
checks_none number (begun.Asked questions) line.Commit fits = absurd fits.0
checks_none number (begun.Asked questions) line.Answer fits = rw (not_zero (length questions) fits) refl
checks_none number (begun.Asked questions) line.Abort fits = refl
checks_none number (begun.Asked questions) _ fits = absurd fits

same_list : {X : Type 0} (x y : X) (xs ys : List X) → x ≡ y → xs ≡ ys → x ∷ xs ≡ y ∷ ys
same_list x y xs ys first rest = cc

-- the word of a record tells whether its line is one of an order, or an `abort`
word_tells : (fields : List (List ℕ)) (l : ScriptLine) → line_of fields ≡ Ok l → spared (word_of fields) ≡ spares l
unfolding line_of
word_tells fields l e = ap spared (word_said (word_of fields) fields l e)

-- a record whose line fits has no fault
record_passes : (most number : ℕ) (b : Begun) (fields : List (List ℕ)) (l : ScriptLine) → number ≤ most
    → line_of fields ≡ Ok l → Fits (stand_of b) l → fault_of most number b fields ≡ None
record_passes most number b fields l few says fits =
    rw (le-ltb most number few, not_refused b l (word_of fields) fits (word_tells fields l says), says)
    (checks_none number b l fits)

-- a record behind those that say the first lines says the next line
says_next : (front lines : List ScriptLine) (r : Result ScriptLine RecordFault)
    (more : List (Result ScriptLine RecordFault)) → map Ok front ++ r ∷ more ≡ map Ok lines
    → (l : ScriptLine) × (rest : List ScriptLine) × (r ≡ Ok l) × (lines ≡ front ++ l ∷ rest)
says_next [] [] r more e = absurd cc
says_next [] (l ∷ lines) r more e = (l, lines, cc, refl)
says_next (p ∷ front) [] r more e = absurd cc
says_next (p ∷ front) (q ∷ lines) r more e =
    let later = says_next front lines r more cc in
    let same : q ≡ p = cc in
    (later.0, later.1, later.2, same_list q p lines (front ++ later.0 ∷ later.1) same later.3)

-- lines have the text of a statement just where their requests ask one
abbrev is_sql : ScriptLine → Bool
is_sql (line.Sql text) = true
is_sql _ = false

abbrev has_sql : List ScriptLine → Bool
has_sql lines = list_any is_sql lines

no_sql_rows : (rows : List LineFields) (rest : List ScriptLine) → has_sql (map line.Line rows ++ rest) ≡ has_sql rest
no_sql_rows [] rest = refl
no_sql_rows (row ∷ rows) rest = no_sql_rows rows rest

no_sql_queries : (questions : List (Named × List Value)) (rest : List ScriptLine)
    → has_sql (map line.Query questions ++ rest) ≡ has_sql rest
no_sql_queries [] rest = refl
no_sql_queries (question ∷ questions) rest = no_sql_queries questions rest

no_sql_action : (a : Action) (rest : List ScriptLine) → has_sql (lines_of_action a ++ rest) ≡ has_sql rest
no_sql_action (action.Add order) rest = no_sql_rows order rest
no_sql_action (action.Amend order) rest = no_sql_rows order rest
no_sql_action (action.Put order) rest = no_sql_rows order rest
no_sql_action (action.Withdraw key) rest = refl

no_sql_actions : (actions : List Action) (rest : List ScriptLine)
    → has_sql (flat_map lines_of_action actions ++ rest) ≡ has_sql rest
no_sql_actions [] rest = refl
no_sql_actions (a ∷ actions) rest =
    ap has_sql (append_assoc (lines_of_action a) (flat_map lines_of_action actions) rest)
    ∙ (no_sql_action a (flat_map lines_of_action actions ++ rest) ∙ no_sql_actions actions rest)

no_sql_begun : (b : Begun) (rest : List ScriptLine) → has_sql (lines_of_begun b ++ rest) ≡ has_sql rest
no_sql_begun begun.Nothing rest = refl
no_sql_begun (begun.Refresh actions) rest = no_sql_actions actions rest
no_sql_begun (begun.Order order) rest =
    let acts = flat_map lines_of_action order.actions in
    let last : List ScriptLine = line.Open order.opening ∷ map line.Line order.lines in
    ap has_sql (append_assoc acts last rest)
    ∙ (no_sql_actions order.actions (last ++ rest) ∙ no_sql_rows order.lines rest)
no_sql_begun (begun.Asked questions) rest = no_sql_queries questions rest

sql_of_request : (one : RequestRecord) (lines : List ScriptLine) → Spell one lines → has_sql lines ≡ is_statement one
sql_of_request (Refresh actions) lines spell = ap has_sql spell ∙ no_sql_actions actions (line.Commit ∷ [])
sql_of_request (Ask (Alone question)) lines spell = ap has_sql spell
sql_of_request (Ask (Together questions)) lines spell =
    ap has_sql spell ∙ no_sql_queries questions (line.Answer ∷ [])
sql_of_request (Ask (Stated asked)) lines spell = ap has_sql spell
sql_of_request (Order key) lines spell = ap has_sql spell
sql_of_request Abort lines spell = ap has_sql spell.joined ∙ no_sql_begun spell.begun (line.Abort ∷ [])

sql_of_parts : (requests : List RequestRecord) (parts : List (List ScriptLine)) → AllZip Spell requests parts
    → has_sql (lines_in parts) ≡ has_statement requests
sql_of_parts [] [] each = refl
sql_of_parts [] (part ∷ parts) each = absurd each
sql_of_parts (one ∷ requests) [] each = absurd each
sql_of_parts (one ∷ requests) (part ∷ parts) each =
    list_any-append is_sql part (lines_in parts)
    ∙ (ap (λ first. first || has_sql (lines_in parts)) (sql_of_request one part each.0)
    ∙ ap (λ rest. is_statement one || rest) (sql_of_parts requests parts each.1))

sql_inside : (front : List ScriptLine) (text : List ℕ) (rest : List ScriptLine)
    → has_sql (front ++ line.Sql text ∷ rest) ≡ true
sql_inside [] text rest = refl
sql_inside (l ∷ front) text rest = ap (λ later. is_sql l || later) (sql_inside front text rest) ∙ or-true (is_sql l)

-- where a record's checks find nothing, its fault is that of a statement
of_statement : (number : ℕ) (spelled : Result ScriptLine RecordFault) (e : ScriptError)
    → IsNoStatement number spelled e → IsOfStatement e × ((text : List ℕ) × (spelled ≡ Ok (line.Sql text)))
of_statement number (Ok (line.Sql text)) (error.Sql n why) is = (tt, (text, refl))
of_statement number _ _ is = absurd is

refused_only : (most number : ℕ) (b : Begun) (fields : List (List ℕ)) (e : ScriptError)
    → fault_of most number b fields ≡ None → IsFaultOf most number b fields e
    → IsOfStatement e × ((text : List ℕ) × (line_of fields ≡ Ok (line.Sql text)))
refused_only most number b fields e none (inl is) = absurd (none-some e (sym none ∙ is))
refused_only most number b fields e none (inr refused) = of_statement number (line_of fields) e refused.1

-- a script with such a line asks a statement
asks_statement : (wanted : List RequestRecord) (lines front : List ScriptLine) (said : ScriptLine) (text : List ℕ)
    (rest : List ScriptLine) → SpellAll wanted lines → lines ≡ front ++ said ∷ rest → said ≡ line.Sql text
    → has_statement wanted ≡ true
asks_statement wanted lines front said text rest spell split is =
    sym (sql_of_parts wanted spell.parts spell.each)
    ∙ (ap has_sql (sym spell.joined ∙ (split ∙ ap (λ one. front ++ one ∷ rest) is)) ∙ sql_inside front text rest)

same_said : (said other : ScriptLine) (spelled : Result ScriptLine RecordFault) → spelled ≡ Ok said → spelled ≡ Ok other
    → said ≡ other
same_said said other spelled is more = cc

no_first_fault : (most : ℕ) (text : List ℕ) (wanted : List RequestRecord) (e : ScriptError)
    → SpellsScript most text wanted → IsFirstFault most text e → IsOfStatement e × (has_statement wanted ≡ true)
no_first_fault most text wanted e a b =
    let before = b.before in
    let all = text_begins text (before ++ b.fields ∷ []) a.records b.begins a.all in
    let split : a.records ≡ before ++ b.fields ∷ all.0 = all.1 ∙ append_assoc before (b.fields ∷ []) all.0 in
    let lines = b.spells.lines ++ lines_of_begun b.begun in
    let said : map Ok lines ++ line_of b.fields ∷ map line_of all.0 ≡ map Ok a.lines =
    ap (λ xs. xs ++ line_of b.fields ∷ map line_of all.0) (sym b.spells.said)
    ∙ (sym (map-append line_of before (b.fields ∷ all.0)) ∙ (ap (map line_of) (sym split) ∙ a.said)) in
    let one = says_next lines a.lines (line_of b.fields) (map line_of all.0) said in
    let fit : AllFit Outside (lines ++ one.0 ∷ one.1) =
    subst (AllFit Outside) one.3
    (fit_requests wanted a.lines a.spelled (recursion_from_All IsWholeRequest wanted a.whole)) in
    let here : AllFit (stand_of b.begun) (one.0 ∷ one.1) =
    subst (λ s. AllFit s (one.0 ∷ one.1))
    (behind_all b.requests b.spells.lines b.begun b.spells.spelled b.spells.settled)
    (fit_behind Outside lines (one.0 ∷ one.1) fit) in
    let few : length before + 1 ≤ most =
    omega (arith, a.few, ap length split, length-append before (b.fields ∷ all.0)) in
    let refused = refused_only most (length before + 1) b.begun b.fields e
    (record_passes most (length before + 1) b.begun b.fields one.0 few one.2 here.0) b.is in (
      refused.0,
      asks_statement wanted a.lines lines one.0 refused.1.0 one.1 a.spelled one.3
          (same_said one.0 (line.Sql refused.1.0) (line_of b.fields) one.2 refused.1.1),
    )

-- where nothing is begun, nothing is lacking
nothing_lacks : (b : Begun) (e : ScriptError) → stand_of b ≡ Outside → IsOpenEnd b e → ⊥
nothing_lacks begun.Nothing e outside lacks = lacks
nothing_lacks (begun.Refresh actions) e outside lacks = cc outside
nothing_lacks (begun.Order order) e outside lacks = cc outside
nothing_lacks (begun.Asked questions) e outside lacks = cc outside

no_open_end : (most : ℕ) (text : List ℕ) (wanted : List RequestRecord) (e : ScriptError)
    → SpellsScript most text wanted → EndsOpen most text e → ⊥
no_open_end most text wanted e a b =
    let records = one_records text a.records b.records a.all b.all in
    let begun_lines = b.spells.lines ++ lines_of_begun b.begun in
    let results : map Ok a.lines ≡ map Ok begun_lines = sym a.said ∙ (ap (map line_of) records ∙ b.spells.said) in
    let lines : a.lines ≡ begun_lines =
    sym (all_given a.lines) ∙ (ap (map given) results ∙ all_given begun_lines) in
    let stands : stand_of b.begun ≡ Outside =
    sym (behind_all b.requests b.spells.lines b.begun b.spells.spelled b.spells.settled)
    ∙ (ap (behind Outside) (sym lines) ∙ behind_requests wanted a.lines a.spelled) in
    nothing_lacks b.begun e stands b.is

pub spelled_has_no_fault : (text : List ℕ) → HasNoFaultIfSpelled text
spelled_has_no_fault text most wanted a =
    (λ e b. no_first_fault most text wanted e a b, λ e b. no_open_end most text wanted e a b)
