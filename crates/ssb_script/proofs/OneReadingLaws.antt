-- A text spells no two lists of requests, but for what statements are read as: they are read off its lines, from the last
-- to the first.
use Rattle.std.proofs.Common.{◌≡◌, ℕ, Bool, true, false, List, [], ◌∷◌, ◌++◌, map, Option, Some, None, Ok, Err, Result}
use Rattle.std.proofs.Common.{All, refl, sym, ap, subst, ◌∙◌, append_assoc, arith}
use Rattle.std.specs.List.{AllByRecursion, AllZip, flat_map}
use Rattle.std.proofs.lemmas.List.Elements.{All-nil, recursion_from_All}
use Rattle.csv.specs.Machine.{next_record}
use Rattle.csv.specs.Reading.{Reached, strip_bom}
use Rattle.csv.specs.declared.parser.State.TheVariants as st
use Rattle.ssb_schema.specs.declared.line.LineFields.{LineFields}
use Rattle.ssb_schema.specs.declared.refresh.Action.{Action}
use Rattle.ssb_schema.specs.declared.refresh.Action.TheVariants as action
use Rattle.ssb_questions.specs.declared.query.Query.{Query as Named}
use Rattle.ssb_questions.specs.declared.value.Value.{Value}
use Rattle.ssb_script.specs.Begun.{Begun}
use Rattle.ssb_script.specs.Begun as begun
use Rattle.ssb_script.specs.Laws.{HasOneReading}
use Rattle.ssb_script.specs.Lines.{ScriptLine, RecordFault, line_of}
use Rattle.ssb_script.specs.Lines as line
use Rattle.ssb_script.specs.Requests.{RequestRecord, Refresh, Ask, Order, Abort, AreAlike, AreOneStatement, IsWholeRequest}
use Rattle.ssb_script.specs.Requests.{AskAlike, action_of, lines_of_action, lines_of_asking}
use Rattle.ssb_script.specs.Scripts.{Spell, SpellAll, SpellsScript, is_outside, lines_in, lines_of_begun}
use Rattle.ssb_script.specs.declared.control.OrderOpening.TheVariants.{Add, Amend, Put}
use Rattle.ssb_script.specs.declared.request.Asking.{Asking}
use Rattle.ssb_script.specs.declared.request.Asking.TheVariants.{Alone, Together, Statement as Stated}
use Rattle.ssb_script.specs.declared.statement.StatementAsked.{StatementAsked}
use Rattle.ssb_sql.specs.Meaning.{Means, pieces_in}
use Rattle.ssb_sql.specs.Said.{groups_said, limit_said}
use Rattle.ssb_sql.specs.declared.piece.SqlPiece.{SqlPiece}
use Rattle.ssb_text.proofs.OneListLaws.{one_records}

abbrev Question : Type 0
Question = Named × List Value

-- what lines say of a request: all of it, or of a statement its text
data Said : Type 0 where
  Whole : RequestRecord → Said
  Text : List ℕ → Said

abbrev said_of : RequestRecord → Said
said_of (Refresh actions) = Whole (Refresh actions)
said_of (Ask (Alone question)) = Whole (Ask (Alone question))
said_of (Ask (Together questions)) = Whole (Ask (Together questions))
said_of (Ask (Stated asked)) = Text asked.value.text
said_of (Order key) = Whole (Order key)
said_of Abort = Whole Abort

-- what the lines from one on hold: lines of an order that began before it, actions of a refresh that did, questions of
-- a block that did, whether what did is dropped, and requests
record Tail : Type 0 where
  lines : List LineFields
  actions : List Action
  block : Option (List Question)
  dropped : Bool
  requests : List Said

-- a question of the block, where its end follows; else one alone
abbrev before_query : Question → Tail → Option (List Question) → Tail
before_query question tail None = record {
  lines = [];
  actions = [];
  block = None;
  dropped = false;
  requests = Whole (Ask (Alone question)) ∷ tail.requests;
}
before_query question tail (Some questions) = record {
  lines = [];
  actions = [];
  block = Some (question ∷ questions);
  dropped = tail.dropped;
  requests = tail.requests;
}

abbrev asked_in : Option (List Question) → List Question
asked_in None = []
asked_in (Some questions) = questions

-- the request, unless it is dropped
abbrev unless : Bool → RequestRecord → RequestRecord
unless true one = Abort
unless false one = one

abbrev before : ScriptLine → Tail → Tail
before (line.Query question) tail = before_query question tail tail.block
before (line.Sql text) tail =
    record { lines = []; actions = []; block = None; dropped = false; requests = Text text ∷ tail.requests }
before (line.Order key) tail =
    record { lines = []; actions = []; block = None; dropped = false; requests = Whole (Order key) ∷ tail.requests }
before line.Begin tail = record {
  lines = [];
  actions = [];
  block = None;
  dropped = false;
  requests = Whole (unless tail.dropped (Refresh tail.actions)) ∷ tail.requests;
}
before (line.Open opening) tail = record {
  lines = [];
  actions = action_of opening tail.lines ∷ tail.actions;
  block = tail.block;
  dropped = tail.dropped;
  requests = tail.requests;
}
before (line.Line row) tail = record {
  lines = row ∷ tail.lines;
  actions = tail.actions;
  block = tail.block;
  dropped = tail.dropped;
  requests = tail.requests;
}
before (line.Withdraw key) tail = record {
  lines = [];
  actions = action.Withdraw key ∷ tail.actions;
  block = tail.block;
  dropped = tail.dropped;
  requests = tail.requests;
}
before line.Commit tail =
    record { lines = []; actions = []; block = None; dropped = false; requests = tail.requests }
before line.Ask tail = record {
  lines = [];
  actions = [];
  block = None;
  dropped = false;
  requests = Whole (unless tail.dropped (Ask (Together (asked_in tail.block)))) ∷ tail.requests;
}
before line.Answer tail =
    record { lines = []; actions = []; block = Some []; dropped = false; requests = tail.requests }
before line.Abort tail =
    record { lines = []; actions = []; block = Some []; dropped = true; requests = tail.requests }

abbrev tail_of : List ScriptLine → Tail
tail_of [] = record { lines = []; actions = []; block = None; dropped = false; requests = [] }
tail_of (l ∷ lines) = before l (tail_of lines)

-- of the lines of an order, of an action, of actions, of a block, of a request
of_order : (order : List LineFields) (rest : List ScriptLine) → (tail_of rest).lines ≡ []
    → tail_of (map line.Line order ++ rest) ≡ record {
      lines = order;
      actions = (tail_of rest).actions;
      block = (tail_of rest).block;
      dropped = (tail_of rest).dropped;
      requests = (tail_of rest).requests;
    }
of_order [] rest none = rw (← none) refl
of_order (row ∷ order) rest none = ap (before (line.Line row)) (of_order order rest none)

of_action : (a : Action) (rest : List ScriptLine) → (tail_of rest).lines ≡ []
    → tail_of (lines_of_action a ++ rest) ≡ record {
      lines = [];
      actions = a ∷ (tail_of rest).actions;
      block = (tail_of rest).block;
      dropped = (tail_of rest).dropped;
      requests = (tail_of rest).requests;
    }
of_action (action.Add order) rest none = ap (before (line.Open Add)) (of_order order rest none)
of_action (action.Amend order) rest none = ap (before (line.Open Amend)) (of_order order rest none)
of_action (action.Put order) rest none = ap (before (line.Open Put)) (of_order order rest none)
of_action (action.Withdraw key) rest none = refl

of_actions : (actions : List Action) (rest : List ScriptLine)
    → tail_of (flat_map lines_of_action actions ++ line.Commit ∷ rest) ≡ record {
      lines = [];
      actions = actions;
      block = None;
      dropped = false;
      requests = (tail_of rest).requests;
    }
of_actions [] rest = refl
of_actions (a ∷ actions) rest =
    let later = of_actions actions rest in
    ap tail_of (append_assoc (lines_of_action a) (flat_map lines_of_action actions) (line.Commit ∷ rest))
    ∙ (of_action a (flat_map lines_of_action actions ++ line.Commit ∷ rest) (ap (λ t. t.lines) later)
    ∙ ap (λ t. record {
      lines = [];
      actions = a ∷ t.actions;
      block = t.block;
      dropped = t.dropped;
      requests = t.requests;
    }) later)

of_block : (questions : List Question) (end : List ScriptLine) (dropped : Bool) (requests : List Said)
    → tail_of end ≡ record { lines = []; actions = []; block = Some []; dropped = dropped; requests = requests }
    → tail_of (map line.Query questions ++ end) ≡ record {
      lines = [];
      actions = [];
      block = Some questions;
      dropped = dropped;
      requests = requests;
    }
of_block [] end dropped requests e = e
of_block (question ∷ questions) end dropped requests e =
    ap (before (line.Query question)) (of_block questions end dropped requests e)

-- the lines of actions, be the last whole or not, change nothing of whether they are dropped, and of later requests
abbrev later_of : Tail → Bool × List Said
later_of tail = (tail.dropped, tail.requests)

later_order : (order : List LineFields) (rest : List ScriptLine)
    → later_of (tail_of (map line.Line order ++ rest)) ≡ later_of (tail_of rest)
later_order [] rest = refl
later_order (row ∷ order) rest = later_order order rest

later_action : (a : Action) (rest : List ScriptLine)
    → later_of (tail_of (lines_of_action a ++ rest)) ≡ later_of (tail_of rest)
later_action (action.Add order) rest = later_order order rest
later_action (action.Amend order) rest = later_order order rest
later_action (action.Put order) rest = later_order order rest
later_action (action.Withdraw key) rest = refl

later_actions : (actions : List Action) (rest : List ScriptLine)
    → later_of (tail_of (flat_map lines_of_action actions ++ rest)) ≡ later_of (tail_of rest)
later_actions [] rest = refl
later_actions (a ∷ actions) rest =
    ap (λ lines. later_of (tail_of lines)) (append_assoc (lines_of_action a) (flat_map lines_of_action actions) rest)
    ∙ (later_action a (flat_map lines_of_action actions ++ rest) ∙ later_actions actions rest)

begin_dropped : (tail : Tail) (requests : List Said) → later_of tail ≡ (true, requests)
    → (before line.Begin tail).requests ≡ Whole Abort ∷ requests
begin_dropped tail requests e =
    rw (ap (λ (p : Bool × List Said). p.0) e, ap (λ (p : Bool × List Said). p.1) e) refl

of_begun : (b : Begun) (rest : List ScriptLine) → is_outside b ≡ false
    → (tail_of ((lines_of_begun b ++ line.Abort ∷ []) ++ rest)).requests ≡ Whole Abort ∷ (tail_of rest).requests
of_begun begun.Nothing rest inside = absurd cc
of_begun (begun.Refresh actions) rest inside =
    let acts = flat_map lines_of_action actions in
    begin_dropped (tail_of ((acts ++ line.Abort ∷ []) ++ rest)) (tail_of rest).requests
    (ap (λ lines. later_of (tail_of lines)) (append_assoc acts (line.Abort ∷ []) rest)
    ∙ later_actions actions (line.Abort ∷ rest))
of_begun (begun.Order order) rest inside =
    let acts = flat_map lines_of_action order.actions in
    let last : List ScriptLine = line.Open order.opening ∷ map line.Line order.lines in
    begin_dropped (tail_of (((acts ++ last) ++ line.Abort ∷ []) ++ rest)) (tail_of rest).requests
    (ap (λ lines. later_of (tail_of lines))
    (append_assoc (acts ++ last) (line.Abort ∷ []) rest ∙ append_assoc acts last (line.Abort ∷ rest))
    ∙ (later_actions order.actions (last ++ line.Abort ∷ rest) ∙ later_order order.lines (line.Abort ∷ rest)))
of_begun (begun.Asked questions) rest inside =
    ap (λ lines. (tail_of (line.Ask ∷ lines)).requests)
    (append_assoc (map line.Query questions) (line.Abort ∷ []) rest)
    ∙ ap (λ t. (before line.Ask t).requests) (of_block questions (line.Abort ∷ rest) true (tail_of rest).requests refl)

of_request : (one : RequestRecord) (lines rest : List ScriptLine) → Spell one lines → (tail_of rest).block ≡ None
    → (tail_of (lines ++ rest)).requests ≡ said_of one ∷ (tail_of rest).requests
of_request (Refresh actions) lines rest spell none =
    ap (λ first. (tail_of (first ++ rest)).requests) spell
    ∙ (ap (λ lines. (tail_of (line.Begin ∷ lines)).requests)
    (append_assoc (flat_map lines_of_action actions) (line.Commit ∷ []) rest)
    ∙ ap (λ t. (before line.Begin t).requests) (of_actions actions rest))
of_request (Ask (Alone question)) lines rest spell none =
    ap (λ first. (tail_of (first ++ rest)).requests) spell
    ∙ ap (λ o. (before_query question (tail_of rest) o).requests) none
of_request (Ask (Together questions)) lines rest spell none =
    ap (λ first. (tail_of (first ++ rest)).requests) spell
    ∙ (ap (λ lines. (tail_of (line.Ask ∷ lines)).requests)
    (append_assoc (map line.Query questions) (line.Answer ∷ []) rest)
    ∙ ap (λ t. (before line.Ask t).requests)
    (of_block questions (line.Answer ∷ rest) false (tail_of rest).requests refl))
of_request (Ask (Stated asked)) lines rest spell none = ap (λ first. (tail_of (first ++ rest)).requests) spell
of_request (Order key) lines rest spell none = ap (λ first. (tail_of (first ++ rest)).requests) spell
of_request Abort lines rest spell none =
    ap (λ first. (tail_of (first ++ rest)).requests) spell.joined ∙ of_begun spell.begun rest spell.inside

-- a request begins with no line that a block goes on with
begun_no_block : (b : Begun) (more : List ScriptLine) → is_outside b ≡ false
    → (tail_of (lines_of_begun b ++ more)).block ≡ None
begun_no_block begun.Nothing more inside = absurd cc
begun_no_block (begun.Refresh actions) more inside = refl
begun_no_block (begun.Order order) more inside = refl
begun_no_block (begun.Asked questions) more inside = refl

no_block : (one : RequestRecord) (lines rest : List ScriptLine) → Spell one lines → (tail_of rest).block ≡ None
    → (tail_of (lines ++ rest)).block ≡ None
no_block (Refresh actions) lines rest spell none = ap (λ first. (tail_of (first ++ rest)).block) spell
no_block (Ask (Alone question)) lines rest spell none =
    ap (λ first. (tail_of (first ++ rest)).block) spell ∙ ap (λ o. (before_query question (tail_of rest) o).block) none
no_block (Ask (Together questions)) lines rest spell none = ap (λ first. (tail_of (first ++ rest)).block) spell
no_block (Ask (Stated asked)) lines rest spell none = ap (λ first. (tail_of (first ++ rest)).block) spell
no_block (Order key) lines rest spell none = ap (λ first. (tail_of (first ++ rest)).block) spell
no_block Abort lines rest spell none =
    ap (λ first. (tail_of (first ++ rest)).block) spell.joined
    ∙ (ap (λ all. (tail_of all).block) (append_assoc (lines_of_begun spell.begun) (line.Abort ∷ []) rest)
    ∙ begun_no_block spell.begun (line.Abort ∷ rest) spell.inside)

no_blocks : (requests : List RequestRecord) (parts : List (List ScriptLine)) → AllZip Spell requests parts
    → (tail_of (lines_in parts)).block ≡ None
no_blocks [] [] each = refl
no_blocks [] (part ∷ parts) each = absurd each
no_blocks (one ∷ requests) [] each = absurd each
no_blocks (one ∷ requests) (part ∷ parts) each =
    no_block one part (lines_in parts) each.0 (no_blocks requests parts each.1)

of_parts : (requests : List RequestRecord) (parts : List (List ScriptLine)) → AllZip Spell requests parts
    → (tail_of (lines_in parts)).requests ≡ map said_of requests
of_parts [] [] each = refl
of_parts [] (part ∷ parts) each = absurd each
of_parts (one ∷ requests) [] each = absurd each
of_parts (one ∷ requests) (part ∷ parts) each =
    of_request one part (lines_in parts) each.0 (no_blocks requests parts each.1)
    ∙ ap (λ rest. said_of one ∷ rest) (of_parts requests parts each.1)

of_requests : (requests : List RequestRecord) (lines : List ScriptLine) → SpellAll requests lines
    → (tail_of lines).requests ≡ map said_of requests
of_requests requests lines spell =
    ap (λ all. (tail_of all).requests) spell.joined ∙ of_parts requests spell.parts spell.each

-- the lines that results give
abbrev pub given : Result ScriptLine RecordFault → ScriptLine
given (Ok l) = l
given (Err e) = line.Begin

pub all_given : (lines : List ScriptLine) → map given (map Ok lines) ≡ lines
all_given [] = refl
all_given (l ∷ lines) = ap (λ rest. l ∷ rest) (all_given lines)

-- whole requests of which lines say the same are alike
whole_is : (one other : RequestRecord) → Whole one ≡ Whole other → other ≡ one
whole_is one other e = cc

same_pieces : (a b : List SqlPiece) (said more : Option (List SqlPiece)) → said ≡ Some a → more ≡ Some b → said ≡ more
    → a ≡ b
same_pieces a b said more is other same = cc

one_statement : (asked other : StatementAsked) → Means asked.text asked.statement → Means other.text other.statement
    → asked.text ≡ other.text → AreOneStatement asked other
one_statement asked other one more same =
    let pieces = same_pieces one.pieces more.pieces (pieces_in asked.text) (pieces_in other.text) one.are more.are
    (ap pieces_in same) in
    record {
      text = same;
      groups = one.says.groups ∙ (ap groups_said pieces ∙ sym more.says.groups);
      limit = one.says.limit ∙ (ap limit_said pieces ∙ sym more.says.limit);
    }

alike : (one other : RequestRecord) → IsWholeRequest one → IsWholeRequest other → said_of one ≡ said_of other
    → AreAlike one other
alike (Refresh actions) (Refresh more) a b e = whole_is (Refresh actions) (Refresh more) e
alike (Refresh actions) (Order key) a b e = whole_is (Refresh actions) (Order key) e
alike (Refresh actions) Abort a b e = whole_is (Refresh actions) Abort e
alike (Refresh actions) (Ask (Alone question)) a b e = whole_is (Refresh actions) (Ask (Alone question)) e
alike (Refresh actions) (Ask (Together questions)) a b e = whole_is (Refresh actions) (Ask (Together questions)) e
alike (Refresh actions) (Ask (Stated asked)) a b e = absurd cc
alike (Order key) (Refresh more) a b e = whole_is (Order key) (Refresh more) e
alike (Order key) (Order other) a b e = whole_is (Order key) (Order other) e
alike (Order key) Abort a b e = whole_is (Order key) Abort e
alike (Order key) (Ask (Alone question)) a b e = whole_is (Order key) (Ask (Alone question)) e
alike (Order key) (Ask (Together questions)) a b e = whole_is (Order key) (Ask (Together questions)) e
alike (Order key) (Ask (Stated asked)) a b e = absurd cc
alike Abort (Refresh more) a b e = whole_is Abort (Refresh more) e
alike Abort (Order key) a b e = whole_is Abort (Order key) e
alike Abort Abort a b e = refl
alike Abort (Ask (Alone question)) a b e = whole_is Abort (Ask (Alone question)) e
alike Abort (Ask (Together questions)) a b e = whole_is Abort (Ask (Together questions)) e
alike Abort (Ask (Stated asked)) a b e = absurd cc
alike (Ask (Alone question)) (Refresh more) a b e = absurd cc
alike (Ask (Alone question)) (Order key) a b e = absurd cc
alike (Ask (Alone question)) Abort a b e = absurd cc
alike (Ask (Alone question)) (Ask (Alone other)) a b e = cc
alike (Ask (Alone question)) (Ask (Together questions)) a b e = cc
alike (Ask (Alone question)) (Ask (Stated asked)) a b e = absurd cc
alike (Ask (Together questions)) (Refresh more) a b e = absurd cc
alike (Ask (Together questions)) (Order key) a b e = absurd cc
alike (Ask (Together questions)) Abort a b e = absurd cc
alike (Ask (Together questions)) (Ask (Alone other)) a b e = cc
alike (Ask (Together questions)) (Ask (Together others)) a b e = cc
alike (Ask (Together questions)) (Ask (Stated asked)) a b e = absurd cc
alike (Ask (Stated asked)) (Refresh more) a b e = absurd cc
alike (Ask (Stated asked)) (Order key) a b e = absurd cc
alike (Ask (Stated asked)) Abort a b e = absurd cc
alike (Ask (Stated asked)) (Ask (Alone other)) a b e = absurd cc
alike (Ask (Stated asked)) (Ask (Together questions)) a b e = absurd cc
alike (Ask (Stated asked)) (Ask (Stated other)) a b e = let same : asked.value.text ≡ other.value.text = cc in
    one_statement asked.value other.value a b same

all_alike : (one other : List RequestRecord) → AllByRecursion IsWholeRequest one → AllByRecursion IsWholeRequest other
    → map said_of one ≡ map said_of other → AllZip AreAlike one other
all_alike [] [] a b e = tt
all_alike [] (y ∷ other) a b e = absurd cc
all_alike (x ∷ one) [] a b e = absurd cc
all_alike (x ∷ one) (y ∷ other) a b e =
    let first : said_of x ≡ said_of y = cc in
    let rest : map said_of one ≡ map said_of other = cc in
    (alike x y a.0 b.0 first, all_alike one other a.1 b.1 rest)

pub one_reading : (text : List ℕ) → HasOneReading text
one_reading text most more one other a b =
    let records = one_records text a.records b.records a.all b.all in
    let results : map Ok a.lines ≡ map Ok b.lines = sym a.said ∙ (ap (map line_of) records ∙ b.said) in
    let lines : a.lines ≡ b.lines = sym (all_given a.lines) ∙ (ap (map given) results ∙ all_given b.lines) in
    all_alike one other (recursion_from_All IsWholeRequest one a.whole) (recursion_from_All IsWholeRequest other b.whole)
    (sym (of_requests one a.lines a.spelled)
    ∙ (ap (λ lines. (tail_of lines).requests) lines ∙ of_requests other b.lines b.spelled))

-- a text of no bytes asks nothing
spells_nothing : (most : ℕ) → SpellsScript most [] []
unfolding Reached next_record strip_bom
spells_nothing most = record {
  records = [];
  all = (st.StartRecord, [], (refl, refl), refl);
  few = omega arith;
  lines = [];
  said = refl;
  spelled = record { parts = []; each = tt; joined = refl };
  whole = All-nil IsWholeRequest;
}

like_nothing : (wanted : List RequestRecord) → AllZip AreAlike wanted [] → wanted ≡ []
like_nothing [] alike = refl
like_nothing (one ∷ wanted) alike = absurd alike

pub asks_nothing : (most : ℕ) (wanted : List RequestRecord) → SpellsScript most [] wanted → wanted ≡ []
asks_nothing most wanted spells =
    like_nothing wanted (one_reading [] most most wanted [] spells (spells_nothing most))

-- requests that are alike have the same lines, so what is alike to what a text spells is spelled by it too
lines_alike : (asking other : Asking) → AskAlike asking other → lines_of_asking asking ≡ lines_of_asking other
lines_alike (Alone question) other alike = ap lines_of_asking (sym alike)
lines_alike (Together questions) other alike = ap lines_of_asking (sym alike)
lines_alike (Stated asked) (Stated other) alike = ap (λ text. line.Sql text ∷ []) alike.text
lines_alike (Stated asked) (Alone question) alike = absurd alike
lines_alike (Stated asked) (Together questions) alike = absurd alike

spell_alike : (one other : RequestRecord) (lines : List ScriptLine) → AreAlike one other → Spell one lines
    → Spell other lines
spell_alike (Refresh actions) other lines alike spell = subst (λ request. Spell request lines) (sym alike) spell
spell_alike Abort other lines alike spell = subst (λ request. Spell request lines) (sym alike) spell
spell_alike (Ask asking) (Ask other) lines alike spell = spell ∙ lines_alike asking other alike
spell_alike (Order key) other lines alike spell = subst (λ request. Spell request lines) (sym alike) spell
spell_alike (Ask asking) (Refresh actions) lines alike spell = absurd alike
spell_alike (Ask asking) (Order key) lines alike spell = absurd alike
spell_alike (Ask asking) Abort lines alike spell = absurd alike

each_alike : (one other : List RequestRecord) (parts : List (List ScriptLine)) → AllZip AreAlike one other
    → AllZip Spell one parts → AllZip Spell other parts
each_alike [] [] parts alike each = each
each_alike [] (b ∷ other) parts alike each = absurd alike
each_alike (a ∷ one) [] parts alike each = absurd alike
each_alike (a ∷ one) (b ∷ other) [] alike each = absurd each
each_alike (a ∷ one) (b ∷ other) (part ∷ parts) alike each =
    (spell_alike a b part alike.0 each.0, each_alike one other parts alike.1 each.1)

pub alike_spelled : (most : ℕ) (text : List ℕ) (wanted asked : List RequestRecord) → SpellsScript most text wanted
    → AllZip AreAlike wanted asked → All IsWholeRequest asked → SpellsScript most text asked
alike_spelled most text wanted asked spells alike whole = record {
  records = spells.records;
  all = spells.all;
  few = spells.few;
  lines = spells.lines;
  said = spells.said;
  spelled = record {
    parts = spells.spelled.parts;
    each = each_alike wanted asked spells.spelled.parts alike spells.spelled.each;
    joined = spells.spelled.joined;
  };
  whole = whole;
}
