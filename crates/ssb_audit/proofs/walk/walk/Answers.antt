use Rattle.std.proofs.Common.{◌≡◌, ℕ, ◌-◌, ◌≤◌, List, length, take, drop, get_or, ap, sym, subst, ◌∙◌, arith}
use Rattle.std.proofs.lemmas.List.{length-take}
use Rattle.std.proofs.lemmas.List.Elements.{All-take, All-drop}
use Rattle.row_store.specs.History.{CommitRecord}
use Rattle.row_store.specs.State.{State, StandsFor, state_of}
use Rattle.fact_columns.specs.Stored.{columns_state}
use Rattle.ssb_audit.specs.Visits.{IsIn, IsFirstWrongOf}
use Rattle.ssb_audit.specs.declared.visits.Visit.{Visit}
use Rattle.ssb_audit.proofs.SnapshotLaws.{snapshot_of}
use Rattle.ssb_audit.proofs.VisitLaws.{visits_in}
use Rattle.ssb_audit.proofs.WalkLaws.{walked_none, walked_more, walked_all, visit_within, same_read, batch_at}
use Rattle.ssb_audit.proofs.walk.walk.Goals as goal

count_taken : (commits : List CommitRecord) (at : ℕ) → at ≤ length commits → length (take at commits) ≡ at
count_taken commits at within = omega (arith, within, length-take at commits)

pub loop-begin-init : goal.loop-begin-init
loop-begin-init g c =
    let base = c.args.columns.now.base in
    let commits = c.args.commits.now in
    let columns = c.args.columns.now in
    let no_commits : columns.commits ≡ 0 = ap (λ (s : State). s.commits) c.requires.loaded in
    record {
      within = omega arith;
      state = c.requires.loaded ∙ ap (λ n. state_of base (take n commits)) (sym no_commits);
      ahead = λ visit within. omega (arith, no_commits);
      walked = walked_none base commits c.args.answers.now c.args.visits.now;
    }

pub advance-requires-clause-within : goal.advance-requires-clause-within
advance-requires-clause-within g c =
    let answers = c.args.answers.now in
    let visits = c.args.visits.now in
    visit_within answers visits (length c.args.commits.now) c.loop-begin.begin (record { at = 0; place = 0 })
    (visits_in answers visits c.requires.each) c.requires.within c.loop-begin-test.true

pub check_batch-requires-clause-answers : goal.check_batch-requires-clause-answers
check_batch-requires-clause-answers g c = λ κs outlives.
    let answers = c.args.answers.now in
    let visits = c.args.visits.now in
    All-take (IsIn answers) (c.batch_end-end.result - c.loop-begin.begin) (drop c.loop-begin.begin visits)
    (All-drop (IsIn answers) c.loop-begin.begin visits (visits_in answers visits c.requires.each))

pub check_batch-requires-clause-snapshot : goal.check_batch-requires-clause-snapshot
check_batch-requires-clause-snapshot g c = λ κs outlives.
    let base = c.args.columns.now.base in
    let commits = c.args.commits.now in
    let at = (get_or c.args.visits.now c.loop-begin.begin (record { at = 0; place = 0 })).at in
    let same : c.loop-begin.columns.base ≡ base = ap (λ (s : State). s.base)
    {y = state_of base (take c.loop-begin.columns.commits commits)} c.loop-begin.invariant.state in
    snapshot_of c.advance.new.columns base commits at c.requires.sound
    c.requires.legal
    (c.in_ok-advance.ensures ∙ ap (λ b. state_of b (take at commits)) same)

pub loop-begin-preserved : goal.loop-begin-preserved
loop-begin-preserved g c =
    let base = c.args.columns.now.base in
    let commits = c.args.commits.now in
    let answers = c.args.answers.now in
    let visits = c.args.visits.now in
    let begin = c.loop-begin.begin in
    let end = c.batch_end-end.result in
    let first : Visit = get_or visits begin (record { at = 0; place = 0 }) in
    let are_in = visits_in answers visits c.requires.each in
    let inside : first.at ≤ length commits = visit_within answers visits (length commits) begin
    (record { at = 0; place = 0 }) are_in c.requires.within c.loop-begin-test.true in
    let before : c.loop-begin.columns.base ≡ base = ap (λ (s : State). s.base) c.loop-begin.invariant.state in
    let state : columns_state c.advance.new.columns ≡ state_of base (take first.at commits) =
    c.in_ok-advance.ensures ∙ ap (λ b. state_of b (take first.at commits)) before in
    let same : c.advance.new.columns.base ≡ base = ap (λ (s : State). s.base) state in
    let count : c.advance.new.columns.commits ≡ first.at =
    ap (λ (s : State). s.commits) state ∙ count_taken commits first.at inside in
    let stands : StandsFor (columns_state c.advance.new.columns) (take first.at commits) =
    state ∙ ap (λ b. state_of b (take first.at commits)) (sym same) in
    let batch = subst (λ b. IsFirstWrongOf b (take first.at commits) answers (take (end - begin) (drop begin visits))
    c.loop-begin.first c.in_ok-first.first) same (c.in_ok-first.ensures (take first.at commits) stands) in
    let more : begin ≤ end = omega (arith, c.batch_end-end.ensures.some) in
    record {
      within = c.batch_end-end.ensures.within;
      state = state ∙ ap (λ n. state_of base (take n commits)) (sym count);
      ahead = λ visit lt. omega (
        arith,
        count,
        ap (λ (v : Visit). v.at)
            (same_read visits begin (record { at = 0; place = 0 }) visit c.loop-begin-test.true),
        c.requires.sorted begin end visit more lt,
      );
      walked = walked_more base commits answers visits begin end first.at c.loop-begin.first c.in_ok-first.first are_in
          (batch_at visits begin end (record { at = 0; place = 0 }) c.batch_end-end.ensures.same)
          c.loop-begin.invariant.walked batch;
    }

pub returns : goal.returns
returns g c = walked_all c.args.columns.now.base c.args.commits.now c.args.answers.now c.args.visits.now
    c.loop-begin.begin c.loop-begin.first c.requires.each c.loop-begin-test.false c.loop-begin.invariant.walked
