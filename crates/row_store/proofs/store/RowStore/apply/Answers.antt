use Rattle.std.proofs.Common.{rules, ◌≡◌, ◌+◌, ◌≤◌, List, [], ◌∷◌, ◌++◌, length, nat_eq, nat_le, if◌then◌else◌, Some}
use Rattle.std.proofs.Common.{None, true, false, sym, ap, ◌∙◌, subst, arith}
use Rattle.std.specs.HashMap.{get}
use Rattle.ssb_schema.specs.declared.line.LineFields.{LineFields}
use Rattle.ssb_base.specs.Base.{Tables}
use Rattle.row_store.specs.Lines.{lines_of, lines_after_refresh}
use Rattle.ssb_schema.specs.declared.refresh.Action.{Action}
use Rattle.row_store.specs.History.{CommitRecord, Warehouse, lines_after}
use Rattle.row_store.specs.Refusals.{first_refusal, refusal_of}
use Rattle.row_store.specs.declared.refusal.Cause.TheVariants.{LogFull}
use Rattle.row_store.specs.Last.{AreLast}
use Rattle.row_store.specs.Keyed.{Sources, Located, Lies, IsKeyed}
use Rattle.row_store.specs.Legal.{IsLegal}
use Rattle.row_store.proofs.FewLaws.{few_commits_of}
use Rattle.row_store.proofs.HistoryLaws.{accepted_stays_legal}
use Rattle.row_store.proofs.LastLaws.{last_more}
use Rattle.row_store.proofs.StateLaws.{lines_after-push}
use Rattle.row_store.proofs.PlacedLaws.{moves}
use Rattle.row_store.proofs.store.RowStore.apply.Goals as goal

-- a refresh that is not refused has no action that is
none_first : (base : Tables) (log : List CommitRecord) (actions : List Action) → refusal_of base log actions ≡ None
    → first_refusal base 1 (lines_after base log) actions ≡ None
none_first base log actions is = elim (nat_le base.limits.commits (length log)) as
    (λ b. (if b then Some (record { action = 0; cause = LogFull })
    else first_refusal base 1 (lines_after base log) actions) ≡ None
    → first_refusal base 1 (lines_after base log) actions ≡ None) [ true ↦ λ e. absurd (cc) | false ↦ λ e. e ] is

pub overflow_add-number : goal.overflow_add-number
overflow_add-number c =
    let base : Tables = c.self.inside.base.value in
    let few : length c.self.inside.history.items ≤ base.limits.commits =
    few_commits_of base c.self.inside.history.items c.self.invariant.legal in
    omega (arith, few, c.self.invariant.last.counted, base.limits.commits_range.1)

pub invariant_of-self-2 : goal.invariant_of-self-2
invariant_of-self-2 c =
    let base : Tables = c.self.inside.base.value in
    let log : List CommitRecord = c.self.inside.history.items in
    let recent : List CommitRecord = c.self.inside.recent.items in
    let sources : Sources = record { loaded = base.lines; index = c.self.inside.index.items } in
    let made : CommitRecord = record { client = c.args.client; actions = c.args.refresh.value } in
    let now : List LineFields = lines_after base log in
    let longer : c.push.new.self.items ≡ log ++ made ∷ [] = search rules in
    let kept : c.push_reserved.new.self.items ≡ recent ++ made ∷ [] = search rules in
    let pushed : lines_after base c.push.new.self.items ≡ lines_after_refresh now made.actions =
    ap (lines_after base) longer ∙ lines_after-push base log made in
    let before : Located sources (get nat_eq c.reserve-2.new.self) now =
    moves _ (get nat_eq c.reserve-2.new.self) sources now c.reserve-2.ensures.entries.2 c.self.invariant.keyed.each in
    let checked : refusal_of c.args.self.now.base c.args.self.now.log c.deref.result.now ≡ None = c.in-Ok.ensures.0 in
    let shown : c.deref.result.now ≡ made.actions = search rules in
    let accepted : refusal_of base log made.actions ≡ None = subst
    (λ (w : Warehouse). refusal_of w.base w.log made.actions ≡ None) (sym c.self.view_is)
    (subst (λ a. refusal_of c.args.self.now.base c.args.self.now.log a ≡ None) shown checked) in
    let none : first_refusal base 1 now made.actions ≡ None = none_first base log made.actions accepted in
    let same : c.actions-2.result.now ≡ made.actions = search rules in
    let unrefused : first_refusal base 1 now c.actions-2.result.now ≡ None =
    ap (first_refusal base 1 now) same ∙ none in
    let each : Located sources (get nat_eq c.place_all.new.orders) (lines_after_refresh now made.actions) =
    subst (λ a. Located sources (get nat_eq c.place_all.new.orders) (lines_after_refresh now a)) same
    (c.place_all.ensures base sources now 1 before unrefused) in
    let count : c.in-Ok.count ≡ length (lines_after_refresh now made.actions) = search rules in
    let keyed : IsKeyed base sources (get nat_eq c.place_all.new.orders) c.in-Ok.count
    (lines_after base c.push.new.self.items) = record {
      each = λ q. subst (λ lines. Lies sources (get nat_eq c.place_all.new.orders q) (lines_of q lines)) (sym pushed)
          (each q);
      total = count ∙ ap length (sym pushed);
      few = search rules;
      index = c.self.invariant.keyed.index;
    } in
    record {
      keyed = keyed;
      legal = subst (IsLegal base) (sym longer)
          (accepted_stays_legal base log made c.self.invariant.legal accepted);
      last = subst (λ (z : List CommitRecord × List CommitRecord). AreLast z.0 z.1 (c.self.inside.count + 1))
          (λ i. (sym longer i, sym kept i)) (last_more log recent c.self.inside.count c.self.invariant.last made);
    }
