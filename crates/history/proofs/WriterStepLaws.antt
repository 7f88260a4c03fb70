-- Each step on the writer is an event of the world that the table shows, or leaves that world.
use Rattle.std.proofs.Common.{◌≡◌, ℕ, ◌≤◌, ◌==◌, eqb, eq-eqb, ne_eqb, true, false, List, ◌∷◌, set, Option, Some, None}
use Rattle.std.proofs.Common.{refl, ap, sym, subst, ◌∙◌, arith, get_or-set_same}
use Rattle.std.specs.Prelude.{slice_index}
use prog.Atomic.{either}
use mathlib.Core.Option.{none, some}
use mathlib.Core.Option as maybe
use mathlib.Core.Logic.{dite}
use native.Mathlib.Decide.{ℕ_discrete}
use Rattle.atomic_table.specs.Table.{State, Me, step, Act, keeps, takes, gives, stepped, Valid, carried_after, Allows}
use Rattle.atomic_table.proofs.Lists.{set_here}
use Rattle.ssb_base.specs.Base.{Tables}
use Rattle.row_store.specs.History.{CommitRecord, IsPrefix}
use Rattle.history.specs.declared.view.Terms.{Terms}
use Rattle.history.specs.declared.view.Role.TheVariants.{Token}
use Rattle.history.specs.declared.view.View.{View}
use Rattle.history.specs.declared.view.SlotValue.TheVariants.{Writer}
use Rattle.history_core.specs.declared.event.Who.{Who}
use Rattle.history_core.specs.declared.event.Who.TheVariants.{Dispatcher}
use Rattle.history_core.specs.declared.event.EventReply.TheVariants.{Done}
use Rattle.history_core.specs.Events.{TakeWriter, PutWriter}
use Rattle.history_core.specs.World.{World}
use Rattle.history_core.specs.Parts.{part_of}
use Rattle.history_core.proofs.PartLaws.{PartStepped}
use Rattle.history_core.proofs.PartLaws as core
use Rattle.history.specs.Members.{number_of, takes_writer, puts_writer, part}
use Rattle.history.specs.Rule.{Slot, out, IsOurs, TokenKnows, Shows, ShowsWorld}
use Rattle.history.specs.Plays.{with_writer, without_writer, TriesWriter, PutsWriter}
use Rattle.history.proofs.HistoryLaws.{prefix_trans}
use Rattle.history.proofs.MemberLaws.{dispatcher_here, part_kept}
use Rattle.history.proofs.FrameLaws.{more_beside, token_knows, kept_after, writer_rule}
use Rattle.history.proofs.RowStepLaws.{unmoved}

home_now : (o : Option ℕ) → out o ≡ 0 → o ≡ None
home_now None e = refl
home_now (Some n) e = absurd (omega arith)

module _ {W : Type 0} (base_of : W → Tables) (taken : W → List CommitRecord) (key : Terms) where
  abbrev Rule : State (Slot W) View → Type 0
  Rule = ShowsWorld base_of taken key

  pub tries_writer : (slots id : ℕ) (me : Me (Slot W) View) (place : ℕ) → me.0.role ≡ Token place
      → me.0.terms.clients ≤ place → Allows Rule slots id me 1 (λ n. either (n == 0) 1 n)
      (TriesWriter base_of taken (step slots 1 0 1 none) me)
  tries_writer slots id me place is behind s r deep at fits = dite (ℕ_discrete n 0) hits
      (λ miss. (
        me.0,
        keeps,
        tt,
        subst (λ x. Rule record {
          words = set s.words 1 x;
          homes = s.homes;
          views = set s.views id me.0;
        }) (sym (ap (λ b. either b 1 n) (ne_eqb n 0 miss)))
            (unmoved base_of taken key s id 1 me.0 at r),
        ((λ h. absurd (miss h)), λ h. refl),
      ))
    where
      w : World
      w = r.1

      sh : Shows base_of taken key s r.0 w
      sh = r.3

      k : TokenKnows key s.homes r.0 w sh.owner id me.0 place
      k = token_knows base_of taken key s r.0 w sh id place me.0 at is

      n : ℕ
      n = slice_index s.words 1

      Goal : Type 0
      Goal = (v : View) × (a : Act (Slot W)) × Valid s.homes me.1 a
          × Rule (stepped s 1 (either (eqb n 0) 1 n) id me.1 v a)
          × TriesWriter base_of taken (step slots 1 0 1 none) me n (v, carried_after me.1 a)

      hits : n ≡ 0 → Goal
      hits hit = let free : w.writer ≡ None = home_now w.writer (sym sh.writer.word ∙ hit) in let home =
          sh.writer.home free in let writer : W = home.0 in let list : List CommitRecord = taken writer in
          let far : key.clients ≤ place = subst (λ (t : Terms). t.clients ≤ place) k.common.terms behind in
          let who : Who = me.0.member.who in let number : ℕ = number_of who in
          let named : who ≡ Dispatcher number = dispatcher_here key.clients place who far k.who in
          let me' : View = with_writer me.0 list in let wide = sh.word_count in
          let did : PartStepped w (TakeWriter number) Done who (part (takes_writer me.0.member)) w.rows (Some number)
          w.history = subst (λ a. PartStepped w (TakeWriter number) Done a (part (takes_writer me.0.member)) w.rows
          (Some number) w.history) (sym named) (core.takes_writer w number (part me.0.member)
          (ap (part_of w) (sym named) ∙ k.told.part_is) free) in (
            me',
            takes 1 (Some (Writer writer)),
            home.1,
            subst (λ b. Rule (stepped s 1 (either b 1 n) id me.1 me' (takes 1 (Some (Writer writer)))))
                (sym (eq-eqb n 0 hit))
                (writer_rule base_of taken key s r id place me.0 at is (TakeWriter number) Done (Some number)
                (takes_writer me.0.member) did 1 none true (list ∷ me.0.beside) (λ h. cc h) (sym named)
                (λ i other h. absurd (cc (sym free ∙ h)))
                (λ i other h. let same : number ≡ i = cc h in
                absurd (other (ap (λ j. Dispatcher j) (sym same) ∙ sym named))) refl refl refl
                (get_or-set_same s.words 1 1 0 (omega arith)) (λ h. absurd (cc h))
                (λ i h. let same : number ≡ i = cc h in (
                  place,
                  k.within,
                  ap (λ j. Dispatcher j) (sym same) ∙ (sym named ∙ k.who),
                ))
                (more_beside list me.0.beside w.history home.2.1 k.common.beside)
                (λ h i is_i. ap (λ a. Some (number_of a)) is_i) (λ h. absurd (cc h))),
            ((λ h. (writer, home.2.0 ∙ ap (λ (t : Terms). t.base) (sym k.common.terms), refl)), λ h. absurd (h hit)),
          )

  pub puts_writer_back : (slots id : ℕ) (me : Me (Slot W) View) (place : ℕ) (writer : W) (others : List (ℕ × Slot W))
      → me.0.role ≡ Token place → me.0.terms.clients ≤ place → me.0.holds_writer ≡ true
      → me.1 ≡ (1, Some (Writer writer)) ∷ others
      → (base_of writer ≡ me.0.terms.base) × IsPrefix (taken writer) me.0.member.seen
      → Allows Rule slots id me 1 (λ _. 0) (λ _. PutsWriter base_of taken (step slots 1 0 0 none) me 0)
  puts_writer_back slots id me place writer others is behind holds carried fit s r deep at fits = let w : World = r.1 in
      let sh : Shows base_of taken key s r.0 w = r.3 in
      let k = token_knows base_of taken key s r.0 w sh id place me.0 at is in
      let kept = kept_after base_of taken key r.0 w r.2 in
      let own = part_kept key.base key.clients w kept me.0.member.who (part me.0.member) k.told.part_is in
      let far : key.clients ≤ place = subst (λ (t : Terms). t.clients ≤ place) k.common.terms behind in
      let who : Who = me.0.member.who in let number : ℕ = number_of who in
      let named : who ≡ Dispatcher number = dispatcher_here key.clients place who far k.who in
      let held : w.writer ≡ Some number = k.writer holds number named in
      let me' : View = without_writer me.0 in let wide = sh.word_count in let narrow = sh.slot_count in
      let slot : maybe.Option (Slot W) = some (Some (Writer writer)) in
      let ours : IsOurs base_of taken key w.history writer = (
        fit.0 ∙ ap (λ (t : Terms). t.base) k.common.terms,
        prefix_trans (taken writer) me.0.member.seen w.history fit.1 own.begins,
      ) in
      let did : PartStepped w (PutWriter number) Done who (part (puts_writer me.0.member)) w.rows None w.history =
      subst (λ a. PartStepped w (PutWriter number) Done a (part (puts_writer me.0.member)) w.rows None w.history)
      (sym named) (core.puts_writer w number (part me.0.member) (ap (part_of w) (sym named) ∙ k.told.part_is) held) in (
        me',
        gives,
        tt,
        subst (λ cs. Rule (stepped s 1 0 id cs me' gives)) (sym carried)
            (writer_rule base_of taken key s r id place me.0 at is (PutWriter number) Done None
            (puts_writer me.0.member) did 0 slot false me.0.beside (λ h. cc h) (sym named)
            (λ i other h. let same : number ≡ i = cc (sym held ∙ h) in
            absurd (other (ap (λ j. Dispatcher j) (sym same) ∙ sym named))) (λ i other h. absurd (cc h)) refl refl refl
            (get_or-set_same s.words 1 0 0 (omega arith))
            (λ h. (writer, set_here s.homes 1 slot (omega arith), ours)) (λ i h. absurd (cc h)) k.common.beside
            (λ h. absurd (cc h)) (λ h i is_i e. cc e)),
        refl,
      )
