-- Each step on the rows is an event of the world that the table shows, or leaves that world.
use Rattle.std.proofs.Common.{◌≡◌, ℕ, ◌+◌, ◌-◌, ◌*◌, ◌/◌, ◌%◌, ◌^◌, ◌<◌, ◌≤◌, true, false, List, [], ◌∷◌, ◌++◌, length}
use Rattle.std.proofs.Common.{drop, set, Option, Some, None, refl, ap, sym, subst, ◌∙◌, arith, length-append}
use Rattle.std.proofs.Common.{get_or-set_same}
use Rattle.std.proofs.lemmas.List.{append-nil}
use Rattle.std.proofs.Math.Seq.{drop-append_seam}
use Rattle.std.specs.Prelude.{slice_index, bit_or}
use lib.Bits.{or_step, or_zero_r}
use lib.Seq.{set-get_or}
use mathlib.Core.Option.{none, some}
use mathlib.Core.Option as maybe
use lib.ListN.{get_elem?}
use Rattle.atomic_table.specs.Table.{State, Me, step, Act, keeps, takes, gives, stepped, Valid, carried_after, Allows}
use Rattle.atomic_table.proofs.Lists.{set_here, set_again}
use Rattle.ssb_base.specs.Base.{Tables}
use Rattle.row_store.specs.History.{CommitRecord}
use Rattle.history.specs.declared.view.Terms.{Terms}
use Rattle.history.specs.declared.view.Member.{Member}
use Rattle.history.specs.declared.view.Role.TheVariants.{Token}
use Rattle.history.specs.declared.view.View.{View}
use Rattle.history_core.specs.declared.event.Who.{Who}
use Rattle.history_core.specs.declared.event.Who.TheVariants.{Client}
use Rattle.history_core.specs.declared.event.EventReply.TheVariants.{Done, Committed, Length}
use Rattle.history_core.specs.Events.{TakeRows, PutRows, Look}
use Rattle.history_core.specs.World.{World}
use Rattle.history_core.specs.Kept.{WorldKept}
use Rattle.history_core.specs.Parts.{part_of}
use Rattle.history_core.proofs.PartLaws.{PartStepped}
use Rattle.history_core.proofs.PartLaws as core
use Rattle.history.specs.Words.{IsAccepted}
use Rattle.history.specs.Members.{takes_rows, marks, commits, sees, part}
use Rattle.history.specs.Rule.{Slot, Homes, rows, out, TokenKnows, Shows, ShowsWorld}
use Rattle.history.specs.Plays.{with_rows, looked, gave_log, put_by, gave_back, log_carried, TriesRows, PutsRows, Looks}
use Rattle.history.proofs.HistoryLaws.{prefix_self, prefix_one, accepted_short}
use Rattle.history.proofs.MemberLaws.{who_client}
use Rattle.history.proofs.FrameLaws.{all_grow, none_beside, token_knows, kept_after, rows_rule, learns}

-- setting the lowest bit
odd_after : (n : ℕ) → bit_or (2 * n) 1 ≡ 2 * n + 1
odd_after n = let half : 2 * n / 2 ≡ n = omega arith in let low : 2 * n % 2 ≡ 0 = omega arith in
    let rest : bit_or (2 * n / 2) (1 / 2) ≡ 2 * n / 2 = or_zero_r (2 * n / 2) in omega (arith, or_step (2 * n) 1, rest)

odd_again : (n : ℕ) → bit_or (2 * n + 1) 1 ≡ 2 * n + 1
odd_again n = let half : (2 * n + 1) / 2 ≡ n = omega arith in let low : (2 * n + 1) % 2 ≡ 1 = omega arith in
    let rest : bit_or ((2 * n + 1) / 2) (1 / 2) ≡ (2 * n + 1) / 2 = or_zero_r ((2 * n + 1) / 2) in
    omega (arith, or_step (2 * n + 1) 1, rest)

pub out-le-one : {A : Type 0} (o : Option A) → out o ≤ 1
out-le-one None = omega arith
out-le-one (Some p) = omega arith

-- the slot as it is
abbrev slot_at : {W : Type 0} → Homes W → maybe.Option (Slot W)
slot_at [] = none
slot_at (h ∷ hs) = h

slot_again : {W : Type 0} (hs : Homes W) → set hs 0 (slot_at hs) ≡ hs
slot_again [] = refl
slot_again (h ∷ hs) = refl

module _ {W : Type 0} (base_of : W → Tables) (taken : W → List CommitRecord) (key : Terms) where
  abbrev Rule : State (Slot W) View → Type 0
  Rule = ShowsWorld base_of taken key

  -- nothing changed: the word is written as it was, and the view
  pub unmoved : (s : State (Slot W) View) (id i : ℕ) (me : View) → get_elem? s.views id ≡ some me → Rule s
      → Rule record { words = set s.words i (slice_index s.words i); homes = s.homes; views = set s.views id me }
  unmoved s id i me at r = subst (λ (x : List ℕ × List View). Rule record { words = x.0; homes = s.homes; views = x.1 })
      (λ j. (sym (set-get_or s.words i 0) j, sym (set_again s.views id me at) j)) r

  pub tries_rows : (slots id : ℕ) (me : Me (Slot W) View) (place : ℕ) → me.0.role ≡ Token place
      → Allows Rule slots id me 0 (λ n. bit_or n 1) (TriesRows (step slots 0 1 0 none) me)
  tries_rows slots id me place is s r deep at fits = go w.rows refl
    where
      w : World
      w = r.1

      sh : Shows base_of taken key s r.0 w
      sh = r.3

      kept : WorldKept key.base key.clients w
      kept = kept_after base_of taken key r.0 w r.2

      k : TokenKnows key s.homes r.0 w sh.owner id me.0 place
      k = token_knows base_of taken key s r.0 w sh id place me.0 at is

      n : ℕ
      n = slice_index s.words 0

      history : List CommitRecord
      history = w.history

      who : Who
      who = me.0.member.who

      Goal : Type 0
      Goal = (v : View) × (a : Act (Slot W)) × Valid s.homes me.1 a × Rule (stepped s 0 (bit_or n 1) id me.1 v a)
          × TriesRows (step slots 0 1 0 none) me n (v, carried_after me.1 a)

      go : (o : Option Who) → w.rows ≡ o → Goal
      go None e = let even : n ≡ 2 * length history = sh.rows.word
          ∙ (let z : out w.rows ≡ 0 = ap out e in omega arith) in let wide = sh.word_count in
          let now : bit_or n 1 ≡ 2 * length history + 1 =
          ap (λ x. bit_or x 1) even ∙ odd_after (length history) in (
            with_rows me.0 history,
            takes 0 (rows me.0.terms.base history),
            sh.rows.home e ∙ ap (λ (t : Terms). some (some (rows t.base history))) (sym k.common.terms),
            rows_rule base_of taken key s r id place me.0 at is (TakeRows who) Done (Some who) history
                (takes_rows history me.0.member) (core.takes_rows w who (part me.0.member) k.told.part_is e) (bit_or n 1)
                none true [] (λ h. cc h) refl (prefix_self history) (λ o other h. absurd (cc (sym e ∙ h)))
                (λ o other h. absurd (other (sym (cc h)))) refl refl
                (get_or-set_same s.words 0 (bit_or n 1) 0 (omega arith) ∙ now) (λ h. absurd (cc h))
                (λ o h. let same : who ≡ o = cc h in (place, k.within, sym same ∙ k.who)) (none_beside history)
                (λ h. (refl, refl)) (λ h. absurd (cc h)),
            (
              (λ h. (history, refl, learns base_of taken key r.0 w s.homes sh.owner id place me.0 kept k)),
              λ h. absurd (omega arith),
            ),
          )
      go (Some p) e = let odd : n ≡ 2 * length history + 1 =
          sh.rows.word ∙ (let z : out w.rows ≡ 1 = ap out e in omega arith) in
          let same : bit_or n 1 ≡ n = ap (λ x. bit_or x 1) odd ∙ (odd_again (length history) ∙ sym odd) in (
            me.0,
            keeps,
            tt,
            subst (λ x. Rule record { words = set s.words 0 x; homes = s.homes; views = set s.views id me.0 })
                (sym same) (unmoved s id 0 me.0 at r),
            ((λ h. absurd (omega arith)), λ h. refl),
          )

  pub looks : (slots id : ℕ) (me : Me (Slot W) View) (place : ℕ) → me.0.role ≡ Token place
      → Allows Rule slots id me 0 (λ n. n) (Looks (step slots 0 0 0 none) me)
  looks slots id me place is s r deep at fits = let w : World = r.1 in let sh : Shows base_of taken key s r.0 w = r.3 in
      let k = token_knows base_of taken key s r.0 w sh id place me.0 at is in
      let kept = kept_after base_of taken key r.0 w r.2 in let who : Who = me.0.member.who in
      let me' : View = looked me.0 w.history in let few = out-le-one w.rows in let found = sh.rows.word in
      let n : ℕ = slice_index s.words 0 in (
        me',
        keeps,
        tt,
        subst (λ hs. Rule record { words = set s.words 0 n; homes = hs; views = set s.views id me' })
            (slot_again s.homes)
            (rows_rule base_of taken key s r id place me.0 at is (Look who) (Length (length w.history)) w.rows w.history
            (sees w.history me.0.member) (core.looks w who (part me.0.member) k.told.part_is) n (slot_at s.homes)
            me.0.holds_rows [] (λ h. cc h) refl (prefix_self w.history) (λ o other h. (h, refl)) (λ o other h. h) refl refl
            (ap (λ ws. slice_index ws 0) (set-get_or s.words 0 0) ∙ sh.rows.word)
            (λ h. ap (λ hs. get_elem? hs 0) (slot_again s.homes) ∙ sh.rows.home h) sh.rows.held (none_beside w.history)
            (λ h. ((k.rows h).0, refl)) k.free),
        (w.history, refl, learns base_of taken key r.0 w s.homes sh.owner id place me.0 kept k, omega arith),
      )

  pub puts_back : (slots id : ℕ) (me : Me (Slot W) View) (place : ℕ) (others : List (ℕ × Slot W))
      → me.0.role ≡ Token place → me.0.holds_rows ≡ true → me.1 ≡ (0, rows me.0.terms.base me.0.member.seen) ∷ others
      → Allows Rule slots id me 0 (λ n. (n + (2 ^ 64 - 1)) % 2 ^ 64) (PutsRows (step slots 0 1 0 none) me)
  puts_back slots id me place others is holds carried s r deep at fits = let w : World = r.1 in let sh :
      Shows base_of taken key s r.0 w = r.3 in let k = token_knows base_of taken key s r.0 w sh id place me.0 at is in
      let who : Who = me.0.member.who in let held : w.rows ≡ Some who = (k.rows holds).0 in
      let all : me.0.member.seen ≡ w.history = (k.rows holds).1 in
      let me' : View = gave_back me.0 (log_carried me.1) in
      let n : ℕ = slice_index s.words 0 in let odd : n ≡ 2 * length w.history + 1 =
      sh.rows.word ∙ (let z : out w.rows ≡ 1 = ap out held in omega arith) in
      let x : ℕ = (n + 18446744073709551615) % 18446744073709551616 in let now : x ≡ 2 * length w.history + 0 =
      omega arith in
      let wide = sh.word_count in let narrow = sh.slot_count in let slot : maybe.Option (Slot W) =
      some (rows me.0.terms.base me.0.member.seen) in
      let log : log_carried me.1 ≡ w.history = ap log_carried carried ∙ all in
      let none_new : drop (length me.0.member.seen) (log_carried me.1) ≡ [] =
      ap (drop (length me.0.member.seen)) (ap log_carried carried ∙ sym (append-nil me.0.member.seen))
      ∙ drop-append_seam me.0.member.seen [] in
      let line : put_by me.0.member (log_carried me.1) ≡ marks w.history me.0.member =
      ap (gave_log me.0.member (log_carried me.1)) none_new ∙ ap (λ l. marks l me.0.member) log in (
        me',
        gives,
        tt,
        subst (λ (c : List (ℕ × Slot W) × Member). Rule (stepped s 0 x id c.0
            record me.0 { member = c.1; holds_rows = false } gives)) (λ i. (sym carried i, sym line i))
            (rows_rule base_of taken key s r id place me.0 at is (PutRows who None) Done None w.history
            (marks w.history me.0.member) (core.puts_back w who (part me.0.member) k.told.part_is held) x slot false
            me.0.beside (λ h. cc h) refl (prefix_self w.history)
            (λ o other h. absurd (other (sym (cc (sym held ∙ h))))) (λ o other h. absurd (cc h)) refl refl
            (get_or-set_same s.words 0 x 0 (omega arith) ∙ now)
            (λ h. set_here s.homes 0 slot (omega arith) ∙ (λ i. some (some (rows (k.common.terms i).base (all i)))))
            (λ o h. absurd (cc h)) k.common.beside (λ h. absurd (cc h)) (λ h e. cc e)),
        refl,
      )

  pub puts_commit : (slots id : ℕ) (me : Me (Slot W) View) (place : ℕ) (commit : CommitRecord)
      (others : List (ℕ × Slot W)) → me.0.role ≡ Token place → me.0.holds_rows ≡ true
      → me.1 ≡ (0, rows me.0.terms.base (me.0.member.seen ++ commit ∷ [])) ∷ others
      → (place < me.0.terms.clients) × (commit.client ≡ place + 1) × IsAccepted me.0.terms.base me.0.member.seen commit
      → Allows Rule slots id me 0 (λ n. (n + 1) % 2 ^ 64) (PutsRows (step slots 0 1 0 none) me)
  puts_commit slots id me place commit others is holds carried may s r deep at fits = let w : World = r.1 in let sh :
      Shows base_of taken key s r.0 w = r.3 in let k = token_knows base_of taken key s r.0 w sh id place me.0 at is in
      let kept = kept_after base_of taken key r.0 w r.2 in
      let who : Who = me.0.member.who in let held : w.rows ≡ Some who = (k.rows holds).0 in
      let all : me.0.member.seen ≡ w.history = (k.rows holds).1 in
      let low : place < key.clients = subst (λ (t : Terms). place < t.clients) k.common.terms may.0 in
      let is_client : who ≡ Client commit.client =
      k.who ∙ (who_client key.clients place low ∙ ap (λ c. Client c) (sym may.1)) in
      let now : List CommitRecord = w.history ++ commit ∷ [] in let log : List CommitRecord =
      me.0.member.seen ++ commit ∷ [] in
      let me' : View = gave_back me.0 (log_carried me.1) in let room =
      accepted_short me.0.terms.base me.0.member.seen commit may.2 in let small =
      me.0.terms.base.limits.commits_range.1 in
      let long = length-append w.history (commit ∷ []) in let same_length : length me.0.member.seen ≡ length w.history =
      ap length all in
      let n : ℕ = slice_index s.words 0 in let odd : n ≡ 2 * length w.history + 1 =
      sh.rows.word ∙ (let z : out w.rows ≡ 1 = ap out held in omega arith) in
      let x : ℕ = (n + 1) % 18446744073709551616 in let even : x ≡ 2 * length now + 0 = omega arith in
      let wide = sh.word_count in let narrow = sh.slot_count in let slot : maybe.Option (Slot W) =
      some (rows me.0.terms.base log) in
      let log_is : log_carried me.1 ≡ log = ap log_carried carried in let log_now : log_carried me.1 ≡ now =
      log_is ∙ ap (λ l. l ++ commit ∷ []) all in
      let one_new : drop (length me.0.member.seen) (log_carried me.1) ≡ commit ∷ [] =
      ap (drop (length me.0.member.seen)) log_is ∙ drop-append_seam me.0.member.seen (commit ∷ []) in
      let line : put_by me.0.member (log_carried me.1) ≡ commits now commit me.0.member =
      ap (gave_log me.0.member (log_carried me.1)) one_new ∙ ap (λ l. commits l commit me.0.member) log_now in
      let accepted : IsAccepted w.base w.history commit =
      subst (λ (x : Tables × List CommitRecord). IsAccepted x.0 x.1 commit)
      (λ i. ((ap (λ (t : Terms). t.base) k.common.terms ∙ sym kept.based) i, all i)) may.2 in
      let did : PartStepped w (PutRows who (Some commit.actions)) (Committed (length w.history + 1)) who
      (part (commits now commit me.0.member)) None w.writer now =
      subst (λ a. PartStepped w (PutRows a (Some commit.actions)) (Committed (length w.history + 1)) a
      (part (commits now commit me.0.member)) None w.writer now) (sym is_client)
      (core.puts_commit w commit.client commit.actions (part me.0.member)
      (ap (part_of w) (sym is_client) ∙ k.told.part_is) (held ∙ ap (λ a. Some a) is_client) accepted) in (
        me',
        gives,
        tt,
        subst (λ (c : List (ℕ × Slot W) × Member). Rule (stepped s 0 x id c.0
            record me.0 { member = c.1; holds_rows = false } gives)) (λ i. (sym carried i, sym line i))
            (rows_rule base_of taken key s r id place me.0 at is (PutRows who (Some commit.actions))
            (Committed (length w.history + 1)) None now (commits now commit me.0.member) did x slot false me.0.beside
            (λ h. cc h) refl (prefix_one w.history commit) (λ o other h. absurd (other (sym (cc (sym held ∙ h)))))
            (λ o other h. absurd (cc h)) refl
            (ap (λ c. me.0.member.did ++ record {
              event = PutRows who (Some commit.actions);
              reply = Committed c;
            } ∷ []) long)
            (get_or-set_same s.words 0 x 0 (omega arith) ∙ even)
            (λ h. set_here s.homes 0 slot (omega arith)
            ∙ (λ i. some (some (rows (k.common.terms i).base (all i ++ commit ∷ [])))))
            (λ o h. absurd (cc h)) (all_grow w.history now me.0.beside (prefix_one w.history commit) k.common.beside)
            (λ h. absurd (cc h)) (λ h e. cc e)),
        refl,
      )
