-- Each step on a mailbox is an event of the world that the table shows, or leaves that world.
use Rattle.std.proofs.Common.{◌≡◌, ◌≢◌, ◌⊎◌, ℕ, zero, suc, eqb, eq-eqb, ne_eqb, take, ◌+◌, ◌<◌, ◌≤◌, ◌==◌, true, false}
use Rattle.std.proofs.Common.{List, [], ◌∷◌, ◌++◌, length, set, Option, Some, None, refl, ap, sym, subst, ◌∙◌, inl, inr}
use Rattle.std.proofs.Common.{⊎_elim, arith, length-set, get_or-set_same, get_or-set_other}
use Rattle.std.proofs.lemmas.List.{take-append-le}
use Rattle.std.specs.Prelude.{slice_index, All}
use lib.Seq.{set-get_or}
use prog.Atomic.{either}
use mathlib.Core.Option.{none, some, some-injective}
use mathlib.Core.Option as maybe
use mathlib.Core.Logic.{dite}
use native.Mathlib.Decide.{ℕ_discrete}
use lib.ListN.{get_elem?}
use Rattle.atomic_table.specs.Table.{State, Me, rest, step, Act, keeps, takes, gives, stepped, Valid, carried_after}
use Rattle.atomic_table.specs.Table.{Allows}
use Rattle.atomic_table.proofs.Lists.{set_here, set_else}
use Rattle.ssb_base.specs.Base.{Tables}
use Rattle.history_core.specs.declared.response.Response.{Response}
use Rattle.history_core.specs.declared.response.Response.TheVariants.{Rows, Unserved}
use Rattle.row_store.specs.History.{CommitRecord, IsPrefix}
use Rattle.history_core.specs.declared.event.Who.{Who}
use Rattle.history_core.specs.declared.event.Who.TheVariants.{Client, Dispatcher}
use Rattle.history_core.specs.declared.event.EventReply.{EventReply}
use Rattle.history_core.specs.declared.event.EventReply.TheVariants.{NotEnabled, Done, Asked as Told}
use Rattle.history_core.specs.Events.{Questions, Event, Post, Grab, Answer as Answering, GiveUp, Collect}
use Rattle.history_core.specs.declared.mailbox.Mailbox.{Mailbox}
use Rattle.history_core.specs.declared.mailbox.Mailbox.TheVariants.{Empty as empty, Asked as asked, InHand as in_hand}
use Rattle.history_core.specs.declared.mailbox.Mailbox.TheVariants.{Answered as answered, Unserved as unserved}
use Rattle.history_core.specs.World.{World, all_rows_after, mailbox_of}
use Rattle.history_core.specs.Deeds.{Deed, actor_of}
use Rattle.history_core.specs.Kept.{WorldKept}
use Rattle.history_core.specs.Parts.{part_of, mailbox_at}
use Rattle.history_core.proofs.HistoryLaws.{some_injective}
use Rattle.history_core.specs.Numbered.{numbered}
use Rattle.history_core.proofs.KeepingLaws.{mail_kept}
use Rattle.history_core.proofs.DoneLaws.{did_same, done_next}
use Rattle.history_core.proofs.PartLaws.{numbered_there, BoxStepped}
use Rattle.history_core.proofs.PartLaws as core
use Rattle.history.specs.declared.view.Terms.{Terms}
use Rattle.history.specs.declared.view.Member.{Member}
use Rattle.history.specs.declared.request.PostedRequest.{PostedRequest}
use Rattle.history.specs.declared.view.Held.{Held}
use Rattle.history.specs.declared.view.Role.{Role}
use Rattle.history.specs.declared.view.Role.TheVariants.{Token}
use Rattle.history.specs.declared.view.View.{View}
use Rattle.history.specs.declared.view.SlotValue.TheVariants.{Asked, Answered}
use Rattle.history.specs.Words.{request, given_to, IsFresh, IsRight, IsRightAt}
use Rattle.history.specs.Members.{number_of, told_by, part}
use Rattle.history.specs.Members as member
use Rattle.history.specs.Rule.{Slot, Homes, stage, LiesIn, MailShown, Asks, TokenKnows, KnowsAs, Shows, ShowsWorld}
use Rattle.history.specs.Rule.{IsElsewhere, AreApart, first_world}
use Rattle.history.specs.Plays.{opened, OpensBox, posted, Posts, held, request_at, without_at, grabbed, Grabs}
use Rattle.history.specs.Plays.{served_as, Answers, collected, Collects}
use Rattle.history.proofs.HistoryLaws.{prefix_self, all_of, each_of}
use Rattle.history.proofs.HandLaws.{request_there, was_there, others_elsewhere, apart_without}
use Rattle.history.proofs.MemberLaws.{client_here, dispatcher_here, part_kept, floor_kept}
use Rattle.history.proofs.FrameLaws.{mail_stays, only_empty, Grows, handed_grows, told_more, more_beside, rows_beside}
use Rattle.history.proofs.FrameLaws.{writer_beside, writer_stays, token_step, token_knows, kept_after}
use Rattle.history.proofs.RowStepLaws.{unmoved}

only_asked : (box : Mailbox) → stage box ≡ 1 → (questions : Questions) × (floor : ℕ) × (box ≡ asked questions floor)
only_asked empty e = absurd (omega arith)
only_asked (asked q f) e = (q, f, refl)
only_asked (in_hand d q f) e = absurd (omega arith)
only_asked (answered q n x) e = absurd (omega arith)
only_asked (unserved q c) e = absurd (omega arith)

-- the mailbox with an answer
abbrev boxed : Response → Mailbox
boxed (Rows questions number found) = answered questions number found
boxed (Unserved questions cause) = unserved questions cause

only_answered : (box : Mailbox) → stage box ≡ 3 → (reply : Response) × (box ≡ boxed reply)
only_answered empty e = absurd (omega arith)
only_answered (asked q f) e = absurd (omega arith)
only_answered (in_hand d q f) e = absurd (omega arith)
only_answered (answered q n x) e = (Rows q n x, refl)
only_answered (unserved q c) e = (Unserved q c, refl)

not_empty : (reply : Response) (d : ℕ) (q : Questions) (f : ℕ) → boxed reply ≢ in_hand d q f
not_empty (Rows q' n x) d q f e = cc e
not_empty (Unserved q' c) d q f e = cc e

place_of : Role → ℕ
place_of (Token p) = p
place_of r = 0

same_place : (place p : ℕ) (r : Role) → r ≡ Token place → r ≡ Token p → place ≡ p
unfolding place_of
same_place place p r is e = ap place_of (sym is ∙ e)

module _ {W : Type 0} where
  pub slot_in : List (ℕ × Slot W) → Slot W
  slot_in [] = None
  slot_in (x ∷ xs) = x.1

  lies_answer : (homes : Homes W) (client : ℕ) (reply : Response) → LiesIn homes client (boxed reply)
      → get_elem? homes (2 + client) ≡ some (some (Some (Answered reply)))
  lies_answer homes client (Rows questions number found) lies = lies
  lies_answer homes client (Unserved questions cause) lies = lies.0

  -- a mailbox that the stepping member may change: its own, or one that is not empty and keeps its request; and no
  -- other has it in hand
  box_grows : (deeds : List Deed) (w : World) (event : Event) (reply : EventReply) (me : Who) (m' : Member) (client : ℕ)
      (old box : Mailbox) (did : BoxStepped w event reply me (part m') (client + 1) box) (homes : Homes W)
      (y : maybe.Option (Slot W)) (place : ℕ) → actor_of event ≡ me → mailbox_at w (client + 1) ≡ Some old
      → (client ≡ place) ⊎ (((o : Option PostedRequest) → Asks o old → Asks o box) × (old ≢ empty))
      → ((d : ℕ) (q : Questions) (f : ℕ) → Dispatcher d ≢ me → old ≢ in_hand d q f)
      → Grows place me deeds (deeds ++ record { event = event; reply = reply } ∷ []) w did.step.after homes
      (set homes (2 + client) y)
  box_grows deeds w event reply me m' client old box did homes y place acts at own apart = record {
    did = λ who other. did_same who deeds (record { event = event; reply = reply }) (λ e. other (sym e ∙ acts));
    parts = did.step.others;
    history = subst (IsPrefix w.history) (sym did.step.history) (prefix_self w.history);
    rows = λ who other e. (did.step.rows ∙ e, did.step.history);
    free = λ who other e. sym did.step.rows ∙ e;
    writer = λ n other e. did.step.writer ∙ e;
    idle = λ n other e. sym did.step.writer ∙ e;
    requests = λ p b other there. dite (ℕ_discrete p client)
        (λ e. (
          old,
          (let one : p + 1 ≡ client + 1 = omega arith in ap (mailbox_at w) one ∙ at),
          ⊎_elim (λ (f : client ≡ place). absurd (other (e ∙ f)))
              (λ (h : ((o : Option PostedRequest) → Asks o old → Asks o box) × (old ≢ empty)).
              let one : client + 1 ≡ p + 1 = omega arith in
              subst (λ c. (o : Option PostedRequest) → Asks o old → Asks o c)
              (some_injective box b (sym did.box_is ∙ (ap (mailbox_at did.step.after) one ∙ there))) h.0) own,
        ))
        (λ n. (b, sym (did.mail (p + 1) (λ e. n (omega arith))) ∙ there, λ o asks. asks));
    hands = λ d n q f other h. dite (ℕ_discrete n (client + 1))
        (λ e. absurd (apart d q f other (some_injective old (in_hand d q f)
        (sym at ∙ (ap (mailbox_at w) (sym e) ∙ h)))))
        (λ far. did.mail n far ∙ h);
    vacant = λ p other v. dite (ℕ_discrete p client)
        (λ e. absurd (⊎_elim (λ (f : client ≡ place). other (e ∙ f))
        (λ (h : ((o : Option PostedRequest) → Asks o old → Asks o box) × (old ≢ empty)).
        let one : client + 1 ≡ p + 1 = omega arith in
        h.1 (some_injective old empty (sym at ∙ (ap (mailbox_at w) one ∙ v.0)))) own))
        (λ n. (
          did.mail (p + 1) (λ e. n (omega arith)) ∙ v.0,
          set_else homes (2 + client) (2 + p) y (λ e. n (omega arith)) ∙ v.1,
        ));
  }

module _ {W : Type 0} (base_of : W → Tables) (taken : W → List CommitRecord) (key : Terms) where
  abbrev Rule : State (Slot W) View → Type 0
  Rule = ShowsWorld base_of taken key

  -- the mailbox of a client
  box_of : (deeds : List Deed) (w : World) → WorldKept key.base key.clients w → (client : ℕ) → client < key.clients
      → (box : Mailbox) × (mailbox_at w (client + 1) ≡ Some box)
  box_of deeds w kept client h = let count = kept.own.count in
      let c = numbered_there w.clients (client + 1) (omega arith) (omega arith) in
      (c.0.mailbox, ap mailbox_of c.1)

  -- the rule after an event that changes a client's mailbox, where the stepping member changed to this one
  box_rule : (s : State (Slot W) View) (r : Rule s) (id place : ℕ) (v : View) → get_elem? s.views id ≡ some v
      → v.role ≡ Token place → (event : Event) (reply : EventReply) (m' : Member) (client : ℕ) (old box : Mailbox)
      (did : BoxStepped r.1 event reply v.member.who (part m') (client + 1) box) (x : ℕ) (y : maybe.Option (Slot W))
      (posted' : Option PostedRequest) (grabbed' : List Held) (beside' : List (List CommitRecord))
      → reply ≢ NotEnabled → actor_of event ≡ v.member.who → client < key.clients
      → mailbox_at r.1 (client + 1) ≡ Some old
      → (client ≡ place) ⊎ (((o : Option PostedRequest) → Asks o old → Asks o box) × (old ≢ empty))
      → ((d : ℕ) (q : Questions) (f : ℕ) → Dispatcher d ≢ v.member.who → old ≢ in_hand d q f)
      → m'.who ≡ v.member.who → m'.seen ≡ v.member.seen
      → m'.did ≡ v.member.did ++ record { event = event; reply = reply } ∷ []
      → x ≡ stage box → LiesIn (set s.homes (2 + client) y) client box
      → All (λ list. IsPrefix list r.1.history) beside'
      → ((b : Mailbox) → mailbox_at did.step.after (place + 1) ≡ Some b → Asks posted' b)
      → ((i : ℕ) (h : Held) → get_elem? grabbed' i ≡ some h → (n : ℕ) → v.member.who ≡ Dispatcher n
      → mailbox_at did.step.after (h.place + 1) ≡ Some (in_hand n h.request.questions h.request.floor))
      → AreApart grabbed' → (v.has_box ≡ false → place < key.clients → ⊥)
      → Rule record {
        words = set s.words (2 + client) x;
        homes = set s.homes (2 + client) y;
        views = set s.views id record v { member = m'; asked = posted'; grabbed = grabbed'; beside = beside' };
      }
  box_rule s r id place v at is event reply m' client old box did x y posted' grabbed' beside' enabled acts near was own
      apart same saw said says lies begins asks hand apart' opened' = let w : World = r.1 in let w' : World =
      did.step.after in let sh : Shows base_of taken key s r.0 w = r.3 in
      let deeds' : List Deed = r.0 ++ record { event = event; reply = reply } ∷ [] in
      let k = token_knows base_of taken key s r.0 w sh id place v at is in let wide = sh.word_count in
      let homes' : Homes W = set s.homes (2 + client) y in let words' : List ℕ = set s.words (2 + client) x in
      let me' : View = record v { member = m'; asked = posted'; grabbed = grabbed'; beside = beside' } in
      let g : Grows place v.member.who r.0 deeds' w w' s.homes homes' =
      box_grows r.0 w event reply v.member.who m' client old box did s.homes y place acts was own apart in
      let known : TokenKnows key homes' deeds' w' sh.owner id me' place = record {
        common = record {
          terms = k.common.terms;
          beside = subst (λ h. All (λ list. IsPrefix list h) beside') (sym did.step.history) begins;
        };
        plays = k.plays;
        within = k.within;
        who = same ∙ k.who;
        told = told_more r.0 w w' v.member m' event reply k.told same acts did.step.here said;
        rows = λ h. let t = k.rows h in (
          did.step.rows ∙ (t.0 ∙ ap (λ a. Some a) (sym same)),
          saw ∙ (t.1 ∙ sym did.step.history),
        );
        free = λ h e. k.free h (sym did.step.rows ∙ (e ∙ ap (λ a. Some a) same));
        writer = λ h n named. did.step.writer ∙ k.writer h n (sym same ∙ named);
        idle = λ h n named e. k.idle h n (sym same ∙ named) (sym did.step.writer ∙ e);
        asked = asks;
        grabbed = λ i h there n named. hand i h there n (sym same ∙ named);
        apart = apart';
        vacant = λ h within. absurd (opened' h within);
        gathered = λ i m there. let h = k.gathered i m there in
            handed_grows key r.0 deeds' w w' s.homes homes' sh.owner place id place v.member.who m k.who g h h.apart;
      } in (
        deeds',
        w',
        done_next (first_world key) r.0 w event reply w' r.2 did.step.is enabled,
        token_step base_of taken key s r.0 deeds' w w' sh id place v.member.who words' homes' me' k.who k.plays g
            (length-set s.words (2 + client) x) (length-set s.homes (2 + client) y)
            (rows_beside key s.words s.homes w w' (2 + client) x (2 + client) y (omega arith) (omega arith)
            did.step.history did.step.rows sh.rows)
            (writer_beside base_of taken key s.words s.homes w w' (2 + client) x (2 + client) y (λ e. omega arith)
            (λ e. omega arith) did.step.writer g.history sh.writer)
            (λ c b there. dite (ℕ_discrete c client)
            (λ e. let one : client + 1 ≡ c + 1 = omega arith in
            subst (λ (z : ℕ × Mailbox). MailShown words' homes' z.0 z.1)
            (λ i. (
              sym e i,
              some_injective box b (sym did.box_is ∙ (ap (mailbox_at w') one ∙ there)) i,
            ))
            record { word = get_or-set_same s.words (2 + client) x 0 (omega arith) ∙ says; slot = lies })
            (λ n. mail_stays s.words words' s.homes homes' c b
            (get_or-set_other s.words (2 + client) (2 + c) x 0 (λ e. n (omega arith)))
            (set_else s.homes (2 + client) (2 + c) y (λ e. n (omega arith)))
            (sh.mail c b (sym (did.mail (c + 1) (λ e. n (omega arith))) ∙ there))))
            (subst (KnowsAs key homes' deeds' w' sh.owner id me') (sym is) known),
      )

  pub posts : (slots id : ℕ) (me : Me (Slot W) View) (place : ℕ) (request : PostedRequest) (others : List (ℕ × Slot W))
      → me.0.role ≡ Token place → (place < me.0.terms.clients) × (me.0.has_box ≡ true) × (me.0.asked ≡ None)
      → me.1 ≡ (2 + place, Some (Asked request)) ∷ others
      → request.floor ≡ length me.0.member.seen → Allows Rule slots id me (2 + place) (λ _. 1)
      (λ _. Posts (step slots (2 + place) 1 0 none) me 1)
  unfolding slot_in
  posts slots id me place request others is can carried floor s r deep at fits = let w : World = r.1 in let sh :
      Shows base_of taken key s r.0 w = r.3 in let k = token_knows base_of taken key s r.0 w sh id place me.0 at is in
      let kept = kept_after base_of taken key r.0 w r.2 in let narrow = sh.slot_count in
      let within : place < key.clients = subst (λ (t : Terms). place < t.clients) k.common.terms can.0 in
      let here = box_of r.0 w kept place within in
      let vacant : here.0 ≡ empty = only_empty here.0 (subst (λ o. Asks o here.0) can.2 (k.asked here.0 here.1)) in
      let is_empty : mailbox_at w (place + 1) ≡ Some empty = here.1 ∙ ap (λ b. Some b) vacant in
      let who : Who = me.0.member.who in
      let named : who ≡ Client (place + 1) = client_here key.clients place who within k.who in
      let number : number_of who ≡ place + 1 = ap number_of named in
      let box : Mailbox = asked request.questions request.floor in
      let slot : maybe.Option (Slot W) = some (Some (Asked request)) in let me' : View = posted me.0 request in
      let did : BoxStepped w (Post (place + 1) request.questions) Done who (part (member.posts request me.0.member))
      (place + 1) box =
      subst (λ (z : Who × ℕ). BoxStepped w (Post (place + 1) request.questions) Done z.0
      (part (member.posts request me.0.member)) (place + 1) (asked request.questions z.1)) (λ i. (sym named i, sym floor i))
      (core.posts w (place + 1) request.questions (part me.0.member) (ap (part_of w) (sym named) ∙ k.told.part_is) is_empty)
      in (
        me',
        gives,
        tt,
        subst (λ cs. Rule (stepped s (2 + place) 1 id cs me' gives)) (sym carried)
            (box_rule s r id place me.0 at is (Post (place + 1) request.questions) Done (member.posts request me.0.member)
            place empty box did 1 slot (Some request) me.0.grabbed me.0.beside (λ h. cc h) (sym named) within is_empty
            (inl refl) (λ d q f other. λ e. cc e) refl refl
            (ap (λ n. me.0.member.did ++ record { event = Post n request.questions; reply = Done } ∷ []) number) refl
            (set_here s.homes (2 + place) slot (omega arith)) k.common.beside
            (λ b there. subst (Asks (Some request)) (some_injective box b (sym did.box_is ∙ there)) refl)
            (λ i h there n is_n. absurd (cc (sym named ∙ is_n))) k.apart (λ h inside. cc (sym can.1 ∙ h))),
        λ p q e. let same : Some (Asked request) ≡ Some (Asked q) = ap slot_in (sym carried ∙ e) in let one :
            request ≡ q = cc same in (λ i. (posted me.0 (one i), rest me.1)),
      )

  pub grabs_one : (slots id : ℕ) (me : Me (Slot W) View) (place client : ℕ) → me.0.role ≡ Token place
      → (client < me.0.terms.clients) × (me.0.terms.clients ≤ place)
      → Allows Rule slots id me (2 + client) (λ n. either (n == 1) 2 n) (Grabs (step slots (2 + client) 1 2 none) me)
  grabs_one slots id me place client is can s r deep at fits = dite (ℕ_discrete n 1) hits
      (λ miss. (
        me.0,
        keeps,
        tt,
        subst (λ x. Rule record {
          words = set s.words (2 + client) x;
          homes = s.homes;
          views = set s.views id me.0;
        }) (sym (ap (λ b. either b 2 n) (ne_eqb n 1 miss)))
            (unmoved base_of taken key s id (2 + client) me.0 at r),
        ((λ h. absurd (miss h)), λ h. refl),
      ))
    where
      w : World
      w = r.1

      sh : Shows base_of taken key s r.0 w
      sh = r.3

      n : ℕ
      n = slice_index s.words (2 + client)

      k : TokenKnows key s.homes r.0 w sh.owner id me.0 place
      k = token_knows base_of taken key s r.0 w sh id place me.0 at is

      within : client < key.clients
      within = subst (λ (t : Terms). client < t.clients) k.common.terms can.0

      outside : key.clients ≤ place
      outside = subst (λ (t : Terms). t.clients ≤ place) k.common.terms can.1

      who : Who
      who = me.0.member.who

      number : ℕ
      number = number_of who

      named : who ≡ Dispatcher number
      named = dispatcher_here key.clients place who outside k.who

      Goal : Type 0
      Goal = (v : View) × (a : Act (Slot W)) × Valid s.homes me.1 a
          × Rule (stepped s (2 + client) (either (eqb n 1) 2 n) id me.1 v a)
          × Grabs (step slots (2 + client) 1 2 none) me n (v, carried_after me.1 a)

      hits : n ≡ 1 → Goal
      hits hit = let near = within in let far = outside in
          let here = box_of r.0 w (kept_after base_of taken key r.0 w r.2) client within in let shown =
          sh.mail client here.0 here.1 in let a = only_asked here.0 (sym shown.word ∙ hit) in
          let questions : Questions = a.0 in let floor : ℕ = a.1 in let asking : PostedRequest = request questions floor in
          let is_asked : mailbox_at w (client + 1) ≡ Some (asked questions floor) = here.1 ∙ ap (λ b. Some b) a.2 in
          let lies : LiesIn s.homes client (asked questions floor) = subst (LiesIn s.homes client) a.2 shown.slot in
          let me' : View = grabbed me.0 client asking in
          let did : BoxStepped w (Grab number (client + 1)) (Told questions) who
          (part (member.grabs client asking me.0.member)) (client + 1) (in_hand number questions floor) =
          subst (λ z. BoxStepped w (Grab number (client + 1)) (Told questions) z
          (part (member.grabs client asking me.0.member)) (client + 1) (in_hand number questions floor)) (sym named)
          (core.grabs w number (client + 1) questions floor (part me.0.member)
          (ap (part_of w) (sym named) ∙ k.told.part_is) is_asked) in (
            me',
            takes (2 + client) (Some (Asked asking)),
            lies,
            subst (λ b. Rule (stepped s (2 + client) (either b 2 n) id me.1 me'
                (takes (2 + client) (Some (Asked asking))))) (sym (eq-eqb n 1 hit))
                (box_rule s r id place me.0 at is (Grab number (client + 1)) (Told questions)
                (member.grabs client asking me.0.member) client (asked questions floor)
                (in_hand number questions floor) did 2 none me.0.asked (held client asking ∷ me.0.grabbed) me.0.beside
                (λ h. cc h) (sym named) near is_asked (inr ((λ o asks. asks), λ e. cc e)) (λ d q f other. λ e. cc e) refl
                refl refl refl tt k.common.beside
                (λ b there. k.asked b (sym (did.mail (place + 1) (λ e. omega arith)) ∙ there))
                (in_hands questions floor is_asked did) (all_elsewhere questions floor is_asked, k.apart)
                (λ h inside. omega arith)),
            (
              (λ h c e. let same : client ≡ c = omega arith in (
                asking,
                (λ i. (grabbed me.0 (same i) asking, (2 + same i, Some (Asked asking)) ∷ me.1)),
                subst (λ p. IsElsewhere p me.0.grabbed) same (all_elsewhere questions floor is_asked),
              )),
              λ h. absurd (h hit),
            ),
          )
        where
          elsewhere : (questions : Questions) (floor : ℕ) → mailbox_at w (client + 1) ≡ Some (asked questions floor)
              → (i : ℕ) (g : Held) → get_elem? me.0.grabbed i ≡ some g → g.place ≢ client
          elsewhere questions floor is_asked i g h e = let one : client + 1 ≡ g.place + 1 = omega arith in
              cc (some_injective (asked questions floor) (in_hand number g.request.questions g.request.floor)
              (sym is_asked ∙ (ap (mailbox_at w) one ∙ k.grabbed i g h number named)))

          all_elsewhere : (questions : Questions) (floor : ℕ) → mailbox_at w (client + 1) ≡ Some (asked questions floor)
              → IsElsewhere client me.0.grabbed
          all_elsewhere questions floor is_asked = all_of (λ (h : Held). h.place ≢ client) me.0.grabbed
              (elsewhere questions floor is_asked)

          in_hands : (questions : Questions) (floor : ℕ) → mailbox_at w (client + 1) ≡ Some (asked questions floor)
              → (did : BoxStepped w (Grab number (client + 1)) (Told questions) who
              (part (member.grabs client (request questions floor) me.0.member)) (client + 1)
              (in_hand number questions floor)) → (i : ℕ) (g : Held)
              → get_elem? (held client (request questions floor) ∷ me.0.grabbed) i ≡ some g → (j : ℕ) → who ≡ Dispatcher j
              → mailbox_at did.step.after (g.place + 1) ≡ Some (in_hand j g.request.questions g.request.floor)
          in_hands questions floor is_asked did zero g h j is_j = subst (λ (z : Held × ℕ).
              mailbox_at did.step.after (z.0.place + 1) ≡ Some (in_hand z.1 z.0.request.questions z.0.request.floor))
              (λ i. (some-injective (held client (request questions floor)) g h i, ap number_of is_j i)) did.box_is
          in_hands questions floor is_asked did (suc i) g h j is_j = let far = elsewhere questions floor is_asked i g h in
              did.mail (g.place + 1) (λ e. far (omega arith)) ∙ k.grabbed i g h j is_j

  pub serves : (slots id : ℕ) (me : Me (Slot W) View) (place client : ℕ) (request : PostedRequest) (reply : Response)
      (others : List (ℕ × Slot W)) → me.0.role ≡ Token place → (client < me.0.terms.clients)
      × (me.0.terms.clients ≤ place)
      → request_at client me.0.grabbed ≡ Some request → me.1 ≡ (2 + client, Some (Answered reply)) ∷ others
      → IsRightAt me.0.terms.base me.0.member.seen me.0.member.version request reply
      → Allows Rule slots id me (2 + client) (λ _. 3) (λ _. Answers (step slots (2 + client) 3 0 none) me 3)
  unfolding slot_in
  serves slots id me place client request reply others is can has carried right s r deep at fits = (
    served_as me.0 client (Some request) reply,
    gives,
    tt,
    subst (λ cs. Rule (stepped s (2 + client) 3 id cs (served_as me.0 client (Some request) reply) gives)) (sym carried)
        (ruled reply right),
    λ c x word e. let same : Some (Answered reply) ≡ Some (Answered x) = ap slot_in (sym carried ∙ e) in let one :
        reply ≡ x = cc same in let here : client ≡ c = omega arith in (
          (λ i. (served_as me.0 (here i) ((has_later c here) i) (one i), rest me.1)),
          λ q e'. let asks : Some request ≡ Some q = sym has ∙ (ap (λ n. request_at n me.0.grabbed) here ∙ e') in
              let ask : request ≡ q = cc asks in
              subst (λ (z : ℕ × PostedRequest × Response). IsFresh (given_to (z.0 + 1) z.1 z.2))
              (λ i. (here i, ask i, one i)) (fresh (client + 1) reply right),
        ),
  )
    where
      w : World
      w = r.1

      sh : Shows base_of taken key s r.0 w
      sh = r.3

      k : TokenKnows key s.homes r.0 w sh.owner id me.0 place
      k = token_knows base_of taken key s r.0 w sh id place me.0 at is

      kept : WorldKept key.base key.clients w
      kept = kept_after base_of taken key r.0 w r.2

      near : client < key.clients
      near = subst (λ (t : Terms). client < t.clients) k.common.terms can.0

      far : key.clients ≤ place
      far = subst (λ (t : Terms). t.clients ≤ place) k.common.terms can.1

      who : Who
      who = me.0.member.who

      number : ℕ
      number = number_of who

      named : who ≡ Dispatcher number
      named = dispatcher_here key.clients place who far k.who

      part_is : part_of w (Dispatcher number) ≡ Some (part me.0.member)
      part_is = ap (part_of w) (sym named) ∙ k.told.part_is

      hand : mailbox_at w (client + 1) ≡ Some (in_hand number request.questions request.floor)
      hand = let t = request_there client me.0.grabbed request has in
          k.grabbed t.0 (held client request) t.1 number named

      -- the request that is found is in hand
      has_later : (c : ℕ) (here : client ≡ c) → Some request ≡ request_at c me.0.grabbed
      has_later c here = sym has ∙ ap (λ n. request_at n me.0.grabbed) here

      fresh : (n : ℕ) (x : Response) → IsRightAt me.0.terms.base me.0.member.seen me.0.member.version request x
          → IsFresh (given_to n request x)
      fresh n (Rows questions made found) (same, version, rows) later e = let is_made : made ≡ later = cc e in
          subst (λ v. request.floor ≤ v) is_made
          (floor_kept key.base key.clients w kept number (client + 1) request.questions request.floor made
          (part me.0.member) hand part_is version)
      fresh n (Unserved questions cause) right later e = absurd (cc e)

      -- what does not depend on the answer
      answering : (event : Event) (x : Response) (box : Mailbox)
          → (did : BoxStepped w event Done who (part (member.answers client request x me.0.member)) (client + 1) box)
          → event ≡ member.answer_named number (client + 1) x → actor_of event ≡ who → 3 ≡ stage box
          → ((o : Option PostedRequest) → Asks o (in_hand number request.questions request.floor) → Asks o box)
          → LiesIn (set s.homes (2 + client) (some (Some (Answered x)))) client box
          → Rule (stepped s (2 + client) 3 id ((2 + client, Some (Answered x)) ∷ others)
          (served_as me.0 client (Some request) x) gives)
      answering event x box did is_named acts says asks lies =
          box_rule s r id place me.0 at is event Done (member.answers client request x me.0.member) client
          (in_hand number request.questions request.floor) box did 3 (some (Some (Answered x))) me.0.asked
          (without_at client me.0.grabbed) me.0.beside (λ h. cc h) acts near hand (inr (asks, λ e. cc e))
          (λ d q f other e. let same : number ≡ d = cc e in
          other (ap (λ j. Dispatcher j) (sym same) ∙ sym named)) refl refl
          (ap (λ e. me.0.member.did ++ record { event = e; reply = Done } ∷ []) (sym is_named)) says lies k.common.beside
          (λ b there. k.asked b (sym (did.mail (place + 1) (λ e. omega (arith, near, far, e))) ∙ there))
          (λ i h there j is_j. let was = was_there client me.0.grabbed i h there in
          let apart : h.place ≢ client = each_of (λ (z : Held). z.place ≢ client) (without_at client me.0.grabbed)
          (others_elsewhere client me.0.grabbed k.apart) i h there in
          did.mail (h.place + 1) (λ e. apart (omega (arith, e))) ∙ k.grabbed was.0 h was.1 j is_j)
          (apart_without client me.0.grabbed k.apart) (λ h inside. omega (arith, inside, far))

      ruled : (x : Response) → IsRightAt me.0.terms.base me.0.member.seen me.0.member.version request x
          → Rule (stepped s (2 + client) 3 id ((2 + client, Some (Answered x)) ∷ others)
          (served_as me.0 client (Some request) x) gives)
      ruled (Rows questions made found) (same, version, rows) = let own =
          part_kept key.base key.clients w kept who (part me.0.member) k.told.part_is in
          let low = own.versioned made version in let narrow = sh.slot_count in
          let all : found ≡ all_rows_after w.base questions (take made w.history) =
          rows ∙ (λ i. all_rows_after ((ap (λ (t : Terms). t.base) k.common.terms ∙ sym kept.based) i) questions
          ((sym (take-append-le made me.0.member.seen own.begins.rest low) ∙ ap (take made) (sym own.begins.whole)) i)) in
          let did : BoxStepped w (Answering number (client + 1)) Done who
          (part (member.answers client request (Rows questions made found) me.0.member)) (client + 1)
          (answered questions made found) =
          subst (λ (z : Who × Mailbox). BoxStepped w (Answering number (client + 1)) Done z.0
          (part (member.answers client request (Rows questions made found) me.0.member)) (client + 1) z.1)
          (λ i. (
            sym named i,
            (ap (λ q. answered q made (all_rows_after w.base q (take made w.history))) (sym same)
                ∙ ap (answered questions made) (sym all)) i,
          ))
          (core.answers w number (client + 1) request.questions request.floor made (part me.0.member) part_is version hand) in
          answering (Answering number (client + 1)) (Rows questions made found) (answered questions made found) did refl
          (sym named) refl
          (λ o asks. (
            request.floor,
            asks ∙ ap (λ q. Some (Rattle.history.specs.Words.request q request.floor)) (sym same),
            floor_kept key.base key.clients w kept number (client + 1) request.questions request.floor made
                (part me.0.member) hand part_is version,
          ))
          (set_here s.homes (2 + client) (some (Some (Answered (Rows questions made found)))) (omega (arith, near, narrow)))
      ruled (Unserved questions cause) (same, fits) = let narrow = sh.slot_count in
          let did : BoxStepped w (GiveUp number (client + 1) cause) Done who
          (part (member.answers client request (Unserved questions cause) me.0.member)) (client + 1)
          (unserved questions cause) =
          subst (λ (z : Who × Mailbox). BoxStepped w (GiveUp number (client + 1) cause) Done z.0
          (part (member.answers client request (Unserved questions cause) me.0.member)) (client + 1) z.1)
          (λ i. (sym named i, ap (λ q. unserved q cause) (sym same) i))
          (core.gives_up w number (client + 1) request.questions request.floor cause (part me.0.member) part_is hand) in
          answering (GiveUp number (client + 1) cause) (Unserved questions cause) (unserved questions cause) did refl
          (sym named) refl
          (λ o asks. (request.floor, asks ∙ ap (λ q. Some (Rattle.history.specs.Words.request q request.floor)) (sym same)))
          (set_here s.homes (2 + client) (some (Some (Answered (Unserved questions cause)))) (omega (arith, near, narrow)), fits)

  pub collects_one : (slots id : ℕ) (me : Me (Slot W) View) (place : ℕ) → me.0.role ≡ Token place
      → (place < me.0.terms.clients) × (me.0.has_box ≡ true)
      → Allows Rule slots id me (2 + place) (λ n. either (n == 3) 0 n) (Collects (step slots (2 + place) 3 0 none) me)
  collects_one slots id me place is can s r deep at fits = dite (ℕ_discrete n 3) hits
      (λ miss. (
        me.0,
        keeps,
        tt,
        subst (λ x. Rule record {
          words = set s.words (2 + place) x;
          homes = s.homes;
          views = set s.views id me.0;
        }) (sym (ap (λ b. either b 0 n) (ne_eqb n 3 miss)))
            (unmoved base_of taken key s id (2 + place) me.0 at r),
        ((λ h. absurd (miss h)), λ h. refl),
      ))
    where
      w : World
      w = r.1

      sh : Shows base_of taken key s r.0 w
      sh = r.3

      n : ℕ
      n = slice_index s.words (2 + place)

      k : TokenKnows key s.homes r.0 w sh.owner id me.0 place
      k = token_knows base_of taken key s r.0 w sh id place me.0 at is

      kept : WorldKept key.base key.clients w
      kept = kept_after base_of taken key r.0 w r.2

      within : place < key.clients
      within = subst (λ (t : Terms). place < t.clients) k.common.terms can.0

      who : Who
      who = me.0.member.who

      named : who ≡ Client (place + 1)
      named = client_here key.clients place who within k.who

      Goal : Type 0
      Goal = (v : View) × (a : Act (Slot W)) × Valid s.homes me.1 a
          × Rule (stepped s (2 + place) (either (eqb n 3) 0 n) id me.1 v a)
          × Collects (step slots (2 + place) 3 0 none) me n (v, carried_after me.1 a)

      -- the event of this answer
      collecting : (reply : Response) → mailbox_at w (place + 1) ≡ Some (boxed reply)
          → BoxStepped w (Collect (place + 1)) (told_by reply) who (part (member.collects reply me.0.member)) (place + 1)
          empty
      collecting (Rows questions made found) lies = subst (λ z. BoxStepped w (Collect (place + 1))
          (told_by (Rows questions made found)) z (part (member.collects (Rows questions made found) me.0.member)) (place + 1)
          empty) (sym named) (core.collects w (place + 1) questions made found (part me.0.member)
          (ap (part_of w) (sym named) ∙ k.told.part_is) lies)
      collecting (Unserved questions cause) lies = subst (λ z. BoxStepped w (Collect (place + 1))
          (told_by (Unserved questions cause)) z (part (member.collects (Unserved questions cause) me.0.member)) (place + 1)
          empty) (sym named) (core.collects_none w (place + 1) questions cause (part me.0.member)
          (ap (part_of w) (sym named) ∙ k.told.part_is) lies)

      enabled : (reply : Response) → told_by reply ≢ NotEnabled
      enabled (Rows questions made found) e = cc e
      enabled (Unserved questions cause) e = cc e

      -- it is right, and to what the client asked
      right : (reply : Response) → mailbox_at w (place + 1) ≡ Some (boxed reply) → LiesIn s.homes place (boxed reply)
          → (asking : PostedRequest) × (me.0.asked ≡ Some asking) × IsRight me.0.terms.base w.history asking reply
      right (Rows questions made found) lies slot = let asks = k.asked (answered questions made found) lies in let true_rows =
          mail_kept key.base key.clients w kept (place + 1) (numbered w.clients (place + 1))
          (answered questions made found) refl lies in (
            request questions asks.0,
            asks.1,
            (
              refl,
              asks.2,
              true_rows.0,
              true_rows.1 ∙ ap (λ b. all_rows_after b questions (take made w.history))
                  (kept.based ∙ ap (λ (t : Terms). t.base) (sym k.common.terms)),
            ),
          )
      right (Unserved questions cause) lies slot = let asks = k.asked (unserved questions cause) lies in
          (request questions asks.0, asks.1, (refl, slot.1))

      hits : n ≡ 3 → Goal
      hits hit = let near = within in let here = box_of r.0 w kept place within in let shown =
          sh.mail place here.0 here.1 in let a = only_answered here.0 (sym shown.word ∙ hit) in let reply : Response = a.0 in
          let is_answered : mailbox_at w (place + 1) ≡ Some (boxed reply) = here.1 ∙ ap (λ b. Some b) a.1 in
          let lies : LiesIn s.homes place (boxed reply) = subst (LiesIn s.homes place) a.1 shown.slot in
          let t = right reply is_answered lies in let did = collecting reply is_answered in
          let me' : View = collected me.0 w.history reply in
          let number : number_of who ≡ place + 1 = ap number_of named in (
            me',
            takes (2 + place) (Some (Answered reply)),
            lies_answer s.homes place reply lies,
            subst (λ b. Rule (stepped s (2 + place) (either b 0 n) id me.1 me'
                (takes (2 + place) (Some (Answered reply))))) (sym (eq-eqb n 3 hit))
                (box_rule s r id place me.0 at is (Collect (place + 1)) (told_by reply)
                (member.collects reply me.0.member) place (boxed reply) empty did 0 none None me.0.grabbed
                (w.history ∷ me.0.beside) (enabled reply) (sym named) within is_answered (inl refl)
                (λ d q f other. not_empty reply d q f) refl refl
                (ap (λ j. me.0.member.did ++ record { event = Collect j; reply = told_by reply } ∷ []) number) refl tt
                (more_beside w.history me.0.beside w.history (prefix_self w.history) k.common.beside)
                (λ b there. subst (Asks None) (some_injective empty b (sym did.box_is ∙ there)) refl)
                (λ i h there j is_j. absurd (cc (sym named ∙ is_j))) k.apart (λ h inside. cc (sym can.1 ∙ h))),
            (
              (λ h p e. let same : place ≡ p = same_place place p me.0.role is e in (
                w.history,
                t.0,
                reply,
                (λ i. (me', (2 + same i, Some (Answered reply)) ∷ me.1)),
                t.1,
                t.2,
              )),
              λ h. absurd (h hit),
            ),
          )

  -- a client takes the slot of its mailbox, which is no event
  pub opens_box : (slots id : ℕ) (me : Me (Slot W) View) (place i : ℕ) → me.0.role ≡ Token place
      → (place < me.0.terms.clients) × (me.0.has_box ≡ false)
      → Allows Rule slots id me i (λ n. n) (OpensBox (step slots i 0 0 none) me)
  opens_box slots id me place i is can s r deep at fits = let w : World = r.1 in let sh :
      Shows base_of taken key s r.0 w = r.3 in let k = token_knows base_of taken key s r.0 w sh id place me.0 at is in
      let within : place < key.clients = subst (λ (t : Terms). place < t.clients) k.common.terms can.0 in let free =
      k.vacant can.1 within in let me' : View = opened me.0 in let homes' : Homes W =
      set s.homes (2 + place) none in
      let mail : (c : ℕ) (b : Mailbox) → mailbox_at w (c + 1) ≡ Some b → MailShown s.words homes' c b =
      λ c b there. dite (ℕ_discrete c place)
      (λ e. let one : place + 1 ≡ c + 1 = omega arith in let is_empty : empty ≡ b = some_injective empty b
      (sym free.0 ∙ (ap (mailbox_at w) one ∙ there)) in
      subst (MailShown s.words homes' c) is_empty record {
        word = (sh.mail c empty (there ∙ ap (λ x. Some x) (sym is_empty))).word;
        slot = tt;
      })
      (λ n. mail_stays s.words s.words s.homes homes' c b refl
      (set_else s.homes (2 + place) (2 + c) none (λ e. n (omega arith))) (sh.mail c b there)) in
      let g : Grows place me.0.member.who r.0 r.0 w w s.homes homes' = record {
        did = λ who other. refl;
        parts = λ who other. refl;
        history = prefix_self w.history;
        rows = λ who other e. (e, refl);
        free = λ who other e. e;
        writer = λ j other e. e;
        idle = λ j other e. e;
        requests = λ p b other there. (b, there, λ o asks. asks);
        hands = λ d c q f other h. h;
        vacant = λ p other v. (v.0, set_else s.homes (2 + place) (2 + p) none (λ e. other (omega arith)) ∙ v.1);
      } in
      let known : TokenKnows key homes' r.0 w sh.owner id me' place = record {
        common = record { terms = k.common.terms; beside = k.common.beside };
        plays = k.plays;
        within = k.within;
        who = k.who;
        told = k.told;
        rows = k.rows;
        free = k.free;
        writer = k.writer;
        idle = k.idle;
        asked = k.asked;
        grabbed = k.grabbed;
        apart = k.apart;
        vacant = λ h inside. absurd (cc h);
        gathered = λ j m there. let h = k.gathered j m there in
            handed_grows key r.0 r.0 w w s.homes homes' sh.owner place id place me.0.member.who m k.who g h h.apart;
      } in (
        me',
        takes (2 + place) None,
        free.1,
        subst (λ ws. Rule record { words = ws; homes = homes'; views = set s.views id me' })
            (sym (set-get_or s.words i 0)) (
              r.0,
              w,
              r.2,
              token_step base_of taken key s r.0 r.0 w w sh id place me.0.member.who s.words homes' me' k.who k.plays g
                  refl (length-set s.homes (2 + place) none)
                  record {
                    word = sh.rows.word;
                    home = λ h. set_else s.homes (2 + place) 0 none (λ e. omega arith)
                        ∙ sh.rows.home h;
                    held = sh.rows.held;
                  }
                  (writer_stays base_of taken key s.words s.words s.homes homes' w w refl
                  (set_else s.homes (2 + place) 1 none (λ e. omega arith)) refl (prefix_self w.history) sh.writer) mail
                  (subst (KnowsAs key homes' r.0 w sh.owner id me') (sym is) known),
            ),
        λ p e. let same : place ≡ p = same_place place p me.0.role is e in (λ j. (me', (2 + same j, None) ∷ me.1)),
      )
