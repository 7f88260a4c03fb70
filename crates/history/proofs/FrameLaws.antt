-- What a step leaves true of the rest of the table.
use Rattle.std.proofs.Common.{◌≡◌, ◌≢◌, ℕ, ◌+◌, ◌*◌, ◌<◌, ◌≤◌, Bool, true, false, List, [], ◌∷◌, ◌++◌, length, set}
use Rattle.std.proofs.Common.{Option, Some, None, refl, ap, sym, subst, ◌∙◌, ⊎_elim, arith, length-set}
use Rattle.std.proofs.Common.{get_or-set_other}
use Rattle.std.specs.Prelude.{slice_index, slice_index_or, All}
use Rattle.std.proofs.lemmas.List.Elements.{All-nil, All-cons}
use mathlib.Core.Option.{some}
use mathlib.Core.Option as maybe
use lib.ListN.{get_elem?}
use Rattle.atomic_table.specs.Table.{State}
use Rattle.atomic_table.proofs.Lists.{at_set, set_else}
use Rattle.ssb_base.specs.Base.{Tables}
use Rattle.row_store.specs.History.{CommitRecord, IsPrefix}
use Rattle.history.specs.declared.view.Terms.{Terms}
use Rattle.history.specs.declared.view.Member.{Member}
use Rattle.history.specs.declared.request.PostedRequest.{PostedRequest}
use Rattle.history.specs.declared.view.Role.{Role}
use Rattle.history.specs.declared.view.Role.TheVariants.{Dealer, Token, Note, Spent}
use Rattle.history.specs.declared.view.View.{View}
use Rattle.history.specs.declared.view.SlotValue.TheVariants.{Writer}
use Rattle.history_core.specs.declared.event.Who.{Who}
use Rattle.history_core.specs.declared.event.Who.TheVariants.{Dispatcher}
use Rattle.history_core.specs.declared.event.EventReply.{EventReply}
use Rattle.history_core.specs.declared.event.EventReply.TheVariants.{NotEnabled}
use Rattle.history_core.specs.Events.{Questions, Event}
use Rattle.history_core.specs.declared.mailbox.Mailbox.{Mailbox}
use Rattle.history_core.specs.declared.mailbox.Mailbox.TheVariants.{Empty as empty, Asked as asked, InHand as in_hand}
use Rattle.history_core.specs.declared.mailbox.Mailbox.TheVariants.{Answered as answered, Unserved as unserved}
use Rattle.history_core.specs.World.{World}
use Rattle.history_core.specs.Deeds.{Deed, actor_of, done_by, HasDone}
use Rattle.history_core.specs.Kept.{WorldKept}
use Rattle.history_core.specs.Parts.{Part, part_of, mailbox_at}
use Rattle.history_core.proofs.DoneLaws.{did_more, did_same, done_next, done_kept}
use Rattle.history_core.proofs.PartLaws.{PartStepped}
use Rattle.history.specs.Members.{who_at, part}
use Rattle.history.specs.Rule.{Slot, Homes, out, rows, RowsShown, WriterShown, MailShown, IsVacant, Asks, Common}
use Rattle.history.specs.Rule.{IsTold, Handed, IsMember, IsOurs, IsUnopened, first_world, TokenKnows, KnowsAs, Knows}
use Rattle.history.specs.Rule.{Shows, ShowsWorld}
use Rattle.history.specs.Plays.{Learns}
use Rattle.history.proofs.HistoryLaws.{prefix_self, prefix_trans}
use Rattle.history.proofs.MemberLaws.{who_same, part_kept}

pub all_grow : (history now : List CommitRecord) (beside : List (List CommitRecord)) → IsPrefix history now
    → All (λ list. IsPrefix list history) beside → All (λ list. IsPrefix list now) beside
all_grow history now beside more all k d low = prefix_trans (slice_index_or beside k d) history now (all k d low) more

pub common_grows : (key : Terms) (w w' : World) (v : View) → IsPrefix w.history w'.history → Common key w v
    → Common key w' v
common_grows key w w' v more c = grind (arith, all_grow)

-- where nothing lies beside, and where one list more does
pub none_beside : (history : List CommitRecord) → All (λ list. IsPrefix list history) []
none_beside history = All-nil (λ list. IsPrefix list history)

pub more_beside : (first : List CommitRecord) (beside : List (List CommitRecord)) (history : List CommitRecord)
    → IsPrefix first history → All (λ list. IsPrefix list history) beside
    → All (λ list. IsPrefix list history) (first ∷ beside)
more_beside first beside history here others = All-cons (λ list. IsPrefix list history) first beside here others

pub only_empty : (box : Mailbox) → Asks None box → box ≡ empty
only_empty empty e = refl
only_empty (asked questions floor) e = absurd (cc e)
only_empty (in_hand dispatcher questions floor) e = absurd (cc e)
only_empty (answered questions at found) e = absurd (cc e.1)
only_empty (unserved questions cause) e = absurd (cc e.1)

-- names of two places are apart
apart_from : (key : Terms) (place p : ℕ) (me who : Who) → me ≡ who_at key.clients place → who ≡ who_at key.clients p
    → p ≢ place → who ≢ me
apart_from key place p me who is is' other e = other (who_same key.clients p place (sym is' ∙ (e ∙ is)))

-- a member did one event more
pub told_more : (deeds : List Deed) (w w' : World) (m m' : Member) (event : Event) (reply : EventReply)
    → IsTold deeds w m → m'.who ≡ m.who → actor_of event ≡ m.who → part_of w' m.who ≡ Some (part m')
    → m'.did ≡ m.did ++ record { event = event; reply = reply } ∷ []
    → IsTold (deeds ++ record { event = event; reply = reply } ∷ []) w' m'
told_more deeds w w' m m' event reply t same acts here did = grind (arith, did_more)

module _ {W : Type 0} where
  -- a mailbox is shown as before where its word and its slot are as before
  pub mail_stays : (words words' : List ℕ) (homes homes' : Homes W) (client : ℕ) (box : Mailbox)
      → slice_index words' (2 + client) ≡ slice_index words (2 + client)
      → get_elem? homes' (2 + client) ≡ get_elem? homes (2 + client)
      → MailShown words homes client box → MailShown words' homes' client box
  mail_stays words words' homes homes' client empty e f m = grind arith
  mail_stays words words' homes homes' client (asked questions floor) e f m = grind arith
  mail_stays words words' homes homes' client (in_hand dispatcher questions floor) e f m = grind arith
  mail_stays words words' homes homes' client (answered questions at found) e f m = grind arith
  mail_stays words words' homes homes' client (unserved questions cause) e f m = grind arith

  -- what differs is what this member, which stands at this place, did
  pub record Grows (place : ℕ) (me : Who) (deeds deeds' : List Deed) (w w' : World) (homes homes' : Homes W) : Type 0
    where
      pub did : (who : Who) → who ≢ me → done_by who deeds' ≡ done_by who deeds
      pub parts : (who : Who) → who ≢ me → part_of w' who ≡ part_of w who
      pub history : IsPrefix w.history w'.history
      pub rows : (who : Who) → who ≢ me → w.rows ≡ Some who → (w'.rows ≡ Some who) × (w'.history ≡ w.history)
      pub free : (who : Who) → who ≢ me → w'.rows ≡ Some who → w.rows ≡ Some who
      pub writer : (n : ℕ) → Dispatcher n ≢ me → w.writer ≡ Some n → w'.writer ≡ Some n
      pub idle : (n : ℕ) → Dispatcher n ≢ me → w'.writer ≡ Some n → w.writer ≡ Some n
      pub requests : (p : ℕ) (box' : Mailbox) → p ≢ place → mailbox_at w' (p + 1) ≡ Some box' → (box : Mailbox)
          × (mailbox_at w (p + 1) ≡ Some box) × ((posted : Option PostedRequest) → Asks posted box → Asks posted box')
      pub hands : (d n : ℕ) (questions : Questions) (floor : ℕ) → Dispatcher d ≢ me
          → mailbox_at w n ≡ Some (in_hand d questions floor) → mailbox_at w' n ≡ Some (in_hand d questions floor)
      pub vacant : (p : ℕ) → p ≢ place → IsUnopened homes w p → IsUnopened homes' w' p

  -- an event that changes no mailbox, with a change of the slot of a part
  pub part_grows : (deeds : List Deed) (w : World) (event : Event) (reply : EventReply) (me : Who) (p : Part)
      (holder : Option Who) (taker : Option ℕ) (log : List CommitRecord)
      (s : PartStepped w event reply me p holder taker log) (homes : Homes W) (k : ℕ) (y : maybe.Option (Slot W))
      (place : ℕ) → k < 2 → actor_of event ≡ me → IsPrefix w.history log
      → ((who : Who) → who ≢ me → w.rows ≡ Some who → (holder ≡ Some who) × (log ≡ w.history))
      → ((who : Who) → who ≢ me → holder ≡ Some who → w.rows ≡ Some who)
      → ((n : ℕ) → Dispatcher n ≢ me → w.writer ≡ Some n → taker ≡ Some n)
      → ((n : ℕ) → Dispatcher n ≢ me → taker ≡ Some n → w.writer ≡ Some n)
      → Grows place me deeds (deeds ++ record { event = event; reply = reply } ∷ []) w s.step.after homes
      (set homes k y)
  part_grows deeds w event reply me p holder taker log s homes k y place low acts more keep back takes untakes = grind (arith, did_same, set_else)

  -- what a member is told of stays where another acts
  told_grows : (deeds deeds' : List Deed) (w w' : World) (homes homes' : Homes W) (place : ℕ) (me : Who) (m : Member)
      → Grows place me deeds deeds' w w' homes homes' → m.who ≢ me → IsTold deeds w m → IsTold deeds' w' m
  told_grows deeds deeds' w w' homes homes' place me m g other t =
      record { part_is = g.parts m.who other ∙ t.part_is; did = t.did ∙ sym (g.did m.who other) }

  pub handed_grows : (key : Terms) (deeds deeds' : List Deed) (w w' : World) (homes homes' : Homes W) (owner : ℕ → ℕ)
      (place seat own : ℕ) (me : Who) (m : Member) → me ≡ who_at key.clients place
      → Grows place me deeds deeds' w w' homes homes' → (h : Handed key deeds w owner seat own m) → h.place ≢ place
      → Handed key deeds' w' owner seat own m
  handed_grows key deeds deeds' w w' homes homes' owner place seat own me m is g h other =
      let far : m.who ≢ me = apart_from key place h.place me m.who is h.who other in record {
        place = h.place;
        plays = h.plays;
        apart = h.apart;
        who = h.who;
        told = told_grows deeds deeds' w w' homes homes' place me m g far h.told;
        free = λ e. h.free (g.free m.who far e);
        idle = λ n named e. h.idle n named (g.idle n (λ same. far (named ∙ same)) e);
        quiet = λ box at. let was = g.requests h.place box other at in was.2 None (h.quiet was.0 was.1);
      }

  -- what another seat knows stays true
  pub others_know : (key : Terms) (deeds deeds' : List Deed) (w w' : World) (homes homes' : Homes W) (owner : ℕ → ℕ)
      (place seat j : ℕ) (me : Who) (v : View) → me ≡ who_at key.clients place
      → Grows place me deeds deeds' w w' homes homes' → owner place ≡ seat → j ≢ seat → (r : Role)
      → KnowsAs key homes deeds w owner j v r → KnowsAs key homes' deeds' w' owner j v r
  others_know key deeds deeds' w w' homes homes' owner place seat j me v is g mine apart (Dealer next) k =
      let other : (p : ℕ) → next ≤ p → p ≢ place = λ p le e. apart (sym (k.plays p le) ∙ (ap owner e ∙ mine)) in
      let far : (p : ℕ) → next ≤ p → who_at key.clients p ≢ me =
      λ p le. apart_from key place p me (who_at key.clients p) is refl (other p le) in record {
        common = common_grows key w w' v g.history k.common;
        plays = k.plays;
        members = λ p le within. told_grows deeds deeds' w w' homes homes' place me _ g (far p le) (k.members p le within);
        free = λ p le e. k.free p le (g.free (who_at key.clients p) (far p le) e);
        idle = λ p n le named e. k.idle p n le named (g.idle n (λ same. far p le (named ∙ same)) e);
        vacant = λ p le within. g.vacant p (other p le) (k.vacant p le within);
      }
  others_know key deeds deeds' w w' homes homes' owner place seat j me v is g mine apart (Token p) k =
      let other : p ≢ place = λ e. apart (sym k.plays ∙ (ap owner e ∙ mine)) in
      let far : v.member.who ≢ me = apart_from key place p me v.member.who is k.who other in record {
        common = common_grows key w w' v g.history k.common;
        plays = k.plays;
        within = k.within;
        who = k.who;
        told = told_grows deeds deeds' w w' homes homes' place me v.member g far k.told;
        rows = λ h. let was = k.rows h in let now = g.rows v.member.who far was.0 in (now.0, was.1 ∙ sym now.1);
        free = λ h e. k.free h (g.free v.member.who far e);
        writer = λ h n named. g.writer n (λ same. far (named ∙ same)) (k.writer h n named);
        idle = λ h n named e. k.idle h n named (g.idle n (λ same. far (named ∙ same)) e);
        asked = λ box at. let was = g.requests p box other at in was.2 v.asked (k.asked was.0 was.1);
        grabbed = λ i h at n named. g.hands n (h.place + 1) h.request.questions h.request.floor (λ same. far (named ∙ same))
            (k.grabbed i h at n named);
        apart = k.apart;
        vacant = λ h within. g.vacant p other (k.vacant h within);
        gathered = λ i m at. let h = k.gathered i m at in
            handed_grows key deeds deeds' w w' homes homes' owner place j p me m is g h
            (λ e. apart (sym h.plays ∙ (ap owner e ∙ mine)));
      }
  others_know key deeds deeds' w w' homes homes' owner place seat j me v is g mine apart Note k =
      (common_grows key w w' v g.history k.0, prefix_trans v.member.seen w.history w'.history k.1 g.history)
  others_know key deeds deeds' w w' homes homes' owner place seat j me v is g mine apart Spent k = tt

  -- what the stepping seat knows after a step on a part, which leaves the mailboxes as they are
  pub part_known : (key : Terms) (deeds deeds' : List Deed) (w w' : World) (homes homes' : Homes W) (owner : ℕ → ℕ)
      (id place : ℕ) (v : View) (m' : Member) (holds holds' : Bool) (beside : List (List CommitRecord))
      → TokenKnows key homes deeds w owner id v place → Grows place v.member.who deeds deeds' w w' homes homes'
      → ((n : ℕ) → mailbox_at w' n ≡ mailbox_at w n) → m'.who ≡ v.member.who → IsTold deeds' w' m'
      → ((p : ℕ) → IsVacant homes p → IsVacant homes' p) → All (λ list. IsPrefix list w'.history) beside
      → (holds ≡ true → (w'.rows ≡ Some m'.who) × (m'.seen ≡ w'.history))
      → (holds ≡ false → w'.rows ≢ Some m'.who)
      → (holds' ≡ true → (number : ℕ) → m'.who ≡ Dispatcher number → w'.writer ≡ Some number)
      → (holds' ≡ false → (number : ℕ) → m'.who ≡ Dispatcher number → w'.writer ≢ Some number)
      → TokenKnows key homes' deeds' w' owner id (record v {
        member = m';
        holds_rows = holds;
        holds_writer = holds';
        beside = beside;
      }) place
  part_known key deeds deeds' w w' homes homes' owner id place v m' holds holds' beside k g boxes same told bare begins
      rows free writer idle = record {
        common = record { terms = k.common.terms; beside = begins };
        plays = k.plays;
        within = k.within;
        who = same ∙ k.who;
        told = told;
        rows = rows;
        free = free;
        writer = writer;
        idle = idle;
        asked = λ box at. k.asked box (sym (boxes (place + 1)) ∙ at);
        grabbed = λ i h at n named. boxes (h.place + 1) ∙ k.grabbed i h at n (sym same ∙ named);
        apart = k.apart;
        vacant = λ h within. let was = k.vacant h within in (boxes (place + 1) ∙ was.0, bare place was.1);
        gathered = λ i m at. let h = k.gathered i m at in
            handed_grows key deeds deeds' w w' homes homes' owner place id place v.member.who m k.who g h h.apart;
      }

  -- the rows are shown as before by a step on another word and slot
  pub rows_beside : (key : Terms) (words : List ℕ) (homes : Homes W) (w w' : World) (i x k : ℕ)
      (y : maybe.Option (Slot W)) → 1 ≤ i → 1 ≤ k → w'.history ≡ w.history → w'.rows ≡ w.rows
      → RowsShown key words homes w → RowsShown key (set words i x) (set homes k y) w'
  rows_beside key words homes w w' i x k y far far' same part shown = grind (arith, get_or-set_other, set_else)

  -- a mailbox is shown as before by a step on a part
  pub mail_beside : (words : List ℕ) (homes : Homes W) (i x k : ℕ) (y : maybe.Option (Slot W)) (client : ℕ)
      (box : Mailbox) → i < 2 → k < 2 → MailShown words homes client box
      → MailShown (set words i x) (set homes k y) client box
  mail_beside words homes i x k y client box near near' shown = grind (arith, mail_stays, get_or-set_other, set_else)

module _ {W : Type 0} (base_of : W → Tables) (taken : W → List CommitRecord) (key : Terms) where
  -- the writer is shown as before where its word and slot are as before
  pub writer_stays : (words words' : List ℕ) (homes homes' : Homes W) (w w' : World)
      → slice_index words' 1 ≡ slice_index words 1 → get_elem? homes' 1 ≡ get_elem? homes 1 → w'.writer ≡ w.writer
      → IsPrefix w.history w'.history
      → WriterShown base_of taken key words homes w → WriterShown base_of taken key words' homes' w'
  writer_stays words words' homes homes' w w' e f part more shown = grind (arith, prefix_trans)

  pub writer_beside : (words : List ℕ) (homes : Homes W) (w w' : World) (i x k : ℕ) (y : maybe.Option (Slot W)) → i ≢ 1
      → k ≢ 1 → w'.writer ≡ w.writer → IsPrefix w.history w'.history
      → WriterShown base_of taken key words homes w → WriterShown base_of taken key (set words i x) (set homes k y) w'
  writer_beside words homes w w' i x k y far far' part more shown =
      writer_stays words (set words i x) homes (set homes k y) w w' (get_or-set_other words i 1 x 0 (λ e. far (sym e)))
      (set_else homes k 1 y (λ e. far' (sym e))) part more shown

  -- a step of the token at a place
  unfoldable pub token_step : (s : State (Slot W) View) (deeds deeds' : List Deed) (w w' : World)
      (sh : Shows base_of taken key s deeds w) (id place : ℕ) (me : Who) (words' : List ℕ) (homes' : Homes W)
      (me' : View) → me ≡ who_at key.clients place → sh.owner place ≡ id
      → Grows place me deeds deeds' w w' s.homes homes'
      → length words' ≡ length s.words → length homes' ≡ length s.homes
      → RowsShown key words' homes' w' → WriterShown base_of taken key words' homes' w'
      → ((client : ℕ) (box : Mailbox) → mailbox_at w' (client + 1) ≡ Some box → MailShown words' homes' client box)
      → Knows key homes' deeds' w' sh.owner id me'
      → Shows base_of taken key record { words = words'; homes = homes'; views = set s.views id me' } deeds' w'
  token_step s deeds deeds' w w' sh id place me words' homes' me' is mine g wide deep shown writer mail known = record {
    owner = sh.owner;
    word_count = wide ∙ sh.word_count;
    slot_count = deep ∙ sh.slot_count;
    rows = shown;
    writer = writer;
    mail = mail;
    seats = λ j v at. ⊎_elim
        (λ (t : (j ≡ id) × (me' ≡ v)). subst (λ (x : ℕ × View). Knows key homes' deeds' w' sh.owner x.0 x.1)
        (λ i. (sym t.0 i, t.1 i)) known)
        (λ (t : (j ≢ id) × (get_elem? s.views j ≡ some v)). others_know key deeds deeds' w w' s.homes homes' sh.owner
        place id j me v is g mine t.0 v.role (sh.seats j v t.1))
        (at_set s.views id j me' v at);
  }

  pub token_knows : (s : State (Slot W) View) (deeds : List Deed) (w : World) (sh : Shows base_of taken key s deeds w)
      (id place : ℕ) (v : View) → get_elem? s.views id ≡ some v → v.role ≡ Token place
      → TokenKnows key s.homes deeds w sh.owner id v place
  token_knows s deeds w sh id place v at is = subst (KnowsAs key s.homes deeds w sh.owner id v) is (sh.seats id v at)

  -- what every world keeps
  pub kept_after : (deeds : List Deed) (w : World) → HasDone (first_world key) deeds w → WorldKept key.base key.clients w
  kept_after deeds w has = done_kept key.base key.clients key.dispatchers deeds w has

  pub learns : (deeds : List Deed) (w : World) (homes : Homes W) (owner : ℕ → ℕ) (id place : ℕ) (v : View)
      → WorldKept key.base key.clients w → TokenKnows key homes deeds w owner id v place → Learns v w.history
  learns deeds w homes owner id place v kept k = grind (arith, part_kept)

  -- the rule after an event that changes no mailbox, where the stepping member changed to this one
  part_rule : (s : State (Slot W) View) (r : ShowsWorld base_of taken key s) (id place : ℕ) (v : View)
      → get_elem? s.views id ≡ some v → v.role ≡ Token place → (event : Event) (reply : EventReply)
      (holder : Option Who)
      (taker : Option ℕ) (log : List CommitRecord) (m' : Member)
      (did : PartStepped r.1 event reply v.member.who (part m') holder taker log)
      (i x k : ℕ) (y : maybe.Option (Slot W)) (holds holds' : Bool) (beside : List (List CommitRecord))
      → i < 2 → k < 2 → reply ≢ NotEnabled → actor_of event ≡ v.member.who → IsPrefix r.1.history log
      → ((who : Who) → who ≢ v.member.who → r.1.rows ≡ Some who → (holder ≡ Some who) × (log ≡ r.1.history))
      → ((who : Who) → who ≢ v.member.who → holder ≡ Some who → r.1.rows ≡ Some who)
      → ((n : ℕ) → Dispatcher n ≢ v.member.who → r.1.writer ≡ Some n → taker ≡ Some n)
      → ((n : ℕ) → Dispatcher n ≢ v.member.who → taker ≡ Some n → r.1.writer ≡ Some n)
      → m'.who ≡ v.member.who → m'.did ≡ v.member.did ++ record { event = event; reply = reply } ∷ []
      → RowsShown key (set s.words i x) (set s.homes k y) did.step.after
      → WriterShown base_of taken key (set s.words i x) (set s.homes k y) did.step.after
      → All (λ list. IsPrefix list log) beside
      → (holds ≡ true → (holder ≡ Some m'.who) × (m'.seen ≡ log)) → (holds ≡ false → holder ≢ Some m'.who)
      → (holds' ≡ true → (n : ℕ) → m'.who ≡ Dispatcher n → taker ≡ Some n)
      → (holds' ≡ false → (n : ℕ) → m'.who ≡ Dispatcher n → taker ≢ Some n)
      → ShowsWorld base_of taken key record {
        words = set s.words i x;
        homes = set s.homes k y;
        views = set s.views id record v { member = m'; holds_rows = holds; holds_writer = holds'; beside = beside };
      }
  part_rule s r id place v at is event reply holder taker log m' did i x k y holds holds' beside near low enabled acts
      more keep back takes untakes same said shown writer begins rows free writes idle = let w' : World =
      did.step.after in let deeds' : List Deed = r.0 ++ record { event = event; reply = reply } ∷ [] in
      let known = token_knows s r.0 r.1 r.3 id place v at is in let homes' : Homes W = set s.homes k y in
      let me' : View = record v { member = m'; holds_rows = holds; holds_writer = holds'; beside = beside } in
      let g = part_grows r.0 r.1 event reply v.member.who (part m') holder taker log did s.homes k y place low acts more
      keep back takes untakes in
      let now : TokenKnows key homes' deeds' w' r.3.owner id me' place =
      part_known key r.0 deeds' r.1 w' s.homes homes' r.3.owner id place v m' holds holds' beside known g did.mail same
      (told_more r.0 r.1 w' v.member m' event reply known.told same acts did.step.here said)
      (λ p e. set_else s.homes k (2 + p) y (λ h. omega arith) ∙ e)
      (subst (λ h. All (λ list. IsPrefix list h) beside) (sym did.step.history) begins)
      (λ h. let t = rows h in (did.step.rows ∙ t.0, t.1 ∙ sym did.step.history))
      (λ h e. free h (sym did.step.rows ∙ e)) (λ h n named. did.step.writer ∙ writes h n named)
      (λ h n named e. idle h n named (sym did.step.writer ∙ e)) in (
        deeds',
        w',
        done_next (first_world key) r.0 r.1 event reply w' r.2 did.step.is enabled,
        token_step s r.0 deeds' r.1 w' r.3 id place v.member.who (set s.words i x) homes' me' known.who known.plays g
            (length-set s.words i x) (length-set s.homes k y) shown writer
            (λ c b there. mail_beside s.words s.homes i x k y c b near low
            (r.3.mail c b (sym (did.mail (c + 1)) ∙ there)))
            (subst (KnowsAs key homes' deeds' w' r.3.owner id me') (sym is) now),
      )

  -- where it is an event on the rows
  pub rows_rule : (s : State (Slot W) View) (r : ShowsWorld base_of taken key s) (id place : ℕ) (v : View)
      → get_elem? s.views id ≡ some v → v.role ≡ Token place → (event : Event) (reply : EventReply)
      (holder : Option Who)
      (log : List CommitRecord) (m' : Member)
      (did : PartStepped r.1 event reply v.member.who (part m') holder r.1.writer log)
      (x : ℕ) (y : maybe.Option (Slot W)) (holds : Bool) (beside : List (List CommitRecord))
      → reply ≢ NotEnabled → actor_of event ≡ v.member.who → IsPrefix r.1.history log
      → ((who : Who) → who ≢ v.member.who → r.1.rows ≡ Some who → (holder ≡ Some who) × (log ≡ r.1.history))
      → ((who : Who) → who ≢ v.member.who → holder ≡ Some who → r.1.rows ≡ Some who)
      → m'.who ≡ v.member.who → m'.did ≡ v.member.did ++ record { event = event; reply = reply } ∷ []
      → slice_index (set s.words 0 x) 0 ≡ 2 * length log + out holder
      → (holder ≡ None → get_elem? (set s.homes 0 y) 0 ≡ some (some (rows key.base log)))
      → ((who : Who) → holder ≡ Some who → IsMember key who)
      → All (λ list. IsPrefix list log) beside
      → (holds ≡ true → (holder ≡ Some m'.who) × (m'.seen ≡ log)) → (holds ≡ false → holder ≢ Some m'.who)
      → ShowsWorld base_of taken key record {
        words = set s.words 0 x;
        homes = set s.homes 0 y;
        views = set s.views id record v { member = m'; holds_rows = holds; beside = beside };
      }
  rows_rule s r id place v at is event reply holder log m' did x y holds beside enabled acts more keep back same said
      word home held begins holding free = let known = token_knows s r.0 r.1 r.3 id place v at is in
      part_rule s r id place v at is event reply holder r.1.writer log m' did 0 x 0 y holds v.holds_writer beside
      (omega arith) (omega arith) enabled acts more keep back (λ n other e. e) (λ n other e. e) same said
      record {
        word = word ∙ (λ i. 2 * length (sym did.step.history i) + out (sym did.step.rows i));
        home = λ h. home (sym did.step.rows ∙ h) ∙ ap (λ l. some (some (rows key.base l))) (sym did.step.history);
        held = λ who e. held who (sym did.step.rows ∙ e);
      }
      (writer_beside s.words s.homes r.1 did.step.after 0 x 0 y (λ h. omega arith) (λ h. omega arith) did.step.writer
      (subst (IsPrefix r.1.history) (sym did.step.history) more) r.3.writer)
      begins holding free (λ h n named. known.writer h n (sym same ∙ named))
      (λ h n named. known.idle h n (sym same ∙ named))

  -- and where it is one on the writer
  pub writer_rule : (s : State (Slot W) View) (r : ShowsWorld base_of taken key s) (id place : ℕ) (v : View)
      → get_elem? s.views id ≡ some v → v.role ≡ Token place → (event : Event) (reply : EventReply) (taker : Option ℕ)
      (m' : Member) (did : PartStepped r.1 event reply v.member.who (part m') r.1.rows taker r.1.history)
      (x : ℕ) (y : maybe.Option (Slot W)) (holds : Bool) (beside : List (List CommitRecord))
      → reply ≢ NotEnabled → actor_of event ≡ v.member.who
      → ((n : ℕ) → Dispatcher n ≢ v.member.who → r.1.writer ≡ Some n → taker ≡ Some n)
      → ((n : ℕ) → Dispatcher n ≢ v.member.who → taker ≡ Some n → r.1.writer ≡ Some n)
      → m'.who ≡ v.member.who → m'.seen ≡ v.member.seen
      → m'.did ≡ v.member.did ++ record { event = event; reply = reply } ∷ []
      → slice_index (set s.words 1 x) 1 ≡ out taker
      → (taker ≡ None → (writer : W) × (get_elem? (set s.homes 1 y) 1 ≡ some (some (Some (Writer writer))))
      × IsOurs base_of taken key r.1.history writer)
      → ((n : ℕ) → taker ≡ Some n → IsMember key (Dispatcher n))
      → All (λ list. IsPrefix list r.1.history) beside
      → (holds ≡ true → (n : ℕ) → m'.who ≡ Dispatcher n → taker ≡ Some n)
      → (holds ≡ false → (n : ℕ) → m'.who ≡ Dispatcher n → taker ≢ Some n)
      → ShowsWorld base_of taken key record {
        words = set s.words 1 x;
        homes = set s.homes 1 y;
        views = set s.views id record v { member = m'; holds_writer = holds; beside = beside };
      }
  writer_rule s r id place v at is event reply taker m' did x y holds beside enabled acts takes untakes same saw said
      word home held begins writes idle = let known = token_knows s r.0 r.1 r.3 id place v at is in
      part_rule s r id place v at is event reply r.1.rows taker r.1.history m' did 1 x 1 y v.holds_rows holds beside
      (omega arith) (omega arith) enabled acts (prefix_self r.1.history) (λ who other e. (e, refl)) (λ who other e. e)
      takes untakes same said
      (rows_beside key s.words s.homes r.1 did.step.after 1 x 1 y (omega arith) (omega arith) did.step.history
      did.step.rows r.3.rows)
      record {
        word = word ∙ ap out (sym did.step.writer);
        home = λ h. let was = home (sym did.step.writer ∙ h) in (
          was.0,
          was.1,
          (was.2.0, subst (IsPrefix (taken was.0)) (sym did.step.history) was.2.1),
        );
        held = λ n e. held n (sym did.step.writer ∙ e);
      }
      begins (λ h. let t = known.rows h in (t.0 ∙ ap (λ who. Some who) (sym same), saw ∙ t.1))
      (λ h e. known.free h (e ∙ ap (λ who. Some who) same)) writes idle
