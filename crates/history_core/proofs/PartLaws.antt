-- What each enabled event changes of the parts and of the mailboxes.
use Rattle.std.proofs.Common.{◌≡◌, ◌≢◌, ℕ, zero, suc, ◌+◌, ◌<◌, ◌≤◌, ◌==◌, Bool, true, List, [], ◌∷◌, ◌++◌}
use Rattle.std.proofs.Common.{length, take, Option, Some, None, refl, ap, sym, ◌∙◌, arith}
use Rattle.std.proofs.lemmas.Bool.Decides.{nat_tests}
use Rattle.std.specs.Prelude.{slice_get, if◌then◌else◌}
use Rattle.std.specs.Option.{option_map}
use mathlib.Core.Logic.{dite}
use native.Mathlib.Decide.{ℕ_discrete}
use Rattle.ssb_schema.specs.declared.refresh.Action.{Action}
use Rattle.ssb_base.specs.Base.{Tables}
use Rattle.ssb_answers.specs.declared.answer.ResultRow.{ResultRow}
use Rattle.ssb_answers.specs.declared.answer.Unserved.{Unserved as Cause}
use Rattle.row_store.specs.History.{CommitRecord}
use Rattle.row_store.specs.Refusals.{refusal_of}
use Rattle.history_core.specs.declared.dispatcher.Outcome.TheVariants.{Served, GivenUp}
use Rattle.history_core.specs.declared.event.Who.{Who}
use Rattle.history_core.specs.declared.event.Who.TheVariants.{Client, Dispatcher}
use Rattle.history_core.specs.declared.event.EventReply.{EventReply}
use Rattle.history_core.specs.declared.event.EventReply.TheVariants.{NotEnabled, Done, Committed, Length}
use Rattle.history_core.specs.declared.event.EventReply.TheVariants.{Asked as Asks, Rows, Unserved}
use Rattle.history_core.specs.Events.{Questions, Event, TakeRows, PutRows, Look, Post, Grab}
use Rattle.history_core.specs.Events.{TakeWriter, PutWriter, Answer, GiveUp, Collect}
use Rattle.history_core.specs.Numbered.{copies, revised, numbered, renewed, is_there}
use Rattle.history_core.specs.World.{World, ClientState, DispatcherState, Mailbox, empty, asked, in_hand, answered}
use Rattle.history_core.specs.World.{unserved, opening_world, is_known, holds_rows, holds_writer, mailbox_of}
use Rattle.history_core.specs.World.{version_of}
use Rattle.history_core.specs.World.{with_client, with_dispatcher, into_mailbox, unmarked, gave, commit_by}
use Rattle.history_core.specs.World.{all_rows_after, taking_rows, committing, putting_rows, looking, posting, grabbing}
use Rattle.history_core.specs.World.{taking_writer, putting_writer, answering, giving_up, collecting, step_of}
use Rattle.history_core.specs.Parts.{Part, client_part, dispatcher_part, part_in, part_of, mailbox_at, mark_after}
use Rattle.history_core.proofs.HistoryLaws.{some_injective, some_ne_none}
use Rattle.history_core.proofs.DoneLaws.{same_self}

module _ {A : Type 0} where
  numbered_here : (l : List A) (n : ℕ) (f : A → A) → numbered (renewed l n f) n ≡ option_map f (numbered l n)
  numbered_here l zero f = refl
  numbered_here l (suc place) f = go l place
    where
      go : (l : List A) (place : ℕ) → slice_get (revised l place f) place ≡ option_map f (slice_get l place)
      go [] place = refl
      go (x ∷ xs) zero = refl
      go (x ∷ xs) (suc place) = go xs place

  numbered_else : (l : List A) (n j : ℕ) (f : A → A) → j ≢ n → numbered (renewed l n f) j ≡ numbered l j
  numbered_else l zero j f apart = refl
  numbered_else l (suc n) zero f apart = refl
  numbered_else l (suc n) (suc j) f apart = go l n j (λ e. apart (ap suc e))
    where
      go : (l : List A) (n j : ℕ) → j ≢ n → slice_get (revised l n f) j ≡ slice_get l j
      go [] n j apart = refl
      go (y ∷ ys) zero zero apart = absurd (apart refl)
      go (y ∷ ys) zero (suc j) apart = refl
      go (y ∷ ys) (suc n) zero apart = refl
      go (y ∷ ys) (suc n) (suc j) apart = go ys n j (λ e. apart (ap suc e))

  pub numbered_there : (l : List A) (n : ℕ) → 1 ≤ n → n ≤ length l → (x : A) × (numbered l n ≡ Some x)
  numbered_there l zero low high = absurd (omega arith)
  numbered_there l (suc place) low high = go l place (omega arith)
    where
      go : (l : List A) (place : ℕ) → place < length l → (x : A) × (slice_get l place ≡ Some x)
      go [] place h = absurd (omega arith)
      go (x ∷ xs) zero h = (x, refl)
      go (x ∷ xs) (suc place) h = go xs place (omega arith)

  copies_there : (count n : ℕ) (x : A) → 1 ≤ n → n ≤ count → numbered (copies count x) n ≡ Some x
  copies_there count zero x low high = absurd (omega arith)
  copies_there count (suc place) x low high = go count place (omega arith)
    where
      go : (count place : ℕ) → place < count → slice_get (copies count x) place ≡ Some x
      go zero place h = absurd (omega arith)
      go (suc count) zero h = refl
      go (suc count) (suc place) h = go count place (omega arith)

-- what is read of each element of a list of which one changed
module _ {A B : Type 0} (look : Option A → Option B) (l : List A) (n : ℕ) (f : A → A) where
  look_same : ((x : A) → look (Some (f x)) ≡ look (Some x)) → (j : ℕ)
      → look (numbered (renewed l n f) j) ≡ look (numbered l j)
  look_same same j = dite (ℕ_discrete j n)
      (λ e. ap (λ k. look (numbered (renewed l n f) k)) e ∙ (ap look (numbered_here l n f)
      ∙ (go (numbered l n) ∙ ap (λ k. look (numbered l k)) (sym e))))
      (λ apart. ap look (numbered_else l n j f apart))
    where
      go : (o : Option A) → look (option_map f o) ≡ look o
      go None = refl
      go (Some x) = same x

  look_put : (x : A) (b : B) → numbered l n ≡ Some x → look (Some (f x)) ≡ Some b
      → look (numbered (renewed l n f) n) ≡ Some b
  look_put x b at e = ap look (numbered_here l n f ∙ ap (option_map f) at) ∙ e

pub found : {A : Type 0} (part : A → Part) (o : Option A) (p : Part) → option_map part o ≡ Some p
    → (x : A) × (o ≡ Some x) × (part x ≡ p)
found part None p e = absurd (some_ne_none p (sym e))
found part (Some x) p e = (x, refl, some_injective (part x) p e)

pub found_box : (o : Option ClientState) (b : Mailbox) → mailbox_of o ≡ Some b
    → (c : ClientState) × (o ≡ Some c) × (c.mailbox ≡ b)
found_box None b e = absurd (some_ne_none b (sym e))
found_box (Some c) b e = (c, refl, some_injective c.mailbox b e)

module _ (cs : List ClientState) (ds : List DispatcherState) where
  client_here : (n : ℕ) (f : ClientState → ClientState) (g : Part → Part) (p : Part)
      → ((c : ClientState) → client_part (f c) ≡ g (client_part c)) → part_in cs ds (Client n) ≡ Some p
      → part_in (renewed cs n f) ds (Client n) ≡ Some (g p)
  client_here n f g p agree at = let c = found client_part (numbered cs n) p at in
      look_put (option_map client_part) cs n f c.0 (g p) c.1 (ap Some (agree c.0 ∙ ap g c.2))

  client_else : (n : ℕ) (f : ClientState → ClientState) (who : Who) → who ≢ Client n
      → part_in (renewed cs n f) ds who ≡ part_in cs ds who
  client_else n f (Client j) apart = ap (option_map client_part)
      (numbered_else cs n j f (λ e. apart (ap (λ k. Client k) e)))
  client_else n f (Dispatcher j) apart = refl

  client_same : (n : ℕ) (f : ClientState → ClientState) → ((c : ClientState) → client_part (f c) ≡ client_part c)
      → (who : Who) → part_in (renewed cs n f) ds who ≡ part_in cs ds who
  client_same n f same (Client j) = look_same (option_map client_part) cs n f (λ c. ap Some (same c)) j
  client_same n f same (Dispatcher j) = refl

  dispatcher_here : (n : ℕ) (f : DispatcherState → DispatcherState) (g : Part → Part) (p : Part)
      → ((d : DispatcherState) → dispatcher_part (f d) ≡ g (dispatcher_part d)) → part_in cs ds (Dispatcher n) ≡ Some p
      → part_in cs (renewed ds n f) (Dispatcher n) ≡ Some (g p)
  dispatcher_here n f g p agree at = let d = found dispatcher_part (numbered ds n) p at in
      look_put (option_map dispatcher_part) ds n f d.0 (g p) d.1 (ap Some (agree d.0 ∙ ap g d.2))

  dispatcher_else : (n : ℕ) (f : DispatcherState → DispatcherState) (who : Who) → who ≢ Dispatcher n
      → part_in cs (renewed ds n f) who ≡ part_in cs ds who
  dispatcher_else n f (Client j) apart = refl
  dispatcher_else n f (Dispatcher j) apart = ap (option_map dispatcher_part)
      (numbered_else ds n j f (λ e. apart (ap (λ k. Dispatcher k) e)))

-- an event is enabled, with this reply: then its actor has this part, all others theirs as before
pub record Stepped (w : World) (event : Event) (reply : EventReply) (me : Who) (p : Part) (holder : Option Who)
    (taker : Option ℕ) (log : List CommitRecord) : Type 0 where
  pub after : World
  pub is : step_of w event ≡ (after, reply)
  pub based : after.base ≡ w.base
  pub rows : after.rows ≡ holder
  pub writer : after.writer ≡ taker
  pub history : after.history ≡ log
  pub here : part_of after me ≡ Some p
  pub others : (who : Who) → who ≢ me → part_of after who ≡ part_of w who

-- and no mailbox changes
pub record PartStepped (w : World) (event : Event) (reply : EventReply) (me : Who) (p : Part) (holder : Option Who)
    (taker : Option ℕ) (log : List CommitRecord) : Type 0 where
  pub step : Stepped w event reply me p holder taker log
  pub mail : (n : ℕ) → mailbox_at step.after n ≡ mailbox_at w n

-- or this one does
pub record BoxStepped (w : World) (event : Event) (reply : EventReply) (me : Who) (p : Part) (number : ℕ)
    (box : Mailbox) :
    Type 0 where
  pub step : Stepped w event reply me p w.rows w.writer w.history
  pub box_is : mailbox_at step.after number ≡ Some box
  pub mail : (n : ℕ) → n ≢ number → mailbox_at step.after n ≡ mailbox_at w n

module _ (w : World) where
  known : (who : Who) (p : Part) → part_of w who ≡ Some p → is_known w who ≡ true
  known (Client n) p at = ap is_there (found client_part (numbered w.clients n) p at).1
  known (Dispatcher n) p at = ap is_there (found dispatcher_part (numbered w.dispatchers n) p at).1

  holding : (who : Who) → w.rows ≡ Some who → holds_rows w.rows who ≡ true
  holding who e = ap (λ r. holds_rows r who) e ∙ same_self who

  -- only what was seen, and who holds what, changes
  client_saw : (n : ℕ) (p : Part) (e : Event) (r : EventReply) (holder : Option Who)
      → step_of w e ≡ (with_client record w { rows = holder } n (λ c. record c { seen = w.history }), r)
      → part_of w (Client n) ≡ Some p
      → PartStepped w e r (Client n) record p { seen = w.history } holder w.writer w.history
  client_saw n p e r holder is at = let f : ClientState → ClientState = λ c. record c { seen = w.history } in record {
    step = record {
      after = with_client record w { rows = holder } n f;
      is = is;
      based = refl;
      rows = refl;
      writer = refl;
      history = refl;
      here = client_here w.clients w.dispatchers n f (λ q. record q { seen = w.history }) p (λ c. refl) at;
      others = client_else w.clients w.dispatchers n f;
    };
    mail = look_same mailbox_of w.clients n f (λ c. refl);
  }

  dispatcher_did : (n : ℕ) (p : Part) (e : Event) (r : EventReply) (holder : Option Who) (taker : Option ℕ)
      (f : DispatcherState → DispatcherState) (g : Part → Part)
      → step_of w e ≡ (with_dispatcher record w { rows = holder; writer = taker } n f, r)
      → ((d : DispatcherState) → dispatcher_part (f d) ≡ g (dispatcher_part d))
      → part_of w (Dispatcher n) ≡ Some p → PartStepped w e r (Dispatcher n) (g p) holder taker w.history
  dispatcher_did n p e r holder taker f g is agree at = record {
    step = record {
      after = with_dispatcher record w { rows = holder; writer = taker } n f;
      is = is;
      based = refl;
      rows = refl;
      writer = refl;
      history = refl;
      here = dispatcher_here w.clients w.dispatchers n f g p agree at;
      others = dispatcher_else w.clients w.dispatchers n f;
    };
    mail = λ j. refl;
  }

  pub takes_rows : (who : Who) (p : Part) → part_of w who ≡ Some p → w.rows ≡ None
      → PartStepped w (TakeRows who) Done who record p { seen = w.history } (Some who) w.writer w.history
  takes_rows (Client n) p at free = client_saw n p (TakeRows (Client n)) Done (Some (Client n))
      (λ i. taking_rows w (Client n) (known (Client n) p at i) (free i)) at
  takes_rows (Dispatcher n) p at free = dispatcher_did n p (TakeRows (Dispatcher n)) Done (Some (Dispatcher n)) w.writer
      (λ d. record d { seen = w.history }) (λ q. record q { seen = w.history })
      (λ i. taking_rows w (Dispatcher n) (known (Dispatcher n) p at i) (free i)) (λ d. refl) at

  pub looks : (who : Who) (p : Part) → part_of w who ≡ Some p
      → PartStepped w (Look who) (Length (length w.history)) who record p { seen = w.history } w.rows w.writer w.history
  looks (Client n) p at = client_saw n p (Look (Client n)) (Length (length w.history)) w.rows
      (λ i. looking w (Client n) (known (Client n) p at i)) at
  looks (Dispatcher n) p at = dispatcher_did n p (Look (Dispatcher n)) (Length (length w.history)) w.rows w.writer
      (λ d. record d { seen = w.history }) (λ q. record q { seen = w.history })
      (λ i. looking w (Dispatcher n) (known (Dispatcher n) p at i)) (λ d. refl) at

  pub puts_back : (who : Who) (p : Part) → part_of w who ≡ Some p → w.rows ≡ Some who
      → PartStepped w (PutRows who None) Done who
      record p { seen = w.history; mark = mark_after who (length w.history) p.mark } None w.writer w.history
  puts_back (Client n) p at held = client_saw n p (PutRows (Client n) None) Done None
      (λ i. putting_rows w (Client n) None (known (Client n) p at i) (holding (Client n) held i)) at
  puts_back (Dispatcher n) p at held = dispatcher_did n p (PutRows (Dispatcher n) None) Done None w.writer
      (λ d. record d { seen = w.history; mark = Some (length w.history) })
      (λ q. record q { seen = w.history; mark = Some (length w.history) })
      (λ i. putting_rows w (Dispatcher n) None (known (Dispatcher n) p at i) (holding (Dispatcher n) held i)) (λ d. refl) at

  pub puts_commit : (n : ℕ) (actions : List Action) (p : Part) → part_of w (Client n) ≡ Some p → w.rows ≡ Some (Client n)
      → refusal_of w.base w.history actions ≡ None
      → PartStepped w (PutRows (Client n) (Some actions)) (Committed (length w.history + 1)) (Client n)
      record p { seen = w.history ++ commit_by n actions ∷ []; mine = p.mine ++ commit_by n actions ∷ [] } None w.writer
      (w.history ++ commit_by n actions ∷ [])
  puts_commit n actions p at held accepted = let commit : CommitRecord = commit_by n actions in
      let now : List CommitRecord = w.history ++ commit ∷ [] in
      let f : ClientState → ClientState = λ c. record c { seen = now; mine = c.mine ++ commit ∷ [] } in record {
        step = record {
          after = with_client record w { history = now; rows = None } n f;
          is = (λ i. putting_rows w (Client n) (Some actions) (known (Client n) p at i) (holding (Client n) held i))
              ∙ λ i. committing w n actions (accepted i);
          based = refl;
          rows = refl;
          writer = refl;
          history = refl;
          here = client_here w.clients w.dispatchers n f
              (λ q. record q { seen = now; mine = q.mine ++ commit ∷ [] }) p (λ c. refl) at;
          others = client_else w.clients w.dispatchers n f;
        };
        mail = look_same mailbox_of w.clients n f (λ c. refl);
      }

  pub takes_writer : (n : ℕ) (p : Part) → part_of w (Dispatcher n) ≡ Some p → w.writer ≡ None
      → PartStepped w (TakeWriter n) Done (Dispatcher n) record p { mark = None; version = None } w.rows (Some n) w.history
  takes_writer n p at free = dispatcher_did n p (TakeWriter n) Done w.rows (Some n) unmarked
      (λ q. record q { mark = None; version = None }) (λ i. taking_writer w n (known (Dispatcher n) p at i) (free i))
      (λ d. refl) at

  pub puts_writer : (n : ℕ) (p : Part) → part_of w (Dispatcher n) ≡ Some p → w.writer ≡ Some n
      → PartStepped w (PutWriter n) Done (Dispatcher n) record p { version = p.mark } w.rows None w.history
  puts_writer n p at held = let self : (n == n) ≡ true = grind (arith, nat_tests) in
      let holds : holds_writer w.writer n ≡ true = ap (λ r. holds_writer r n) held ∙ self in
      dispatcher_did n p (PutWriter n) Done w.rows None (λ d. record d { version = d.mark })
      (λ q. record q { version = q.mark }) (λ i. putting_writer w n (known (Dispatcher n) p at i) (holds i)) (λ d. refl) at

  -- a client's mailbox changes
  client_box : (n : ℕ) (p : Part) (e : Event) (r : EventReply) (f : ClientState → ClientState) (old box : Mailbox)
      → step_of w e ≡ (with_client w n f, r) → ((c : ClientState) → client_part (f c) ≡ client_part c)
      → ((c : ClientState) → numbered w.clients n ≡ Some c → (f c).mailbox ≡ box)
      → mailbox_at w n ≡ Some old → part_of w (Client n) ≡ Some p → BoxStepped w e r (Client n) p n box
  client_box n p e r f old box is same new was at = let c = found_box (numbered w.clients n) old was in record {
    step = record {
      after = with_client w n f;
      is = is;
      based = refl;
      rows = refl;
      writer = refl;
      history = refl;
      here = client_same w.clients w.dispatchers n f same (Client n) ∙ at;
      others = λ who apart. client_same w.clients w.dispatchers n f same who;
    };
    box_is = look_put mailbox_of w.clients n f c.0 box c.1 (ap Some (new c.0 c.1));
    mail = λ j apart. ap mailbox_of (numbered_else w.clients n j f apart);
  }

  pub posts : (n : ℕ) (questions : Questions) (p : Part) → part_of w (Client n) ≡ Some p → mailbox_at w n ≡ Some empty
      → BoxStepped w (Post n questions) Done (Client n) p n (asked questions (length p.seen))
  posts n questions p at vacant = let c = found client_part (numbered w.clients n) p at in
      client_box n p (Post n questions) Done (λ c. record c { mailbox = asked questions (length c.seen) }) empty
      (asked questions (length p.seen)) (λ i. posting w n questions (vacant i)) (λ c. refl)
      (λ d there. let same : c.0 ≡ d = some_injective c.0 d (sym c.1 ∙ there) in
      ap (λ s. asked questions (length s)) (ap (λ (x : ClientState). x.seen) (sym same)
      ∙ ap (λ (q : Part). q.seen) c.2)) vacant at

  pub collects : (n : ℕ) (questions : Questions) (number : ℕ) (rows : List (List ResultRow)) (p : Part)
      → part_of w (Client n) ≡ Some p → mailbox_at w n ≡ Some (answered questions number rows)
      → BoxStepped w (Collect n) (Rows questions number rows) (Client n) p n empty
  collects n questions number rows p at hand = client_box n p (Collect n) (Rows questions number rows)
      (λ c. record c { mailbox = empty }) (answered questions number rows) empty (λ i. collecting w n (hand i)) (λ c. refl)
      (λ c there. refl) hand at

  pub collects_none : (n : ℕ) (questions : Questions) (cause : Cause) (p : Part)
      → part_of w (Client n) ≡ Some p → mailbox_at w n ≡ Some (unserved questions cause)
      → BoxStepped w (Collect n) (Unserved questions cause) (Client n) p n empty
  collects_none n questions cause p at hand = client_box n p (Collect n) (Unserved questions cause)
      (λ c. record c { mailbox = empty }) (unserved questions cause) empty (λ i. collecting w n (hand i)) (λ c. refl)
      (λ c there. refl) hand at

  -- a dispatcher's part changes, and a client's mailbox
  dispatcher_box : (n client : ℕ) (p : Part) (e : Event) (r : EventReply) (f : DispatcherState → DispatcherState)
      (g : Part → Part) (old box : Mailbox) → step_of w e ≡ (with_dispatcher (into_mailbox w client box) n f, r)
      → ((d : DispatcherState) → dispatcher_part (f d) ≡ g (dispatcher_part d))
      → mailbox_at w client ≡ Some old → part_of w (Dispatcher n) ≡ Some p
      → BoxStepped w e r (Dispatcher n) (g p) client box
  dispatcher_box n client p e r f g old box is agree was at = let h : ClientState → ClientState =
      λ c. record c { mailbox = box } in let c = found_box (numbered w.clients client) old was in record {
        step = record {
          after = with_dispatcher (into_mailbox w client box) n f;
          is = is;
          based = refl;
          rows = refl;
          writer = refl;
          history = refl;
          here = dispatcher_here w.clients w.dispatchers n f g p agree at;
          others = λ who apart. dispatcher_else (renewed w.clients client h) w.dispatchers n f who apart
              ∙ client_same w.clients w.dispatchers client h (λ c. refl) who;
        };
        box_is = look_put mailbox_of w.clients client h c.0 box c.1 refl;
        mail = λ j apart. ap mailbox_of (numbered_else w.clients client j h apart);
      }

  pub grabs : (n client : ℕ) (questions : Questions) (floor : ℕ) (p : Part) → part_of w (Dispatcher n) ≡ Some p
      → mailbox_at w client ≡ Some (asked questions floor)
      → BoxStepped w (Grab n client) (Asks questions) (Dispatcher n) record p { mark = None; version = None } client
      (in_hand n questions floor)
  grabs n client questions floor p at is_asked = dispatcher_box n client p (Grab n client) (Asks questions) unmarked
      (λ q. record q { mark = None; version = None }) (asked questions floor) (in_hand n questions floor)
      (λ i. grabbing w n client (known (Dispatcher n) p at i) (is_asked i)) (λ d. refl) is_asked at

  pub answers : (n client : ℕ) (questions : Questions) (floor number : ℕ) (p : Part) → part_of w (Dispatcher n) ≡ Some p
      → p.version ≡ Some number → mailbox_at w client ≡ Some (in_hand n questions floor)
      → BoxStepped w (Answer n client) Done (Dispatcher n)
      record p { given = p.given ++ record { client = client; floor = floor; outcome = Served number } ∷ [] } client
      (answered questions number (all_rows_after w.base questions (take number w.history)))
  answers n client questions floor number p at version hand = let self : (n == n) ≡ true = grind (arith, nat_tests) in
      let box : Mailbox = answered questions number (all_rows_after w.base questions (take number w.history)) in
      let next : World × EventReply =
      (with_dispatcher (into_mailbox w client box) n (gave client floor (Served number)), Done) in
      let d = found dispatcher_part (numbered w.dispatchers n) p at in
      let versions : version_of (numbered w.dispatchers n) ≡ Some number =
      ap version_of d.1 ∙ (ap (λ (q : Part). q.version) d.2 ∙ version) in
      dispatcher_box n client p (Answer n client) Done (gave client floor (Served number))
      (λ q. record q { given = q.given ++ record { client = client; floor = floor; outcome = Served number } ∷ [] })
      (in_hand n questions floor) box
      ((λ i. answering w n client (versions i) (hand i)) ∙ ap (λ (b : Bool). if b then next else (w, NotEnabled)) self)
      (λ d. refl) hand at

  pub gives_up : (n client : ℕ) (questions : Questions) (floor : ℕ) (cause : Cause) (p : Part)
      → part_of w (Dispatcher n) ≡ Some p → mailbox_at w client ≡ Some (in_hand n questions floor)
      → BoxStepped w (GiveUp n client cause) Done (Dispatcher n)
      record p { given = p.given ++ record { client = client; floor = floor; outcome = GivenUp cause } ∷ [] } client
      (unserved questions cause)
  gives_up n client questions floor cause p at hand = let self : (n == n) ≡ true = grind (arith, nat_tests) in
      let box : Mailbox = unserved questions cause in let next : World × EventReply =
      (with_dispatcher (into_mailbox w client box) n (gave client floor (GivenUp cause)), Done) in
      dispatcher_box n client p (GiveUp n client cause) Done (gave client floor (GivenUp cause))
      (λ q. record q { given = q.given ++ record { client = client; floor = floor; outcome = GivenUp cause } ∷ [] })
      (in_hand n questions floor) box
      ((λ i. giving_up w n client cause (known (Dispatcher n) p at i) (hand i))
      ∙ ap (λ (b : Bool). if b then next else (w, NotEnabled)) self) (λ d. refl) hand at

-- at the opening each has a part with nothing in it, and each client an empty mailbox
abbrev pub newly : Part
newly = record { seen = []; mine = []; mark = None; version = None; given = [] }

module _ (base : Tables) (clients dispatchers : ℕ) where
  pub client_opens : (n : ℕ) → 1 ≤ n → n ≤ clients
      → part_of (opening_world base clients dispatchers) (Client n) ≡ Some newly
  client_opens n low high = ap (option_map client_part) (copies_there clients n _ low high)

  pub dispatcher_opens : (n : ℕ) → 1 ≤ n → n ≤ dispatchers
      → part_of (opening_world base clients dispatchers) (Dispatcher n) ≡ Some newly
  dispatcher_opens n low high = ap (option_map dispatcher_part) (copies_there dispatchers n _ low high)

  pub box_opens : (n : ℕ) → 1 ≤ n → n ≤ clients
      → mailbox_at (opening_world base clients dispatchers) n ≡ Some empty
  box_opens n low high = ap mailbox_of (copies_there clients n _ low high)
