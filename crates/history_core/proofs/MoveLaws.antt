-- Each event takes what is known of a run one event further.
use Rattle.std.proofs.Common.{◌≡◌, ◌≢◌, ℕ, ◌+◌, ◌≤◌, ◌==◌, Bool, true, false}
use Rattle.std.proofs.Common.{List, [], ◌∷◌, ◌++◌, length, take, Option, Some, None, refl, ap, sym}
use Rattle.std.proofs.Common.{subst, ◌∙◌, inl, arith, append_assoc}
use Rattle.std.proofs.lemmas.List.{append-nil}
use Rattle.std.proofs.Math.Seq.{take-append_seam}
use Rattle.std.proofs.lemmas.Bool.Decides.{nat_tests}
use Rattle.std.specs.Prelude.{slice_get}
use Rattle.ssb_schema.specs.declared.refresh.Action.{Action}
use Rattle.ssb_base.specs.Base.{Tables}
use Rattle.ssb_answers.specs.declared.answer.Unserved.{Unserved as Cause}
use Rattle.row_store.specs.History.{CommitRecord}
use Rattle.row_store.specs.Refusals.{refusal_of}
use Rattle.row_store.specs.declared.refusal.Refusal.{Refusal}
use Rattle.row_store.proofs.HistoryLaws.{accepted_stays_legal}
use Rattle.history_core.specs.declared.dispatcher.Outcome.TheVariants.{Served, GivenUp}
use Rattle.history_core.specs.declared.event.Who.{Who}
use Rattle.history_core.specs.declared.event.Who.TheVariants.{Client, Dispatcher}
use Rattle.history_core.specs.declared.event.EventReply.{EventReply}
use Rattle.history_core.specs.declared.event.EventReply.TheVariants.{NotEnabled, Done, Committed, Refused}
use Rattle.history_core.specs.declared.event.EventReply.TheVariants.{Length, Asked as Asks, Rows, Unserved}
use Rattle.history_core.specs.Events.{Questions, Event, TakeRows, PutRows, Look, Post, Grab}
use Rattle.history_core.specs.Events.{TakeWriter, PutWriter, Answer, GiveUp, Collect}
use Rattle.history_core.specs.Numbered.{numbered, renewed}
use Rattle.history_core.specs.World.{World, ClientState, DispatcherState, Mailbox, empty, asked, in_hand, answered}
use Rattle.history_core.specs.World.{unserved, commit_by, all_rows_after, is_known}
use Rattle.history_core.specs.World.{holds_rows, holds_writer, mailbox_of, version_of, unmarked, gave, taking_rows}
use Rattle.history_core.specs.World.{committing, putting_rows, looking, posting, grabbing, taking_writer}
use Rattle.history_core.specs.World.{putting_writer, answering, giving_up, collecting, step_of, run_of, opening_world}
use Rattle.history_core.specs.TrueRun.{is_committed, commits_before, IsOfRequest, IsTrueReply, IsTrueRun}
use Rattle.history_core.specs.Runs.{EveryRunIsTrue}
use Rattle.history_core.proofs.HistoryLaws.{some_injective, some_ne_none, at_last}
use Rattle.history_core.proofs.HistoryLaws.{each_renewed, numbered_copies, unmarked_none}
use Rattle.history_core.specs.Kept.{Marks, WorldKept}
use Rattle.history_core.proofs.KeepingLaws.{Later, sees_later, unmarks_later, marks_later, versions_later, gives_later}
use Rattle.history_core.proofs.KeepingLaws.{version_marks, mail_kept, step_kept, opening_kept, every_world}
use Rattle.history_core.proofs.TraceLaws.{MailTraced, Traced, before_front, outstanding_on}
use Rattle.history_core.proofs.TraceLaws.{outstanding_grabbed, posted_now, run_on, run_same, mail_on}

module _ (base : Tables) (clients : ℕ) (es : List Event) (rs : List EventReply) (w : World)
    (kept : WorldKept base clients w) (k : Traced es rs w) where
  abbrev pub Next : Event → World × EventReply → Type 0
  Next e next = Traced (es ++ e ∷ []) (rs ++ next.1 ∷ []) next.0

  even : length rs ≡ length es
  even = k.run.replied

  high_marks : (number mark : ℕ) → Marks w.dispatchers number mark → mark ≤ length w.history
  high_marks number mark has = (kept.dispatcher number has.0 has.1).marks mark has.2

  moved : (e : Event) (r : EventReply) (rows : Option Who) (writer : Option ℕ) (number : ℕ)
      (f : ClientState → ClientState) (ds : List DispatcherState)
      → is_committed r ≡ false
      → IsTrueReply w.base es rs w.history (length rs) e r
      → Later w ds
      → ((c : ℕ) → c ≢ number → IsOfRequest c e r → ⊥)
      → ((c : ClientState) → numbered w.clients number ≡ Some c
      → MailTraced (es ++ e ∷ []) (rs ++ r ∷ []) ds number (f c).mailbox)
      → Traced (es ++ e ∷ []) (rs ++ r ∷ []) record {
        base = w.base;
        history = w.history;
        rows = rows;
        writer = writer;
        clients = renewed w.clients number f;
        dispatchers = ds;
      }
  moved e r rows writer number f ds quiet new later apart here = record {
    run = run_same w.base es rs w.history e r k.run quiet new;
    mail =
        each_renewed (λ n (c : ClientState). MailTraced es rs w.dispatchers n c.mailbox)
        (λ n (c : ClientState). MailTraced (es ++ e ∷ [])
        (rs ++ r ∷ []) ds n c.mailbox) w.clients number f k.mail
        (λ c at was. here c at) (λ j c other at was. mail_on es rs even e r w.history k.run.no_others w.dispatchers ds later j c.mailbox
        (apart j other) was);
  }

  -- nothing is done to a request
  quieted : (e : Event) (r : EventReply) (rows : Option Who) (writer : Option ℕ) (number : ℕ)
      (f : ClientState → ClientState) (ds : List DispatcherState)
      → is_committed r ≡ false
      → IsTrueReply w.base es rs w.history (length rs) e r
      → Later w ds
      → ((c : ClientState) → (f c).mailbox ≡ c.mailbox)
      → ((c : ℕ) → IsOfRequest c e r → ⊥)
      → Traced (es ++ e ∷ []) (rs ++ r ∷ []) record {
        base = w.base;
        history = w.history;
        rows = rows;
        writer = writer;
        clients = renewed w.clients number f;
        dispatchers = ds;
      }
  quieted e r rows writer number f ds quiet new later same apart =
      moved e r rows writer number f ds quiet new later (λ c other. apart c)
      (λ c at. subst (MailTraced (es ++ e ∷ []) (rs ++ r ∷ []) ds number) (sym (same c))
      (mail_on es rs even e r w.history k.run.no_others w.dispatchers ds later number c.mailbox (apart number)
      (k.mail number c at)))

  not_enabled : (e : Event) (c : ℕ) → IsOfRequest c e NotEnabled → ⊥
  not_enabled (TakeRows who) c h = h
  not_enabled (PutRows who refresh) c h = h
  not_enabled (Look who) c h = h
  not_enabled (Post client questions) c h = h
  not_enabled (Grab number client) c h = h
  not_enabled (TakeWriter number) c h = h
  not_enabled (PutWriter number) c h = h
  not_enabled (Answer number client) c h = h
  not_enabled (GiveUp number client cause) c h = h
  not_enabled (Collect client) c h = h

  still : (e : Event) → Next e (w, NotEnabled)
  still e =
      quieted e NotEnabled w.rows w.writer 0 (λ c. c) w.dispatchers refl tt (λ n m h. inl h) (λ c. refl)
      (not_enabled e)

  takes : (who : Who) (known : Bool) (holder : Option Who) → Next (TakeRows who) (taking_rows w who known holder)
  takes (Client n) true None =
      quieted (TakeRows (Client n)) Done (Some (Client n)) w.writer n
      (λ c. record c { seen = w.history }) w.dispatchers refl tt (λ _ _ h. inl h) (λ c. refl) (λ c h. h)
  takes (Dispatcher n) true None =
      quieted (TakeRows (Dispatcher n)) Done (Some (Dispatcher n)) w.writer 0 (λ c. c)
      (renewed w.dispatchers n (λ d. record d { seen = w.history })) refl tt (sees_later w n) (λ c. refl)
      (λ c h. h)
  takes who true (Some holder) = still (TakeRows who)
  takes who false holder = still (TakeRows who)

  committed : (number : ℕ) (actions : List Action) → refusal_of w.base w.history actions ≡ None
      → Next (PutRows (Client number) (Some actions)) (committing w number actions None)
  committed number actions accepted = let commit : CommitRecord = commit_by number actions in
      let e : Event = PutRows (Client number) (Some actions) in let r : EventReply = Committed (length w.history + 1) in
      let now : List CommitRecord = w.history ++ commit ∷ [] in
      let f : ClientState → ClientState = λ c. record c { seen = now; mine = c.mine ++ commit ∷ [] } in
      let here : commits_before (rs ++ r ∷ []) (length rs) ≡ length w.history =
      before_front es rs even e r (length rs) (omega arith) ∙ sym k.run.no_others in
      record {
        run =
            run_on w.base es rs w.history e r (commit ∷ []) k.run
            (accepted_stays_legal w.base w.history commit k.run.legal accepted) refl
            (ap (λ n. n + 1) (sym here), (number, actions, refl, ap (slice_get now) here ∙ at_last w.history commit));
        mail =
            each_renewed (λ n (c : ClientState). MailTraced es rs w.dispatchers n c.mailbox)
            (λ n (c : ClientState). MailTraced (es ++ e ∷ [])
            (rs ++ r ∷ []) w.dispatchers n c.mailbox) w.clients number f k.mail
            (λ c at was. mail_on es rs even e r w.history k.run.no_others w.dispatchers w.dispatchers (λ _ _ h. inl h) number c.mailbox
            (λ h. h) was)
            (λ j c other at was. mail_on es rs even e r w.history k.run.no_others w.dispatchers w.dispatchers (λ _ _ h. inl h) j c.mailbox (λ h. h) was);
      }

  commits : (number : ℕ) (actions : List Action) → (found : Option Refusal) → refusal_of w.base w.history actions ≡ found
      → Next (PutRows (Client number) (Some actions)) (committing w number actions found)
  commits number actions None e = committed number actions e
  commits number actions (Some refusal) e = let whole : take (length w.history) w.history ≡ w.history =
      ap (take (length w.history)) (sym (append-nil w.history)) ∙ take-append_seam w.history [] in
      quieted (PutRows (Client number) (Some actions))
      (Refused (length w.history) refusal.action refusal.cause) None w.writer number
      (λ c. record c { seen = w.history }) w.dispatchers refl
      (k.run.no_others, (number, actions, refl, ap (λ l. refusal_of w.base l actions) whole ∙ e)) (λ _ _ h. inl h)
      (λ c. refl) (λ c h. h)

  puts : (who : Who) (refresh : Option (List Action)) (known holds : Bool)
      → Next (PutRows who refresh) (putting_rows w who refresh known holds)
  puts (Client n) None true true =
      quieted (PutRows (Client n) None) Done None w.writer n (λ c. record c { seen = w.history }) w.dispatchers refl tt
      (λ _ _ h. inl h) (λ c. refl) (λ c h. h)
  puts (Client n) None true false = still (PutRows (Client n) None)
  puts (Client n) None false holds = still (PutRows (Client n) None)
  puts (Client n) (Some actions) true true = commits n actions (refusal_of w.base w.history actions) refl
  puts (Client n) (Some actions) true false = still (PutRows (Client n) (Some actions))
  puts (Client n) (Some actions) false holds = still (PutRows (Client n) (Some actions))
  puts (Dispatcher n) None true true =
      quieted (PutRows (Dispatcher n) None) Done None w.writer 0 (λ c. c)
      (renewed w.dispatchers n (λ d. record d { seen = w.history; mark = Some (length w.history) })) refl tt
      (marks_later w n)
      (λ c. refl) (λ c h. h)
  puts (Dispatcher n) None true false = still (PutRows (Dispatcher n) None)
  puts (Dispatcher n) None false holds = still (PutRows (Dispatcher n) None)
  puts (Dispatcher n) (Some actions) known holds = still (PutRows (Dispatcher n) (Some actions))

  looks : (who : Who) (known : Bool) → Next (Look who) (looking w who known)
  looks (Client n) true =
      quieted (Look (Client n)) (Length (length w.history)) w.rows w.writer n
      (λ c. record c { seen = w.history }) w.dispatchers refl k.run.no_others (λ _ _ h. inl h) (λ c. refl)
      (λ c h. h)
  looks (Dispatcher n) true =
      quieted (Look (Dispatcher n)) (Length (length w.history)) w.rows w.writer 0 (λ c. c)
      (renewed w.dispatchers n (λ d. record d { seen = w.history })) refl k.run.no_others (sees_later w n) (λ c. refl) (λ c h. h)
  looks who false = still (Look who)

  takes_writer : (n : ℕ) (known : Bool) (holder : Option ℕ) → Next (TakeWriter n) (taking_writer w n known holder)
  takes_writer n true None =
      quieted (TakeWriter n) Done w.rows (Some n) 0 (λ c. c) (renewed w.dispatchers n unmarked) refl tt
      (unmarks_later w n)
      (λ c. refl) (λ c h. h)
  takes_writer n true (Some holder) = still (TakeWriter n)
  takes_writer n false holder = still (TakeWriter n)

  puts_writer : (n : ℕ) (known holds : Bool) → Next (PutWriter n) (putting_writer w n known holds)
  puts_writer n true true =
      quieted (PutWriter n) Done w.rows None 0 (λ c. c)
      (renewed w.dispatchers n (λ d. record d { version = d.mark })) refl tt
      (versions_later w n)
      (λ c. refl) (λ c h. h)
  puts_writer n true false = still (PutWriter n)
  puts_writer n false holds = still (PutWriter n)

  -- what the client's mailbox tells
  told : (client : ℕ) (o : Option ClientState) (box : Mailbox) → numbered w.clients client ≡ o
      → mailbox_of o ≡ Some box → MailTraced es rs w.dispatchers client box
  told client None box at e = grind (arith, some_ne_none)
  told client (Some c) box at e = grind (arith, some_injective)

  apart_from : (client c : ℕ) → c ≢ client → client ≡ c → ⊥
  apart_from client c other same = other (sym same)

  posts : (client : ℕ) (questions : Questions) (o : Option Mailbox) → mailbox_of (numbered w.clients client) ≡ o
      → Next (Post client questions) (posting w client questions o)
  posts client questions (Some empty) is =
      moved (Post client questions) Done w.rows w.writer client
      (λ c. record c { mailbox = asked questions (length c.seen) }) w.dispatchers refl tt (λ _ _ h. inl h)
      (apart_from client)
      (λ c at. posted_now es rs even (Post client questions) Done client questions refl refl)
  posts client questions (Some (asked q floor)) is = still (Post client questions)
  posts client questions (Some (in_hand d q floor)) is = still (Post client questions)
  posts client questions (Some (answered q at rows)) is = still (Post client questions)
  posts client questions (Some (unserved q cause)) is = still (Post client questions)
  posts client questions None is = still (Post client questions)

  grabs : (n client : ℕ) (known : Bool) (o : Option Mailbox) → mailbox_of (numbered w.clients client) ≡ o
      → Next (Grab n client) (grabbing w n client known o)
  grabs n client true (Some (asked questions floor)) is =
      moved (Grab n client) (Asks questions) w.rows w.writer client
      (λ c. record c { mailbox = in_hand n questions floor }) (renewed w.dispatchers n unmarked) refl tt
      (unmarks_later w n)
      (apart_from client)
      (λ c at. (
        outstanding_grabbed es rs even (Grab n client) (Asks questions) client n questions refl refl
            (told client (numbered w.clients client) (asked questions floor) refl is),
        λ mark has. absurd (unmarked_none w.dispatchers n mark has),
      ))
  grabs n client true (Some empty) is = still (Grab n client)
  grabs n client true (Some (in_hand d q floor)) is = still (Grab n client)
  grabs n client true (Some (answered q at rows)) is = still (Grab n client)
  grabs n client true (Some (unserved q cause)) is = still (Grab n client)
  grabs n client true None is = still (Grab n client)
  grabs n client false o is = still (Grab n client)

  answers : (n client : ℕ) (version : Option ℕ) (o : Option Mailbox) → version_of (numbered w.dispatchers n) ≡ version
      → mailbox_of (numbered w.clients client) ≡ o → Next (Answer n client) (answering w n client version o)
  answers n client (Some at) (Some (in_hand holder questions floor)) marked is = go (holder == n) refl
    where
      go : (b : Bool) → (holder == n) ≡ b
          → Next (Answer n client) (answering w n client (Some at) (Some (in_hand holder questions floor)))
      go true same = let mine : holder ≡ n = grind (arith, nat_tests) in
          let t = told client (numbered w.clients client) (in_hand holder questions floor) refl is in
          let has = version_marks w n at (numbered w.dispatchers n) refl marked in
          let low = t.1 at (subst (λ i. Marks w.dispatchers i at) (sym mine) has) in
          let high = high_marks n at has in let early = t.0.grabbed_before in
          let front = before_front es rs even (Answer n client) Done t.0.grabbed (omega arith) in
          rw same
          (moved (Answer n client) Done w.rows w.writer client
          (λ c. record c { mailbox = answered questions at (all_rows_after w.base questions (take at w.history)) })
          (renewed w.dispatchers n (gave client floor (Served at))) refl tt
          (gives_later w n client floor (Served at)) (λ c other h. h)
          (λ c there. (
            outstanding_on es rs even (Answer n client) Done client questions (λ h. h) t.0,
            omega arith,
          )))
      go false apart = rw apart (still (Answer n client))
  answers n client (Some at) (Some empty) marked is = still (Answer n client)
  answers n client (Some at) (Some (asked q floor)) marked is = still (Answer n client)
  answers n client (Some at) (Some (answered q a rows)) marked is = still (Answer n client)
  answers n client (Some at) (Some (unserved q cause)) marked is = still (Answer n client)
  answers n client (Some at) None marked is = still (Answer n client)
  answers n client None o marked is = still (Answer n client)

  gives_up : (n client : ℕ) (cause : Cause) (known : Bool) (o : Option Mailbox)
      → mailbox_of (numbered w.clients client) ≡ o → Next (GiveUp n client cause) (giving_up w n client cause known o)
  gives_up n client cause true (Some (in_hand holder questions floor)) is = go (holder == n) refl
    where
      go : (b : Bool) → (holder == n) ≡ b
          → Next (GiveUp n client cause) (giving_up w n client cause true (Some (in_hand holder questions floor)))
      go true same = let t = told client (numbered w.clients client) (in_hand holder questions floor) refl is in
          rw same
          (moved (GiveUp n client cause) Done w.rows w.writer client
          (λ c. record c { mailbox = unserved questions cause })
          (renewed w.dispatchers n (gave client floor (GivenUp cause))) refl tt
          (gives_later w n client floor (GivenUp cause)) (λ c other h. h)
          (λ c there. outstanding_on es rs even (GiveUp n client cause) Done client questions (λ h. h) t.0))
      go false apart = rw apart (still (GiveUp n client cause))
  gives_up n client cause true (Some empty) is = still (GiveUp n client cause)
  gives_up n client cause true (Some (asked q floor)) is = still (GiveUp n client cause)
  gives_up n client cause true (Some (answered q a rows)) is = still (GiveUp n client cause)
  gives_up n client cause true (Some (unserved q other)) is = still (GiveUp n client cause)
  gives_up n client cause true None is = still (GiveUp n client cause)
  gives_up n client cause false o is = still (GiveUp n client cause)

  collects : (client : ℕ) (o : Option Mailbox) → mailbox_of (numbered w.clients client) ≡ o
      → Next (Collect client) (collecting w client o)
  collects client (Some (answered questions at rows)) is =
      let t = told client (numbered w.clients client) (answered questions at rows) refl is in
      let right = mail_kept base clients w kept client (numbered w.clients client) (answered questions at rows) refl is in
      let counted = k.run.no_others in let high = right.0 in
      moved (Collect client) (Rows questions at rows) w.rows w.writer client
      (λ c. record c { mailbox = empty }) w.dispatchers refl (client, refl, t.0, t.1, omega arith, right.1)
      (λ _ _ h. inl h) (apart_from client) (λ c there. tt)
  collects client (Some (unserved questions cause)) is =
      let t = told client (numbered w.clients client) (unserved questions cause) refl is in
      moved (Collect client) (Unserved questions cause) w.rows w.writer client
      (λ c. record c { mailbox = empty }) w.dispatchers refl (client, refl, t) (λ _ _ h. inl h)
      (apart_from client) (λ c there. tt)
  collects client (Some empty) is = still (Collect client)
  collects client (Some (asked q floor)) is = still (Collect client)
  collects client (Some (in_hand d q floor)) is = still (Collect client)
  collects client None is = still (Collect client)

  pub step_traced : (e : Event) → Next e (step_of w e)
  step_traced (TakeRows who) = takes who (is_known w who) w.rows
  step_traced (PutRows who refresh) = puts who refresh (is_known w who) (holds_rows w.rows who)
  step_traced (Look who) = looks who (is_known w who)
  step_traced (Post client questions) = posts client questions (mailbox_of (numbered w.clients client)) refl
  step_traced (Grab n client) = grabs n client (is_known w (Dispatcher n)) (mailbox_of (numbered w.clients client)) refl
  step_traced (TakeWriter n) = takes_writer n (is_known w (Dispatcher n)) w.writer
  step_traced (PutWriter n) = puts_writer n (is_known w (Dispatcher n)) (holds_writer w.writer n)
  step_traced (Answer n client) =
      answers n client (version_of (numbered w.dispatchers n)) (mailbox_of (numbered w.clients client)) refl refl
  step_traced (GiveUp n client cause) =
      gives_up n client cause (is_known w (Dispatcher n)) (mailbox_of (numbered w.clients client)) refl
  step_traced (Collect client) = collects client (mailbox_of (numbered w.clients client)) refl

-- and so does any list of events
pub run_traced : (base : Tables) (clients : ℕ) (events : List Event) (es : List Event) (rs : List EventReply)
    (w : World)
    → WorldKept base clients w → Traced es rs w → Traced (es ++ events) (rs ++ (run_of w events).0) (run_of w events).1
run_traced base clients [] es rs w kept k =
    subst (λ (l : List Event × List EventReply). Traced l.0 l.1 w)
    (λ i. (sym (append-nil es) i, sym (append-nil rs) i)) k
run_traced base clients (e ∷ events) es rs w kept k = let next = step_of w e in
    subst (λ (l : List Event × List EventReply). Traced l.0 l.1 (run_of w (e ∷ events)).1)
    (λ i. (append_assoc es (e ∷ []) events i, append_assoc rs (next.1 ∷ []) (run_of next.0 events).0 i))
    (run_traced base clients events (es ++ e ∷ []) (rs ++ next.1 ∷ []) next.0 (step_kept base clients w kept e)
    (step_traced base clients es rs w kept k e))

opening_traced : (base : Tables) (clients dispatchers : ℕ) → Traced [] [] (opening_world base clients dispatchers)
opening_traced base clients dispatchers = grind (arith, some_ne_none, numbered_copies)

pub every_run : EveryRunIsTrue
every_run base clients dispatchers events =
    let last : World = (run_of (opening_world base clients dispatchers) events).1 in
    let replies : List EventReply = (run_of (opening_world base clients dispatchers) events).0 in
    let kept : WorldKept base clients last = every_world base clients dispatchers events in
    let k : Traced events replies last =
    run_traced base clients events [] [] (opening_world base clients dispatchers)
    (opening_kept base clients dispatchers) (opening_traced base clients dispatchers) in
    (subst (λ b. IsTrueRun b events replies last.history) kept.based k.run, kept.own)
