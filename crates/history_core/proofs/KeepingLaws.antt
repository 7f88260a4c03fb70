-- Each event keeps what every world keeps.
use Rattle.std.proofs.Common.{◌≡◌, ◌⊎◌, ℕ, zero, suc, ◌+◌, ◌≤◌, ◌==◌, Bool, true, false, List}
use Rattle.std.proofs.Common.{[], ◌∷◌, ◌++◌, length, take, Option, Some, None, refl, ap, sym}
use Rattle.std.proofs.Common.{subst, ◌∙◌, inl, inr, ⊎_elim, arith, length-append}
use Rattle.std.proofs.lemmas.List.{take-append-le}
use Rattle.std.proofs.lemmas.List.Elements.{All-append}
use Rattle.std.proofs.lemmas.Bool.Decides.{nat_tests}
use Rattle.std.specs.Prelude.{All}
use Rattle.ssb_schema.specs.declared.refresh.Action.{Action}
use Rattle.ssb_base.specs.Base.{Tables}
use Rattle.ssb_answers.specs.declared.answer.Unserved.{Unserved as Cause}
use Rattle.row_store.specs.History.{CommitRecord}
use Rattle.row_store.specs.Refusals.{refusal_of}
use Rattle.row_store.specs.declared.refusal.Refusal.{Refusal}
use Rattle.row_store.proofs.HistoryLaws.{accepted_stays_legal}
use Rattle.row_store.proofs.PrefixLaws.{begins_with_itself, prefix_longer}
use Rattle.history_core.specs.declared.dispatcher.Given.{Given}
use Rattle.history_core.specs.declared.dispatcher.Outcome.{Outcome}
use Rattle.history_core.specs.declared.dispatcher.Outcome.TheVariants.{Served, GivenUp}
use Rattle.history_core.specs.declared.event.Who.{Who}
use Rattle.history_core.specs.declared.event.Who.TheVariants.{Client, Dispatcher}
use Rattle.history_core.specs.Events.{Questions, Event, TakeRows, PutRows, Look, Post, Grab}
use Rattle.history_core.specs.Events.{TakeWriter, PutWriter, Answer, GiveUp, Collect}
use Rattle.history_core.specs.Numbered.{numbered, renewed, is_there}
use Rattle.history_core.specs.World.{World, ClientState, DispatcherState, Mailbox, empty, asked, in_hand, answered}
use Rattle.history_core.specs.World.{unserved, commit_by, all_rows_after, is_known}
use Rattle.history_core.specs.World.{mailbox_of, version_of, unmarked, gave, taking_rows}
use Rattle.history_core.specs.World.{committing, putting_rows, looking, posting, grabbing, taking_writer}
use Rattle.history_core.specs.World.{putting_writer, answering, giving_up, collecting, step_of, run_of, opening_world}
use Rattle.history_core.specs.OwnCommits.{commits_of}
use Rattle.history_core.specs.Kept.{Marks, MailKept, OutcomeKept, GivenKept, ClientKept}
use Rattle.history_core.specs.Kept.{DispatcherKept, WorldKept, EachEventKeeps, EveryWorldKeeps}
use Rattle.history_core.proofs.HistoryLaws.{some_injective, some_ne_none, each_renewed, length-renewed}
use Rattle.history_core.proofs.HistoryLaws.{named_push, own_push, others_push, length-copies, numbered_copies}
use Rattle.history_core.proofs.HistoryLaws.{marks_renewed, unmarked_none, known_range}

all_kept : {A : Type 0} (P Q : A → Type 0) → ((a : A) → P a → Q a) → (l : List A) → All P l → All Q l
all_kept P Q so l all k d low = so _ (all k d low)

all_one : {A : Type 0} (P : A → Type 0) (x : A) → P x → All P (x ∷ [])
all_one P x is zero d low = is
all_one P x is (suc k) d low = absurd (omega arith)

all_none : {A : Type 0} (P : A → Type 0) → All P []
all_none P k d low = absurd (omega arith)

-- what marks there are after a change: those that were, and the whole length
module _ (w : World) where
  abbrev pub Later : List DispatcherState → Type 0
  Later after =
      (number mark : ℕ) → Marks after number mark → (Marks w.dispatchers number mark) ⊎ (mark ≡ length w.history)

  pub sees_later : (n : ℕ) → Later (renewed w.dispatchers n (λ d. record d { seen = w.history }))
  sees_later n =
      marks_renewed w.dispatchers n (λ d. record d { seen = w.history }) (length w.history) (λ x m has. inl has)

  pub unmarks_later : (n : ℕ) → Later (renewed w.dispatchers n unmarked)
  unmarks_later n =
      marks_renewed w.dispatchers n unmarked (length w.history)
      (λ x m has. ⊎_elim (λ (e : None ≡ Some m). absurd (cc e)) (λ (e : None ≡ Some m). absurd (cc e)) has)

  pub marks_later : (n : ℕ)
      → Later (renewed w.dispatchers n (λ d. record d { seen = w.history; mark = Some (length w.history) }))
  marks_later n =
      marks_renewed w.dispatchers n (λ d. record d { seen = w.history; mark = Some (length w.history) })
      (length w.history)
      (λ x m has. ⊎_elim
      (λ (e : Some (length w.history) ≡ Some m). let same : length w.history ≡ m = cc e in inr (sym same))
      (λ (e : x.version ≡ Some m). inl (inr e)) has)

  pub versions_later : (n : ℕ) → Later (renewed w.dispatchers n (λ d. record d { version = d.mark }))
  versions_later n =
      marks_renewed w.dispatchers n (λ d. record d { version = d.mark }) (length w.history)
      (λ x m has. ⊎_elim (λ (e : x.mark ≡ Some m). inl (inl e)) (λ (e : x.mark ≡ Some m). inl (inl e)) has)

  pub gives_later : (n client floor : ℕ) (outcome : Outcome)
      → Later (renewed w.dispatchers n (gave client floor outcome))
  gives_later n client floor outcome =
      marks_renewed w.dispatchers n (gave client floor outcome) (length w.history) (λ x m has. inl has)

  pub version_marks : (n at : ℕ) (o : Option DispatcherState) → numbered w.dispatchers n ≡ o → version_of o ≡ Some at
      → Marks w.dispatchers n at
  version_marks n at None there e = absurd (cc e)
  version_marks n at (Some d) there e = (d, there, inr e)

module _ (base : Tables) (clients : ℕ) (w : World) (k : WorldKept base clients w) where
  mail_same : (after : List DispatcherState) → Later w after → (box : Mailbox)
      → MailKept w.base w.history w.dispatchers box → MailKept w.base w.history after box
  mail_same after later empty t = tt
  mail_same after later (asked q floor) t = t
  mail_same after later (in_hand holder q floor) t = (
    t.0,
    λ mark has. ⊎_elim (λ (was : Marks w.dispatchers holder mark). t.1 mark was)
        (λ (new : mark ≡ length w.history). let low = t.0 in omega arith) (later holder mark has),
  )
  mail_same after later (answered q at rows) t = t
  mail_same after later (unserved q cause) t = tt

  moved : (rows : Option Who) (writer : Option ℕ) (number : ℕ) (f : ClientState → ClientState) (holder : ℕ)
      (g : DispatcherState → DispatcherState) → Later w (renewed w.dispatchers holder g)
      → ((c : ClientState) → (f c).mine ≡ c.mine)
      → ((c : ClientState) → ((f c).seen ≡ c.seen) ⊎ ((f c).seen ≡ w.history))
      → ((c : ClientState) → numbered w.clients number ≡ Some c → ClientKept w.base w.history w.dispatchers c
      → ClientKept w.base w.history (renewed w.dispatchers holder g) (f c))
      → ((d : DispatcherState) → DispatcherKept w.history d → DispatcherKept w.history (g d))
      → WorldKept base clients record {
        base = w.base;
        history = w.history;
        rows = rows;
        writer = writer;
        clients = renewed w.clients number f;
        dispatchers = renewed w.dispatchers holder g;
      }
  moved rows writer number f holder g later mine sees here there = record {
    based = k.based;
    legal = k.legal;
    own = record {
      own =
          each_renewed (λ n (c : ClientState). c.mine ≡ commits_of n w.history)
          (λ n (c : ClientState). c.mine ≡ commits_of n w.history) w.clients number f k.own.own
          (λ c at was. mine c ∙ was) (λ j c other at was. was);
      named = k.own.named;
      count = length-renewed w.clients number f ∙ k.own.count;
    };
    seen_own =
        each_renewed (λ n (c : ClientState). numbered w.clients n ≡ Some c)
        (λ n (c : ClientState). c.mine ≡ commits_of n c.seen) w.clients number f (λ n c at. at)
        (λ c at _. mine c
        ∙ ⊎_elim (λ (same : (f c).seen ≡ c.seen). k.seen_own number c at ∙ ap (commits_of number) (sym same))
        (λ (all : (f c).seen ≡ w.history). k.own.own number c at ∙ ap (commits_of number) (sym all)) (sees c))
        (λ j c other at _. k.seen_own j c at);
    client =
        each_renewed (λ n. ClientKept w.base w.history w.dispatchers)
        (λ n. ClientKept w.base w.history (renewed w.dispatchers holder g)) w.clients number f k.client here
        (λ j c other at was. record {
          seen = was.seen;
          mail = mail_same (renewed w.dispatchers holder g) later c.mailbox was.mail;
        });
    dispatcher =
        each_renewed (λ n. DispatcherKept w.history)
        (λ n. DispatcherKept w.history) w.dispatchers holder g k.dispatcher (λ d at was. there d was)
        (λ j d other at was. was);
  }

  -- a client's part changes
  of_client : (rows : Option Who) (writer : Option ℕ) (number : ℕ) (f : ClientState → ClientState)
      → ((c : ClientState) → (f c).mine ≡ c.mine)
      → ((c : ClientState) → ((f c).seen ≡ c.seen) ⊎ ((f c).seen ≡ w.history))
      → ((c : ClientState) → numbered w.clients number ≡ Some c → ClientKept w.base w.history w.dispatchers c
      → ClientKept w.base w.history w.dispatchers (f c))
      → WorldKept base clients record {
        base = w.base;
        history = w.history;
        rows = rows;
        writer = writer;
        clients = renewed w.clients number f;
        dispatchers = w.dispatchers;
      }
  of_client rows writer number f mine sees here =
      moved rows writer number f 0 (λ d. d) (λ _ _ h. inl h) mine sees here (λ d h. h)

  -- a dispatcher's part changes
  of_dispatcher : (rows : Option Who) (writer : Option ℕ) (holder : ℕ) (g : DispatcherState → DispatcherState)
      → Later w (renewed w.dispatchers holder g)
      → ((d : DispatcherState) → DispatcherKept w.history d → DispatcherKept w.history (g d))
      → WorldKept base clients record {
        base = w.base;
        history = w.history;
        rows = rows;
        writer = writer;
        clients = w.clients;
        dispatchers = renewed w.dispatchers holder g;
      }
  of_dispatcher rows writer holder g later there =
      moved rows writer 0 (λ c. c) holder g later (λ c. refl) (λ c. inl refl)
      (λ c at was. absurd (some_ne_none c (sym at))) there

  client_sees : (rows : Option Who) (writer : Option ℕ) (number : ℕ)
      → WorldKept base clients record {
        base = w.base;
        history = w.history;
        rows = rows;
        writer = writer;
        clients = renewed w.clients number (λ c. record c { seen = w.history });
        dispatchers = w.dispatchers;
      }
  client_sees rows writer number =
      of_client rows writer number (λ c. record c { seen = w.history }) (λ c. refl) (λ c. inr refl)
      (λ c at was. record { seen = begins_with_itself w.history; mail = was.mail })

  dispatcher_sees : (rows : Option Who) (writer : Option ℕ) (number : ℕ)
      → WorldKept base clients record {
        base = w.base;
        history = w.history;
        rows = rows;
        writer = writer;
        clients = w.clients;
        dispatchers = renewed w.dispatchers number (λ d. record d { seen = w.history });
      }
  dispatcher_sees rows writer number =
      of_dispatcher rows writer number (λ d. record d { seen = w.history })
      (sees_later w number)
      (λ d was.
      record { seen = begins_with_itself w.history; marks = was.marks; marks_seen = was.marks; given = was.given })

  unmarked_kept : (d : DispatcherState) → DispatcherKept w.history d → DispatcherKept w.history (unmarked d)
  unmarked_kept d was = grind (arith, ⊎_elim)

  takes : (who : Who) (known : Bool) (holder : Option Who) → WorldKept base clients (taking_rows w who known holder).0
  takes (Client n) true None = client_sees (Some (Client n)) w.writer n
  takes (Dispatcher n) true None = dispatcher_sees (Some (Dispatcher n)) w.writer n
  takes who true (Some holder) = k
  takes who false holder = k

  committed : (number : ℕ) (actions : List Action) → is_there (numbered w.clients number) ≡ true
      → refusal_of w.base w.history actions ≡ None → WorldKept base clients (committing w number actions None).0
  committed number actions known accepted =
      let commit : CommitRecord = commit_by number actions in
      let now : List CommitRecord = w.history ++ commit ∷ [] in
      let f : ClientState → ClientState = λ c. record c { seen = now; mine = c.mine ++ commit ∷ [] } in
      let range = known_range w.clients number known in let count = k.own.count in let low = range.0 in
      let high = range.1 in let long : length (w.history ++ commit ∷ []) ≡ length w.history + 1 =
      length-append w.history (commit ∷ []) in record {
        based = k.based;
        legal = accepted_stays_legal w.base w.history commit k.legal accepted;
        own = record {
          own =
              each_renewed (λ n (c : ClientState). c.mine ≡ commits_of n w.history)
              (λ n (c : ClientState). c.mine ≡ commits_of n now) w.clients number f k.own.own
              (λ c at was. ap (λ l. l ++ commit ∷ []) was ∙ sym (own_push number w.history commit refl))
              (λ j c other at was. was ∙ sym (others_push j w.history commit (λ h. other (sym h))));
          named = named_push clients w.history commit k.own.named (omega arith, omega arith);
          count = length-renewed w.clients number f ∙ k.own.count;
        };
        seen_own =
            each_renewed (λ n (c : ClientState). numbered w.clients n ≡ Some c)
            (λ n (c : ClientState). c.mine ≡ commits_of n c.seen) w.clients number f (λ n c at. at)
            (λ c at _. ap (λ l. l ++ commit ∷ []) (k.own.own number c at) ∙ sym (own_push number w.history commit refl))
            (λ j c other at _. k.seen_own j c at);
        client =
            each_renewed (λ n. ClientKept w.base w.history w.dispatchers)
            (λ n. ClientKept w.base now w.dispatchers) w.clients number f k.client
            (λ c at was. record { seen = begins_with_itself now; mail = mail_more commit c.mailbox was.mail })
            (λ j c other at was. record {
              seen = prefix_longer c.seen w.history (commit ∷ []) was.seen;
              mail = mail_more commit c.mailbox was.mail;
            });
        dispatcher = λ n d at. let was =
            k.dispatcher n d at in
            record {
              seen = prefix_longer d.seen w.history (commit ∷ []) was.seen;
              marks = λ m has. let h =
                  was.marks m has in omega arith;
              marks_seen = was.marks_seen;
              given = given_more commit d.given was.given;
            };
      }
    where
      mail_more : (commit : CommitRecord) (box : Mailbox) → MailKept w.base w.history w.dispatchers box
          → MailKept w.base (w.history ++ commit ∷ []) w.dispatchers box
      mail_more commit empty t = tt
      mail_more commit (asked q floor) t = let long = length-append w.history (commit ∷ []) in omega arith
      mail_more commit (in_hand holder q floor) t = let long = length-append w.history (commit ∷ []) in
          let low = t.0 in (omega arith, t.1)
      mail_more commit (answered q at rows) t = let long = length-append w.history (commit ∷ []) in let low =
          t.0 in (omega arith, t.1 ∙ ap (all_rows_after w.base q) (sym (take-append-le at w.history (commit ∷ []) t.0)))
      mail_more commit (unserved q cause) t = tt

      one_more : (commit : CommitRecord) (floor : ℕ) (o : Outcome) → OutcomeKept w.history floor o
          → OutcomeKept (w.history ++ commit ∷ []) floor o
      one_more commit floor (Served at) t = let long = length-append w.history (commit ∷ []) in
          let low = t.1 in (t.0, omega arith)
      one_more commit floor (GivenUp cause) t = tt

      given_more : (commit : CommitRecord) (l : List Given) → All (GivenKept w.history) l
          → All (GivenKept (w.history ++ commit ∷ [])) l
      given_more commit l all =
          all_kept (GivenKept w.history) (GivenKept (w.history ++ commit ∷ []))
          (λ g h. one_more commit g.floor g.outcome h) l all

  commits : (number : ℕ) (actions : List Action) → is_there (numbered w.clients number) ≡ true
      → (found : Option Refusal) → refusal_of w.base w.history actions ≡ found
      → WorldKept base clients (committing w number actions found).0
  commits number actions known None e = committed number actions known e
  commits number actions known (Some refusal) e = client_sees None w.writer number

  puts : (who : Who) (refresh : Option (List Action)) (known holds : Bool) → is_known w who ≡ known
      → WorldKept base clients (putting_rows w who refresh known holds).0
  puts (Client n) None true true is = client_sees None w.writer n
  puts (Client n) None true false is = k
  puts (Client n) None false holds is = k
  puts (Client n) (Some actions) true true is = commits n actions is (refusal_of w.base w.history actions) refl
  puts (Client n) (Some actions) true false is = k
  puts (Client n) (Some actions) false holds is = k
  puts (Dispatcher n) None true true is =
      of_dispatcher None w.writer n (λ d. record d { seen = w.history; mark = Some (length w.history) })
      (marks_later w n)
      (λ d was. record {
        seen = begins_with_itself w.history;
        marks =
            λ m has. ⊎_elim
            (λ (e : Some (length w.history) ≡ Some m). let same : length w.history ≡ m = cc e in omega arith)
            (λ (e : d.version ≡ Some m). was.marks m (inr e)) has;
        marks_seen =
            λ m has. ⊎_elim
            (λ (e : Some (length w.history) ≡ Some m). let same : length w.history ≡ m = cc e in omega arith)
            (λ (e : d.version ≡ Some m). was.marks m (inr e)) has;
        given = was.given;
      })
  puts (Dispatcher n) None true false is = k
  puts (Dispatcher n) None false holds is = k
  puts (Dispatcher n) (Some actions) known holds is = k

  looks : (who : Who) (known : Bool) → WorldKept base clients (looking w who known).0
  looks (Client n) true = client_sees w.rows w.writer n
  looks (Dispatcher n) true = dispatcher_sees w.rows w.writer n
  looks who false = k

  takes_writer : (n : ℕ) (known : Bool) (holder : Option ℕ) → WorldKept base clients (taking_writer w n known holder).0
  takes_writer n true None = of_dispatcher w.rows (Some n) n unmarked (unmarks_later w n) unmarked_kept
  takes_writer n true (Some holder) = k
  takes_writer n false holder = k

  puts_writer : (n : ℕ) (known holds : Bool) → WorldKept base clients (putting_writer w n known holds).0
  puts_writer n true true = of_dispatcher w.rows None n (λ d. record d { version = d.mark })
      (versions_later w n)
      (λ d was. record {
        seen = was.seen;
        marks =
            λ m has. ⊎_elim (λ (e : d.mark ≡ Some m). was.marks m (inl e))
            (λ (e : d.mark ≡ Some m). was.marks m (inl e)) has;
        marks_seen =
            λ m has. ⊎_elim (λ (e : d.mark ≡ Some m). was.marks_seen m (inl e))
            (λ (e : d.mark ≡ Some m). was.marks_seen m (inl e)) has;
        given = was.given;
      })
  puts_writer n true false = k
  puts_writer n false holds = k

  -- what is kept of a client's mailbox
  pub mail_kept : (client : ℕ) (o : Option ClientState) (box : Mailbox) → numbered w.clients client ≡ o
      → mailbox_of o ≡ Some box → MailKept w.base w.history w.dispatchers box
  mail_kept client None box at e = absurd (some_ne_none box (sym e))
  mail_kept client (Some c) box at e =
      subst (MailKept w.base w.history w.dispatchers) (some_injective c.mailbox box e) (k.client client c at).mail

  posts : (client : ℕ) (questions : Questions) (o : Option Mailbox)
      → WorldKept base clients (posting w client questions o).0
  posts client questions (Some empty) =
      of_client w.rows w.writer client (λ c. record c { mailbox = asked questions (length c.seen) }) (λ c. refl)
      (λ c. inl refl)
      (λ c at was. record {
        seen = was.seen;
        mail = let both =
            length-append c.seen was.seen.rest in
            let whole : length w.history ≡ length (c.seen ++ was.seen.rest) = ap length was.seen.whole in omega arith;
      })
  posts client questions (Some (asked q floor)) = k
  posts client questions (Some (in_hand d q floor)) = k
  posts client questions (Some (answered q at rows)) = k
  posts client questions (Some (unserved q cause)) = k
  posts client questions None = k

  grabs : (n client : ℕ) (known : Bool) (o : Option Mailbox) → mailbox_of (numbered w.clients client) ≡ o
      → WorldKept base clients (grabbing w n client known o).0
  grabs n client true (Some (asked q floor)) is =
      moved w.rows w.writer client (λ c. record c { mailbox = in_hand n q floor }) n unmarked (unmarks_later w n)
      (λ c. refl) (λ c. inl refl)
      (λ c at was. record {
        seen = was.seen;
        mail = (
          mail_kept client (numbered w.clients client) (asked q floor) refl is,
          λ mark has. absurd (unmarked_none w.dispatchers n mark has),
        );
      }) unmarked_kept
  grabs n client true (Some empty) is = k
  grabs n client true (Some (in_hand d q floor)) is = k
  grabs n client true (Some (answered q at rows)) is = k
  grabs n client true (Some (unserved q cause)) is = k
  grabs n client true None is = k
  grabs n client false o is = k

  gave_kept : (client floor : ℕ) (outcome : Outcome) → OutcomeKept w.history floor outcome → (d : DispatcherState)
      → DispatcherKept w.history d → DispatcherKept w.history (gave client floor outcome d)
  gave_kept client floor outcome is d was =
      record {
        seen = was.seen;
        marks = was.marks;
        marks_seen = was.marks_seen;
        given =
            All-append (GivenKept w.history) d.given
            (record { client = client; floor = floor; outcome = outcome } ∷ []) was.given
            (all_one (GivenKept w.history) _ is);
      }

  answers : (n client : ℕ) (version : Option ℕ) (o : Option Mailbox) → version_of (numbered w.dispatchers n) ≡ version
      → mailbox_of (numbered w.clients client) ≡ o → WorldKept base clients (answering w n client version o).0
  answers n client (Some at) (Some (in_hand holder q floor)) marked is = go (holder == n) refl
    where
      go : (b : Bool) → (holder == n) ≡ b
          → WorldKept base clients (answering w n client (Some at) (Some (in_hand holder q floor))).0
      go true same = let mine : holder ≡ n = grind (arith, nat_tests) in
          let t = mail_kept client (numbered w.clients client) (in_hand holder q floor) refl is in
          let has = version_marks w n at (numbered w.dispatchers n) refl marked in
          let low : floor ≤ at =
          t.1 at (subst (λ i. Marks w.dispatchers i at) (sym mine) has) in
          let high : at ≤ length w.history = (k.dispatcher n has.0 has.1).marks at has.2 in
          rw same
          (moved w.rows w.writer client
          (λ c. record c { mailbox = answered q at (all_rows_after w.base q (take at w.history)) }) n
          (gave client floor (Served at)) (gives_later w n client floor (Served at)) (λ c. refl) (λ c. inl refl)
          (λ c there was. record { seen = was.seen; mail = (high, refl) })
          (gave_kept client floor (Served at) (low, high)))
      go false apart = rw apart k
  answers n client (Some at) (Some empty) marked is = k
  answers n client (Some at) (Some (asked q floor)) marked is = k
  answers n client (Some at) (Some (answered q a rows)) marked is = k
  answers n client (Some at) (Some (unserved q cause)) marked is = k
  answers n client (Some at) None marked is = k
  answers n client None o marked is = k

  gives_up : (n client : ℕ) (cause : Cause) (known : Bool) (o : Option Mailbox)
      → WorldKept base clients (giving_up w n client cause known o).0
  gives_up n client cause true (Some (in_hand holder q floor)) = go (holder == n) refl
    where
      go : (b : Bool) → (holder == n) ≡ b
          → WorldKept base clients (giving_up w n client cause true (Some (in_hand holder q floor))).0
      go true same =
          rw same
          (moved w.rows w.writer client (λ c. record c { mailbox = unserved q cause }) n
          (gave client floor (GivenUp cause)) (gives_later w n client floor (GivenUp cause)) (λ c. refl) (λ c. inl refl)
          (λ c there was. record { seen = was.seen; mail = tt }) (gave_kept client floor (GivenUp cause) tt))
      go false apart = rw apart k
  gives_up n client cause true (Some empty) = k
  gives_up n client cause true (Some (asked q floor)) = k
  gives_up n client cause true (Some (answered q a rows)) = k
  gives_up n client cause true (Some (unserved q other)) = k
  gives_up n client cause true None = k
  gives_up n client cause false o = k

  collects : (client : ℕ) (o : Option Mailbox) → WorldKept base clients (collecting w client o).0
  collects client (Some (answered q at rows)) =
      of_client w.rows w.writer client (λ c. record c { mailbox = empty }) (λ c. refl) (λ c. inl refl)
      (λ c at was. record { seen = was.seen; mail = tt })
  collects client (Some (unserved q cause)) =
      of_client w.rows w.writer client (λ c. record c { mailbox = empty }) (λ c. refl) (λ c. inl refl)
      (λ c at was. record { seen = was.seen; mail = tt })
  collects client (Some empty) = k
  collects client (Some (asked q floor)) = k
  collects client (Some (in_hand d q floor)) = k
  collects client None = k

  pub step_kept : (e : Event) → WorldKept base clients (step_of w e).0
  step_kept (TakeRows who) = grind (arith, takes)
  step_kept (PutRows who refresh) = grind (arith, puts)
  step_kept (Look who) = grind (arith, looks)
  step_kept (Post client questions) = grind (arith, posts)
  step_kept (Grab n client) = grind (arith, grabs)
  step_kept (TakeWriter n) = grind (arith, takes_writer)
  step_kept (PutWriter n) = grind (arith, puts_writer)
  step_kept (Answer n client) = grind (arith, answers)
  step_kept (GiveUp n client cause) = grind (arith, gives_up)
  step_kept (Collect client) = grind (arith, collects)

pub each_event : EachEventKeeps
each_event base clients w e k = step_kept base clients w k e

pub run_kept : (base : Tables) (clients : ℕ) (events : List Event) (w : World) → WorldKept base clients w
    → WorldKept base clients (run_of w events).1
run_kept base clients [] w k = k
run_kept base clients (e ∷ events) w k = run_kept base clients events (step_of w e).0 (step_kept base clients w k e)

pub opening_kept : (base : Tables) (clients dispatchers : ℕ)
    → WorldKept base clients (opening_world base clients dispatchers)
opening_kept base clients dispatchers = grind (arith, some_ne_none, numbered_copies, length-copies, begins_with_itself, ⊎_elim, all_none)

pub every_world : EveryWorldKeeps
every_world base clients dispatchers events =
    run_kept base clients events (opening_world base clients dispatchers) (opening_kept base clients dispatchers)
