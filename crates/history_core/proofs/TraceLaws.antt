-- What is known of a run's events and replies when it has come to a world.
use Rattle.std.proofs.Common.{◌≡◌, ◌⊎◌, ℕ, ◌+◌, ◌<◌, ◌≤◌, false, List, [], ◌∷◌, ◌++◌, length, take}
use Rattle.std.proofs.Common.{Some, refl, ap, sym, subst, ◌∙◌, ⊎_elim, arith, length-append}
use Rattle.std.proofs.lemmas.List.{append-nil, take-append-le}
use Rattle.std.proofs.Math.Seq.{take-append_seam}
use Rattle.std.proofs.lemmas.List.Elements.{filter-append}
use Rattle.std.specs.Prelude.{filter, slice_get}
use Rattle.ssb_base.specs.Base.{Tables}
use Rattle.row_store.specs.History.{CommitRecord}
use Rattle.row_store.specs.Refusals.{refusal_of}
use Rattle.row_store.specs.Legal.{IsLegal}
use Rattle.history_core.specs.declared.event.EventReply.{EventReply}
use Rattle.history_core.specs.declared.event.EventReply.TheVariants.{NotEnabled, Done, Committed, Refused}
use Rattle.history_core.specs.declared.event.EventReply.TheVariants.{Length, Asked as Asks, Rows, Unserved}
use Rattle.history_core.specs.Events.{Questions, Event, Post, Grab}
use Rattle.history_core.specs.Numbered.{numbered}
use Rattle.history_core.specs.World.{World, ClientState, DispatcherState, Mailbox, empty}
use Rattle.history_core.specs.World.{asked, in_hand, answered, unserved, all_rows_after}
use Rattle.history_core.specs.Kept.{Marks}
use Rattle.history_core.specs.TrueRun.{Happens, is_committed, commits_before}
use Rattle.history_core.specs.TrueRun.{IsOfRequest, Outstanding, IsTrueReply, IsTrueRun}
use Rattle.history_core.proofs.HistoryLaws.{at_front, at_last, at_end, in_range, filter_take}

-- the client posted these questions, and nothing was done to a request of it since
abbrev pub Posted : List Event → List EventReply → ℕ → Questions → Type 0
Posted es rs client questions =
    (posted : ℕ) × Happens es rs posted (Post client questions) Done
    × ((other : ℕ) (event : Event) (reply : EventReply) → posted < other → Happens es rs other event reply
    → IsOfRequest client event reply → ⊥)

-- what a mailbox tells of the run so far
abbrev pub MailTraced : List Event → List EventReply → List DispatcherState → ℕ → Mailbox → Type 0
MailTraced es rs ds client empty = Unit {0}
MailTraced es rs ds client (asked questions floor) = Posted es rs client questions
MailTraced es rs ds client (in_hand holder questions floor) =
    (request : Outstanding es rs client questions (length rs))
    × ((mark : ℕ) → Marks ds holder mark → commits_before rs request.grabbed ≤ mark)
MailTraced es rs ds client (answered questions at rows) =
    (request : Outstanding es rs client questions (length rs)) × (commits_before rs request.grabbed ≤ at)
MailTraced es rs ds client (unserved questions cause) = Outstanding es rs client questions (length rs)

-- a run so far, and what the mailboxes tell of it
pub record Traced (es : List Event) (rs : List EventReply) (w : World) : Type 0 where
  pub run : IsTrueRun w.base es rs w.history
  pub mail : (client : ℕ) (c : ClientState) → numbered w.clients client ≡ Some c
      → MailTraced es rs w.dispatchers client c.mailbox

-- a run with one event more
module _ (es : List Event) (rs : List EventReply) (even : length rs ≡ length es) (e : Event) (r : EventReply) where
  pub happens_front : (place : ℕ) (a : Event) (b : EventReply) → Happens es rs place a b
      → Happens (es ++ e ∷ []) (rs ++ r ∷ []) place a b
  happens_front place a b h = (at_front es (e ∷ []) place a h.0, at_front rs (r ∷ []) place b h.1)

  pub happens_last : Happens (es ++ e ∷ []) (rs ++ r ∷ []) (length rs) e r
  happens_last = (ap (slice_get (es ++ e ∷ [])) even ∙ at_last es e, at_last rs r)

  pub happens_end : (place : ℕ) (a : Event) (b : EventReply) → Happens (es ++ e ∷ []) (rs ++ r ∷ []) place a b
      → ((place < length rs) × Happens es rs place a b) ⊎ ((place ≡ length rs) × (e ≡ a) × (r ≡ b))
  happens_end place a b h = grind (arith, ⊎_elim, at_end)

  pub before_front : (place : ℕ) → place ≤ length rs → commits_before (rs ++ r ∷ []) place ≡ commits_before rs place
  before_front place h = ap (λ l. length (filter is_committed l)) (take-append-le place rs (r ∷ []) h)

  pub longer : length (rs ++ r ∷ []) ≡ length rs + 1
  longer = length-append rs (r ∷ [])

  -- a request stays outstanding at a place that the run had come to
  abbrev pub outstanding_front : (client : ℕ) (questions : Questions) (place : ℕ) → place ≤ length rs
      → Outstanding es rs client questions place → Outstanding (es ++ e ∷ []) (rs ++ r ∷ []) client questions place
  outstanding_front client questions place h o = record {
    posted = o.posted;
    grabbed = o.grabbed;
    dispatcher = o.dispatcher;
    was_posted = happens_front o.posted (Post client questions) Done o.was_posted;
    was_grabbed = happens_front o.grabbed (Grab o.dispatcher client) (Asks questions) o.was_grabbed;
    posted_first = o.posted_first;
    grabbed_before = o.grabbed_before;
    alone = λ other a b after before happens of_request. ⊎_elim
        (λ (t : (other < length rs) × Happens es rs other a b). o.alone other a b after before t.1 of_request)
        (λ (t : (other ≡ length rs) × (e ≡ a) × (r ≡ b)). let long = t.0 in absurd (omega arith))
        (happens_end other a b happens);
  }

  -- and where the new event does nothing to it
  abbrev pub outstanding_on : (client : ℕ) (questions : Questions) → (IsOfRequest client e r → ⊥)
      → Outstanding es rs client questions (length rs)
      → Outstanding (es ++ e ∷ []) (rs ++ r ∷ []) client questions (length (rs ++ r ∷ []))
  outstanding_on client questions apart o = record {
    posted = o.posted;
    grabbed = o.grabbed;
    dispatcher = o.dispatcher;
    was_posted = happens_front o.posted (Post client questions) Done o.was_posted;
    was_grabbed = happens_front o.grabbed (Grab o.dispatcher client) (Asks questions) o.was_grabbed;
    posted_first = o.posted_first;
    grabbed_before = let early = o.grabbed_before in let long = longer in omega arith;
    alone = λ other a b after before happens of_request. ⊎_elim
        (λ (t : (other < length rs) × Happens es rs other a b). o.alone other a b after t.0 t.1 of_request)
        (λ (t : (other ≡ length rs) × (e ≡ a) × (r ≡ b)). absurd
        (apart
        (subst (λ (x : Event × EventReply). IsOfRequest client x.0 x.1) (λ i. (sym t.1 i, sym t.2 i)) of_request)))
        (happens_end other a b happens);
  }

  -- the request that this event grabbed
  abbrev pub outstanding_grabbed : (client number : ℕ) (questions : Questions) → e ≡ Grab number client
      → r ≡ Asks questions → Posted es rs client questions
      → Outstanding (es ++ e ∷ []) (rs ++ r ∷ []) client questions (length (rs ++ r ∷ []))
  outstanding_grabbed client number questions is replies p = record {
    posted = p.0;
    grabbed = length rs;
    dispatcher = number;
    was_posted = happens_front p.0 (Post client questions) Done p.1;
    was_grabbed =
        subst (λ (x : Event × EventReply). Happens (es ++ e ∷ []) (rs ++ r ∷ []) (length rs) x.0 x.1)
        (λ i. (is i, replies i)) happens_last;
    posted_first = in_range rs p.0 Done p.1.1;
    grabbed_before = let long = longer in omega arith;
    alone = λ other a b after before happens of_request. ⊎_elim
        (λ (t : (other < length rs) × Happens es rs other a b). absurd (p.2 other a b after t.1 of_request))
        (λ (t : (other ≡ length rs) × (e ≡ a) × (r ≡ b)). t.0)
        (happens_end other a b happens);
  }

  pub posted_on : (client : ℕ) (questions : Questions) → (IsOfRequest client e r → ⊥) → Posted es rs client questions
      → Posted (es ++ e ∷ []) (rs ++ r ∷ []) client questions
  posted_on client questions apart p = (
    p.0,
    happens_front p.0 (Post client questions) Done p.1,
    λ other a b after happens of_request. ⊎_elim
        (λ (t : (other < length rs) × Happens es rs other a b). p.2 other a b after t.1 of_request)
        (λ (t : (other ≡ length rs) × (e ≡ a) × (r ≡ b)). apart
        (subst (λ (x : Event × EventReply). IsOfRequest client x.0 x.1) (λ i. (sym t.1 i, sym t.2 i)) of_request))
        (happens_end other a b happens),
  )

  pub posted_now : (client : ℕ) (questions : Questions) → e ≡ Post client questions → r ≡ Done
      → Posted (es ++ e ∷ []) (rs ++ r ∷ []) client questions
  posted_now client questions is replies = (
    length rs,
    subst (λ (x : Event × EventReply). Happens (es ++ e ∷ []) (rs ++ r ∷ []) (length rs) x.0 x.1)
        (λ i. (is i, replies i)) happens_last,
    λ other a b after happens of_request. ⊎_elim
        (λ (t : (other < length rs) × Happens es rs other a b). let short = t.0 in omega arith)
        (λ (t : (other ≡ length rs) × (e ≡ a) × (r ≡ b)). let long = t.0 in omega arith)
        (happens_end other a b happens),
  )

pub before_whole : (rs : List EventReply) → commits_before rs (length rs) ≡ length (filter is_committed rs)
before_whole rs =
    ap (λ l. length (filter is_committed l)) (ap (take (length rs)) (sym (append-nil rs)) ∙ take-append_seam rs [])

pub before_most : (rs : List EventReply) (place : ℕ) → commits_before rs place ≤ commits_before rs (length rs)
before_most rs place = let h = filter_take is_committed place rs in let whole = before_whole rs in omega arith

-- the number of Committed replies after one reply more
pub before_last : (rs : List EventReply) (r : EventReply)
    → commits_before (rs ++ r ∷ []) (length (rs ++ r ∷ [])) ≡ commits_before rs (length rs) + length
    (filter is_committed (r ∷ []))
before_last rs r = grind (arith, before_whole, filter-append, length-append)

pub uncounted : (r : EventReply) → is_committed r ≡ false → length (filter is_committed (r ∷ [])) ≡ 0
uncounted r e = rw e refl

-- the first commits of a history are those of a longer one
pub front_taken : (history more : List CommitRecord) (at : ℕ) → at ≤ length history
    → take at (history ++ more) ≡ take at history
front_taken history more at h = take-append-le at history more h

-- a reply stays true as the run goes on
pub reply_later : (base : Tables) (es : List Event) (rs : List EventReply) (history : List CommitRecord)
    (even : length rs ≡ length es) (e : Event) (r : EventReply) (more : List CommitRecord)
    → length history ≡ commits_before rs (length rs) → (place : ℕ) (a : Event) (b : EventReply)
    → place ≤ length rs → IsTrueReply base es rs history place a b
    → IsTrueReply base (es ++ e ∷ []) (rs ++ r ∷ []) (history ++ more) place a b
reply_later base es rs history even e r more counted place a NotEnabled low t = tt
reply_later base es rs history even e r more counted place a Done low t = tt
reply_later base es rs history even e r more counted place a (Asks questions) low t = tt
reply_later base es rs history even e r more counted place a (Length number) low t =
    t ∙ sym (before_front es rs even e r place low)
reply_later base es rs history even e r more counted place a (Committed number) low t =
    let same = before_front es rs even e r place low in (
      t.0 ∙ ap (λ n. n + 1) (sym same),
      (
        t.1.0,
        t.1.1,
        t.1.2,
        ap (slice_get (history ++ more)) same
            ∙ at_front history more (commits_before rs place) _ t.1.3,
      ),
    )
reply_later base es rs history even e r more counted place a (Refused at action cause) low t =
    let same = before_front es rs even e r place low in let most = before_most rs place in let is = t.0 in (
      t.0 ∙ sym same,
      (t.1.0, t.1.1, t.1.2, ap (λ l. refusal_of base l t.1.1) (front_taken history more at (omega arith)) ∙ t.1.3),
    )
reply_later base es rs history even e r more counted place a (Rows questions at rows) low t =
    let same = before_front es rs even e r place low in let most = before_most rs place in let high = t.4 in
    let early = t.2.grabbed_before in
    let same_grab = before_front es rs even e r t.2.grabbed (omega arith) in let floor = t.3 in (
      t.0,
      t.1,
      outstanding_front es rs even e r t.0 questions place low t.2,
      omega arith,
      omega arith,
      t.5
          ∙ ap (all_rows_after base questions) (sym (front_taken history more at (omega arith))),
    )
reply_later base es rs history even e r more counted place a (Unserved questions cause) low t =
    (t.0, t.1, outstanding_front es rs even e r t.0 questions place low t.2)

-- one event more, with a true reply
pub run_on : (base : Tables) (es : List Event) (rs : List EventReply) (history : List CommitRecord) (e : Event)
    (r : EventReply) (more : List CommitRecord) → IsTrueRun base es rs history → IsLegal base (history ++ more)
    → length more ≡ length (filter is_committed (r ∷ []))
    → IsTrueReply base (es ++ e ∷ []) (rs ++ r ∷ []) (history ++ more) (length rs) e r
    → IsTrueRun base (es ++ e ∷ []) (rs ++ r ∷ []) (history ++ more)
run_on base es rs history e r more k legal many new = let even = k.replied in record {
  replied = length-append rs (r ∷ []) ∙ (ap (λ n. n + 1) even ∙ sym (length-append es (e ∷ [])));
  legal = legal;
  no_others = let both = length-append history more in let was = k.no_others in
      let now = before_last rs r in omega arith;
  true_replies = λ place a b happens. ⊎_elim
      (λ (t : (place < length rs) × Happens es rs place a b). let short =
      t.0 in
      reply_later base es rs history even e r more k.no_others place a b (omega arith)
      (k.true_replies place a b t.1))
      (λ (t : (place ≡ length rs) × (e ≡ a) × (r ≡ b)). subst
      (λ (x : ℕ × Event × EventReply). IsTrueReply base (es ++ e ∷ []) (rs ++ r ∷ []) (history ++ more) x.0 x.1 x.2)
      (λ i. (sym t.0 i, t.1 i, t.2 i)) new)
      (happens_end es rs even e r place a b happens);
}

-- one event more, with no commit
pub run_same : (base : Tables) (es : List Event) (rs : List EventReply) (history : List CommitRecord) (e : Event)
    (r : EventReply) → IsTrueRun base es rs history → is_committed r ≡ false
    → IsTrueReply base es rs history (length rs) e r → IsTrueRun base (es ++ e ∷ []) (rs ++ r ∷ []) history
run_same base es rs history e r k quiet new =
    let whole = append-nil history in subst (IsTrueRun base (es ++ e ∷ []) (rs ++ r ∷ [])) whole
    (run_on base es rs history e r [] k (subst (IsLegal base) (sym whole) k.legal) (sym (uncounted r quiet))
    (reply_later base es rs history k.replied e r [] k.no_others (length rs) e r (omega arith) new))

-- a mailbox tells the same after an event that does nothing to its request, where marks are as before or as high as the
-- history was long
pub mail_on : (es : List Event) (rs : List EventReply) (even : length rs ≡ length es) (e : Event)
    (r : EventReply) (history : List CommitRecord) → length history ≡ commits_before rs (length rs)
    → (ds after : List DispatcherState)
    → ((number mark : ℕ) → Marks after number mark → (Marks ds number mark) ⊎ (mark ≡ length history))
    → (client : ℕ) (box : Mailbox) → (IsOfRequest client e r → ⊥) → MailTraced es rs ds client box
    → MailTraced (es ++ e ∷ []) (rs ++ r ∷ []) after client box
mail_on es rs even e r history counted ds after marks client empty apart t = tt
mail_on es rs even e r history counted ds after marks client (asked questions floor) apart t =
    posted_on es rs even e r client questions apart t
mail_on es rs even e r history counted ds after marks client (in_hand holder questions floor) apart t =
    let early = t.0.grabbed_before in let same = before_front es rs even e r t.0.grabbed (omega arith) in
    let most = before_most rs t.0.grabbed in (
      outstanding_on es rs even e r client questions apart t.0,
      λ mark has. ⊎_elim (λ (was : Marks ds holder mark). let h = t.1 mark was in omega arith)
          (λ (new : mark ≡ length history). omega arith) (marks holder mark has),
    )
mail_on es rs even e r history counted ds after marks client (answered questions at rows) apart t =
    let early = t.0.grabbed_before in let same = before_front es rs even e r t.0.grabbed (omega arith) in
    let floor = t.1 in (outstanding_on es rs even e r client questions apart t.0, omega arith)
mail_on es rs even e r history counted ds after marks client (unserved questions cause) apart t =
    outstanding_on es rs even e r client questions apart t
