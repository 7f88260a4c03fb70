-- What a token keeps over each call, and what its record then is.
use Rattle.std.proofs.Common.{◌≡◌, ◌≢◌, ℕ, ◌+◌, ◌<◌, ◌≤◌, Bool, true, false, List, [], ◌∷◌, ◌++◌, map, length, drop}
use Rattle.std.proofs.Common.{Some, None, refl, ap, sym, subst, ◌∙◌, ⊎_elim, arith, length-append}
use Rattle.std.proofs.lemmas.Bool.Decides.{nat_tests}
use Rattle.std.proofs.lemmas.List.{append-nil}
use Rattle.std.proofs.Math.Seq.{drop-append_seam}
use Rattle.std.specs.Prelude.{nat_lt, All}
use Rattle.atomic_table.specs.Table.{rest, turned}
use Rattle.arrayvec.specs.ArrayVec.{ArrayVec}
use Rattle.row_store.specs.History.{CommitRecord, Warehouse, IsPrefix}
use Rattle.history_core.specs.declared.response.Response.{Response}
use Rattle.history_core.specs.Events.{Questions}
use Rattle.row_store.proofs.HistoryLaws.{accepted_stays_legal}
use Rattle.history_core.proofs.HistoryLaws.{named_push}
use Rattle.history.specs.declared.view.Member.{Member}
use Rattle.history.specs.declared.request.PostedRequest.{PostedRequest}
use Rattle.history.specs.declared.view.Held.{Held}
use Rattle.history.specs.declared.view.View.{View}
use Rattle.history.specs.declared.token.Token.TheInside.{Inside as Token}
use Rattle.history.specs.Words.{store, request}
use Rattle.history.specs.Members.{marks, commits}
use Rattle.history.specs.Rule.{Slot}
use Rattle.history.specs.Plays.{Learns, with_rows, looked, gave_log, put_by, gave_back, posted, request_at}
use Rattle.history.specs.Plays.{without_at, grabbed, served, served_as, with_writer, without_writer}
use Rattle.history.specs.Seats.{Place, Adds}
use Rattle.history.specs.Tokens.{TokenRecord, IsClient, IsDispatcher, IsSound, Saw, Took, MayPut, Put, Grabs}
use Rattle.history.specs.Tokens as public
use Rattle.history.specs.TokenParts.{shown_token, token_of_view, hands, own_box, grabbed_boxes, boxes, IsSeated}
use Rattle.history.proofs.MemberLaws.{who_back, who_behind, owns_more}
use Rattle.history.proofs.HandLaws.{apart_without, all_without}

module _ {W : Type 0} where
  boxes_client : (v : View) (place : ℕ) → place < v.terms.clients → boxes {W = W} v place ≡ own_box place v.asked
  boxes_client v place near = let low : nat_lt place v.terms.clients ≡ true = grind (arith, nat_tests) in rw low refl

  boxes_behind : (v : View) (place : ℕ) → v.terms.clients ≤ place → boxes {W = W} v place ≡ grabbed_boxes v.grabbed
  boxes_behind v place far = let high : nat_lt place v.terms.clients ≡ false = grind (arith, nat_tests) in rw high refl

  quiet_carries : (p : Token W) → IsSeated p → p.place < p.seat.me.0.terms.clients → p.seat.me.0.asked ≡ None
      → p.seat.me.1 ≡ hands 0 p.seat.me.0.holds_rows ((2 + p.place, None) ∷ [])
  quiet_carries p is near has = grind (arith, boxes_client)

  turned_hands : (b : Bool) (x : ℕ × Slot W) → turned (hands 0 b (x ∷ [])) ≡ x ∷ hands 0 b []
  turned_hands true x = refl
  turned_hands false x = refl

  -- a turn brings a client's mailbox to the front
  pub box_in_front : (p : Token W) → IsSeated p → p.place < p.seat.me.0.terms.clients → p.seat.me.0.asked ≡ None
      → turned p.seat.me.1 ≡ (2 + p.place, None) ∷ hands 0 p.seat.me.0.holds_rows []
  box_in_front p is near has = grind (arith, quiet_carries, turned_hands)

  -- the slots of a dispatcher that holds neither part
  pub dispatcher_carries : (p : Token W) → IsSeated p → p.seat.me.0.terms.clients ≤ p.place
      → p.seat.me.0.holds_rows ≡ false → p.seat.me.0.holds_writer ≡ false
      → p.seat.me.1 ≡ grabbed_boxes p.seat.me.0.grabbed
  dispatcher_carries p is far free free' = grind (arith, boxes_behind)

  -- a client's place is among the first, a dispatcher's behind these
  pub is_before : (p : Token W) (t : TokenRecord) → shown_token p ≡ t → IsSeated p → IsClient t → p.place < p.seat.me.0.terms.clients
  is_before p t view is client = (who_back p.seat.me.0.terms.clients p.place client.0
      (sym (is.member ∙ is.who) ∙ (ap (λ (x : TokenRecord). x.who) view ∙ client.1))).0

  pub is_behind : (p : Token W) (t : TokenRecord) → shown_token p ≡ t → IsSeated p → IsDispatcher t
      → p.seat.me.0.terms.clients ≤ p.place
  is_behind p t view is dispatcher = grind (arith, who_behind)

  -- the token with this hand, this seat and this number
  abbrev pub passed : Token W → ArrayVec ℕ → Place W → ℕ → Token W
  passed p hand after seen_len = record { who = p.who; place = p.place; seen_len = seen_len; hand = hand; seat = after }

  -- it is enough to look at the new view and the new slots
  by_view : (p : Token W) (hand : ArrayVec ℕ) (after : Place W) (seen_len : ℕ) (v : View) (carried : List (ℕ × Slot W))
      → after.me ≡ (v, carried) → IsSeated (passed p hand (record after { me = (v, carried) }) seen_len)
      → IsSeated (passed p hand after seen_len)
  by_view p hand after seen_len v carried now is = subst
      (λ x. IsSeated (passed p hand (record after { me = x }) seen_len)) (sym now) is

  -- the new token, by the new view
  token_is : (p : Token W) (hand : ArrayVec ℕ) (after : Place W) (seen_len : ℕ) (v : View) (carried : List (ℕ × Slot W))
      → after.table_id ≡ p.seat.table_id → after.me ≡ (v, carried)
      → shown_token (passed p hand after seen_len) ≡ token_of_view p.seat.table_id v
  token_is p hand after seen_len v carried table now = λ i. token_of_view (table i) (now i).0

  pub took_seated : (p : Token W) (after : Place W) (history : List CommitRecord) (seen_len : ℕ) → IsSeated p
      → p.seat.me.0.holds_rows ≡ false → seen_len ≡ length history → Learns p.seat.me.0 history
      → after.me ≡ (with_rows p.seat.me.0 history, (0, None) ∷ p.seat.me.1)
      → IsSeated (passed p p.hand after seen_len)
  took_seated p after history seen_len is free long told now = grind (arith, by_view)

  pub took_token : (p : Token W) (after : Place W) (history : List CommitRecord) (seen_len : ℕ)
      → Learns p.seat.me.0 history → after.table_id ≡ p.seat.table_id
      → after.me ≡ (with_rows p.seat.me.0 history, (0, None) ∷ p.seat.me.1)
      → Took (shown_token p) (shown_token (passed p p.hand after seen_len))
  took_token p after history seen_len told table now = grind (arith, token_is)

  pub looked_seated : (p : Token W) (after : Place W) (beside : List (List CommitRecord)) (history : List CommitRecord)
      (seen_len : ℕ) → IsSeated p → seen_len ≡ length history → Learns (record p.seat.me.0 { beside = beside }) history
      → after.me ≡ (looked (record p.seat.me.0 { beside = beside }) history, p.seat.me.1)
      → IsSeated (passed p p.hand after seen_len)
  looked_seated p after beside history seen_len is long told now = grind (arith, by_view)

  -- a token that looked, after it heard of more
  pub saw_token : (p : Token W) (after : Place W) (n : ℕ) (beside : List (List CommitRecord))
      (history : List CommitRecord) → after.table_id ≡ p.seat.table_id
      → after.me ≡ (looked (record p.seat.me.0 { beside = beside }) history, p.seat.me.1)
      → IsPrefix p.seat.me.0.member.seen history → All (λ list. IsPrefix list history) p.seat.me.0.beside
      → Saw (shown_token p) (shown_token (passed p p.hand after n))
  saw_token p after n beside history table now begins known = grind (arith, token_is)

  pub posted_seated : (p : Token W) (after : Place W) (asked : PostedRequest) → IsSeated p
      → p.place < p.seat.me.0.terms.clients → after.me ≡ (posted p.seat.me.0 asked, hands 0 p.seat.me.0.holds_rows [])
      → IsSeated (passed p p.hand after p.seen_len)
  posted_seated p after asked is near now = grind (arith, by_view, boxes_client)

  pub posted_token : (p : Token W) (after : Place W) (questions : Questions) (carried : List (ℕ × Slot W)) → IsSeated p
      → after.table_id ≡ p.seat.table_id → after.me ≡ (posted p.seat.me.0 (request questions p.seen_len), carried)
      → shown_token (passed p p.hand after p.seen_len) ≡ public.posted (shown_token p) questions
  posted_token p after questions carried is table now = grind (arith, token_is)

  pub grabbed_token : (p : Token W) (hand : ArrayVec ℕ) (after : Place W) (place client : ℕ) (asked : PostedRequest)
      (carried : List (ℕ × Slot W)) → place + 1 ≡ client → after.table_id ≡ p.seat.table_id
      → after.me ≡ (grabbed p.seat.me.0 place asked, carried)
      → Grabs (shown_token p) client asked.questions (shown_token (passed p hand after p.seen_len))
  grabbed_token p hand after place client asked carried number table now =
      subst (λ n. Grabs (shown_token p) n asked.questions (shown_token (passed p hand after p.seen_len))) number
      (subst (Grabs (shown_token p) (place + 1) asked.questions)
      (sym (token_is p hand after p.seen_len (grabbed p.seat.me.0 place asked) carried table now))
      record { floor = asked.floor; now = refl })

  pub answered_seated : (p : Token W) (hand : ArrayVec ℕ) (after : Place W) (client : ℕ) (asked : PostedRequest)
      (reply : Response) → IsSeated p → p.seat.me.0.terms.clients ≤ p.place → p.seat.me.0.holds_rows ≡ false
      → p.seat.me.0.holds_writer ≡ false
      → request_at client p.seat.me.0.grabbed ≡ Some asked
      → hand.items ≡ map (λ (h : Held). h.place) (without_at client p.seat.me.0.grabbed)
      → after.me ≡ (served p.seat.me.0 client reply, grabbed_boxes (without_at client p.seat.me.0.grabbed))
      → IsSeated (passed p hand after p.seen_len)
  answered_seated p hand after client asked reply is far free free' has left now = let v : View = p.seat.me.0 in
      let v' : View = served_as v client (Some asked) reply in
      by_view p hand after p.seen_len v' (grabbed_boxes (without_at client v.grabbed))
      (now ∙ ap (λ r. (served_as v client r reply, grabbed_boxes (without_at client v.grabbed))) has) record {
        role = is.role;
        who = is.who;
        member = is.member;
        seen_len = is.seen_len;
        hand = left;
        carried = sym ((λ i. hands 0 (free i) (hands 1 (free' i) (boxes v' p.place))) ∙ boxes_behind v' p.place far);
        in_hand = ((λ low. absurd (omega arith)), is.in_hand.1);
        few = is.few;
        near = all_without (λ (h : Held). h.place < v.terms.clients) client v.grabbed is.near;
        apart = apart_without client v.grabbed is.apart;
        gathered = is.gathered;
        sound = record { legal = is.sound.legal; named = is.sound.named; owns = is.sound.owns };
      }

  pub writer_taken_seated : (p : Token W) (after : Place W) (list : List CommitRecord) → IsSeated p
      → p.seat.me.0.terms.clients ≤ p.place → p.seat.me.0.holds_rows ≡ false → p.seat.me.0.holds_writer ≡ false
      → after.me ≡ (with_writer p.seat.me.0 list, (1, None) ∷ p.seat.me.1)
      → IsSeated (passed p p.hand after p.seen_len)
  writer_taken_seated p after list is far free free' now = grind (arith, by_view, dispatcher_carries, boxes_behind)

  pub writer_taken_token : (p : Token W) (after : Place W) (list : List CommitRecord) (carried : List (ℕ × Slot W))
      → after.table_id ≡ p.seat.table_id → after.me ≡ (with_writer p.seat.me.0 list, carried)
      → shown_token (passed p p.hand after p.seen_len) ≡ public.with_writer (shown_token p) list
  writer_taken_token p after list carried table now = grind (arith, token_is)

  pub writer_back_seated : (p : Token W) (after : Place W) → IsSeated p → p.seat.me.0.terms.clients ≤ p.place
      → p.seat.me.0.holds_rows ≡ false → p.seat.me.0.holds_writer ≡ true
      → after.me ≡ (without_writer p.seat.me.0, rest p.seat.me.1) → IsSeated (passed p p.hand after p.seen_len)
  writer_back_seated p after is far free taken now = grind (arith, by_view)

  pub writer_back_token : (p : Token W) (after : Place W) (carried : List (ℕ × Slot W))
      → after.table_id ≡ p.seat.table_id → after.me ≡ (without_writer p.seat.me.0, carried)
      → shown_token (passed p p.hand after p.seen_len) ≡ public.without_writer (shown_token p)
  writer_back_token p after carried table now = grind (arith, token_is)

-- what the giver of the rows makes of its member, where nothing is new, and where one commit is
put_line : (m : Member) (log : List CommitRecord) → log ≡ m.seen → put_by m log ≡ marks m.seen m
put_line m log same = let none_new : drop (length m.seen) log ≡ [] =
    ap (drop (length m.seen)) (same ∙ sym (append-nil m.seen)) ∙ drop-append_seam m.seen [] in
    ap (gave_log m log) none_new ∙ ap (λ l. marks l m) same

put_line_more : (m : Member) (log : List CommitRecord) (commit : CommitRecord) → log ≡ m.seen ++ commit ∷ []
    → put_by m log ≡ commits (m.seen ++ commit ∷ []) commit m
put_line_more m log commit more = grind (arith, drop-append_seam)

gave_seen : (m : Member) (log new : List CommitRecord) → ((gave_log m log new).who ≡ m.who)
    × ((gave_log m log new).seen ≡ log)
gave_seen m log [] = (refl, refl)
gave_seen m log (commit ∷ more) = (refl, refl)

module _ {W : Type 0} where
  -- a view that adds nothing, or one commit of its own, is as sound as before
  put_sound : (p : Token W) (rows : Warehouse) → IsSeated p → MayPut (shown_token p) rows
      → IsSound (token_of_view p.seat.table_id (gave_back p.seat.me.0 rows.log))
  put_sound p rows is may = grind (arith, ⊎_elim, put_line, who_back, put_line_more, accepted_stays_legal, named_push, owns_more)

  pub put_seated : (p : Token W) (after : Place W) (rows : Warehouse) (seen_len : ℕ) → IsSeated p
      → p.seat.me.0.holds_rows ≡ true → MayPut (shown_token p) rows → seen_len ≡ length rows.log
      → after.me ≡ (gave_back p.seat.me.0 rows.log, rest p.seat.me.1) → IsSeated (passed p p.hand after seen_len)
  put_seated p after rows seen_len is holds may long now = let v : View = p.seat.me.0 in let gave =
      gave_seen v.member rows.log (drop (length v.member.seen) rows.log) in
      by_view p p.hand after seen_len (gave_back v rows.log) (rest p.seat.me.1) now record {
        role = is.role;
        who = is.who;
        member = gave.0 ∙ is.member;
        seen_len = long ∙ ap length (sym gave.1);
        hand = is.hand;
        carried = ap rest (is.carried ∙ ap (λ b. hands 0 b (hands 1 v.holds_writer (boxes v p.place))) holds);
        in_hand = is.in_hand;
        few = is.few;
        near = is.near;
        apart = is.apart;
        gathered = is.gathered;
        sound = let s = put_sound p rows is may in record { legal = s.legal; named = s.named; owns = s.owns };
      }

  pub put_token : (p : Token W) (after : Place W) (rows : Warehouse) (seen_len : ℕ) (carried : List (ℕ × Slot W))
      → after.table_id ≡ p.seat.table_id → after.me ≡ (gave_back p.seat.me.0 rows.log, carried)
      → Put (shown_token p) rows (shown_token (passed p p.hand after seen_len))
  put_token p after rows seen_len carried table now = grind (arith, token_is, put_line, put_line_more)

  -- one commit was added where the lengths differ
  pub put_adds : (p : Token W) (rows : Warehouse) → IsSeated p → MayPut (shown_token p) rows → length rows.log ≢ p.seen_len
      → Adds p.seat rows.log
  put_adds p rows is may longer = grind (arith, ⊎_elim, who_back)

  pub put_same : (p : Token W) (rows : Warehouse) → IsSeated p → MayPut (shown_token p) rows → length rows.log ≡ p.seen_len
      → rows ≡ store p.seat.me.0.terms.base p.seat.me.0.member.seen
  put_same p rows is may as_long = grind (arith, ⊎_elim, length-append)
