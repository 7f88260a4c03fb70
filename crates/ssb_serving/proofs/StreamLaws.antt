-- Seats and what was left of them, place by place; and what a run of speakers leaves is as its definition says.
use Rattle.std.proofs.Common.{◌≡◌, ℕ, ◌+◌, List, [], ◌∷◌, ◌++◌, length, map, Result, Ok, Err, refl, sym, ◌∙◌, ap, subst}
use Rattle.std.proofs.Common.{arith}
use Rattle.std.specs.Prelude.{All, IfOk, slice_get}
use Rattle.std.specs.List.{AllZip}
use Rattle.std.proofs.lemmas.List.{length-map}
use Rattle.std.proofs.lemmas.List.Elements.{All-nil, All-cons, All-head, All-tail}
use Rattle.std.proofs.lemmas.Slice.Zip.{AllZip-long, all_zipped_more}
use Rattle.history.specs.Closing.{IsLogOf}
use Rattle.history.specs.Tokens.{TableRecord, TokenRecord, new_token, new_clients, new_dispatchers}
use Rattle.history.specs.Words.{Owns}
use Rattle.history.specs.Members.{number_of}
use Rattle.history_core.specs.OwnCommits.{IsOfClients}
use Rattle.history_core.specs.declared.event.Who.TheVariants.{Client}
use Rattle.row_store.specs.History.{CommitRecord, IsPrefix}
use Rattle.row_store.specs.Legal.{IsLegal}
use Rattle.ssb_clients.specs.Tickets.{IsQuiet}
use Rattle.ssb_serving.proofs.ListLaws.{none_before}
use Rattle.ssb_serving.proofs.PlaceLaws.{some_is, get_mapped, map_at, row_at, all_at, zip_at}
use Rattle.ssb_serving.proofs.MemberLaws.{number_in, new_clients_quiet, ready_where}
use Rattle.ssb_serving.specs.Members.{AreStill, IsReady}
use Rattle.stream_sessions.specs.OneRequest.{AreAlike}
use Rattle.ssb_serving.specs.Streams.{AreSpoken, IsSpoken, IsSpokenTo, IsStreamRun, IsClosedWith}

-- what was left of all that were started is what was left of the seats
pub all_left : {X H P : Type 0} (leaves : X → P → Type 0) (read : H → X) (before after : List H) (seats : List X)
    (left : List P) → before ≡ [] → map read after ≡ map read before ++ seats → AllZip leaves (map read after) left
    → AllZip leaves seats left
all_left leaves read before after seats left none started all =
    subst (λ xs. AllZip leaves xs left) (started ∙ none_before read before seats seats none refl) all

-- one of each more
pub zip_longer : {X Y : Type 0} (R : X → Y → Type 0) (xs longer : List X) (ys more : List Y) (x : X) (y : Y)
    → AllZip R xs ys → R x y → longer ≡ xs ++ x ∷ [] → more ≡ ys ++ y ∷ [] → AllZip R longer more
zip_longer R xs longer ys more x y all is here there =
    subst (λ ls. AllZip R ls more) (sym here) (subst (AllZip R (xs ++ x ∷ [])) (sym there)
    (all_zipped_more R xs ys x y all is))

-- what two lists are made into agrees, where they agree
zip_mapped : {X Y A B : Type 0} (R : X → Y → Type 0) (Q : A → B → Type 0) (f : X → A) (h : Y → B)
    → ((x : X) (y : Y) → R x y → Q (f x) (h y)) → (xs : List X) (ys : List Y) → AllZip R xs ys
    → AllZip Q (map f xs) (map h ys)
zip_mapped R Q f h is [] [] all = tt
zip_mapped R Q f h is [] (y ∷ ys) all = absurd all
zip_mapped R Q f h is (x ∷ xs) [] all = absurd all
zip_mapped R Q f h is (x ∷ xs) (y ∷ ys) all = (is x y all.0, zip_mapped R Q f h is xs ys all.1)

all_mapped : {X A : Type 0} (P : A → Type 0) (f : X → A) (xs : List X) → All P (map f xs) → All (λ x. P (f x)) xs
all_mapped P f [] all = All-nil (λ x. P (f x))
all_mapped P f (x ∷ xs) all = All-cons (λ x. P (f x)) x xs (All-head P (f x) (map f xs) all)
    (all_mapped P f xs (All-tail P (f x) (map f xs) all))

-- clients that are alike ask nothing, and have the same numbers
quiet_alike : (table : TableRecord) (befores afters : List TokenRecord) → All (IsQuiet table) befores
    → AllZip AreAlike befores afters → All (IsQuiet table) afters
quiet_alike table [] [] all alike = All-nil (IsQuiet table)
quiet_alike table [] (a ∷ others) all alike = absurd alike
quiet_alike table (b ∷ others) [] all alike = absurd alike
quiet_alike table (b ∷ befores) (a ∷ afters) all alike =
    let first = All-head (IsQuiet table) b befores all in
    All-cons (IsQuiet table) a afters
    (record { table_is = alike.0.table ∙ first.table_is; quiet = alike.0.quiet })
    (quiet_alike table befores afters (All-tail (IsQuiet table) b befores all) alike.1)

numbers_alike : (befores afters : List TokenRecord) → AllZip AreAlike befores afters
    → map number_in afters ≡ map number_in befores
numbers_alike [] [] alike = refl
numbers_alike [] (a ∷ others) alike = absurd alike
numbers_alike (b ∷ others) [] alike = absurd alike
numbers_alike (b ∷ befores) (a ∷ afters) alike = ap (λ w. number_of w ∷ map number_in afters) alike.0.who
    ∙ ap (λ ns. number_of b.who ∷ ns) (numbers_alike befores afters alike.1)

-- the seats of new clients are quiet
pub seats_quiet : {X : Type 0} (table : TableRecord) (seats : List X) (client_of : X → TokenRecord)
    → map client_of seats ≡ new_clients table → All (λ seat. IsQuiet table (client_of seat)) seats
seats_quiet table seats client_of new =
    all_mapped (IsQuiet table) client_of seats (subst (All (IsQuiet table)) (sym new) (new_clients_quiet table))

-- the server can be closed with all that it was opened with
pub seats_ready : {X Y S L : Type 0} (Spoken : S → TokenRecord → TokenRecord → L → Type 0) (table : TableRecord)
    (seats : List X) (spoken : List Y) (client_of : X → TokenRecord) (speaker_of : X → S) (closed_of : Y → TokenRecord)
    (left_of : Y → L) (befores afters : List TokenRecord) → map client_of seats ≡ new_clients table
    → AllZip (λ seat one. IsSpoken Spoken (speaker_of seat) (client_of seat) (closed_of one) (left_of one)) seats spoken
    → befores ≡ new_dispatchers table → AreStill befores afters → IsReady table (map closed_of spoken) afters
seats_ready {X} {Y} Spoken table seats spoken client_of speaker_of closed_of left_of befores afters new all
    dispatchers still =
    let alike : AllZip AreAlike (map client_of seats) (map closed_of spoken) =
    zip_mapped (λ seat one. IsSpoken Spoken (speaker_of seat) (client_of seat) (closed_of one) (left_of one)) AreAlike
    client_of closed_of (λ seat one is. is.alike) seats spoken all in
    let these : AllZip AreAlike (new_clients table) (map closed_of spoken) =
    subst (λ ts. AllZip AreAlike ts (map closed_of spoken)) new alike in
    ready_where table (map closed_of spoken) befores afters
    (quiet_alike table (new_clients table) (map closed_of spoken) (new_clients_quiet table) these)
    (numbers_alike (new_clients table) (map closed_of spoken) these) dispatchers still

-- a server that was closed with these clients was closed with those that they are
pub closed_with : (table : TableRecord) (clients closed ended : List TokenRecord) (log : List CommitRecord)
    → clients ≡ closed → IsLogOf table clients ended log → IsLegal table.base log → IsOfClients table.clients log
    → All (λ (t : TokenRecord). IsPrefix t.seen log) clients → All (λ (t : TokenRecord). IsPrefix t.seen log) ended
    → All (λ (t : TokenRecord). Owns t.who t.mine log) clients → IsClosedWith table closed ended log
closed_with table clients closed ended log are true_log legal named begin ended_begin own =
    subst (λ ts. IsClosedWith table ts ended log) are record {
      true_log = true_log;
      legal = legal;
      named = named;
      begin = begin;
      ended_begin = ended_begin;
      own = own;
    }

-- what was spoken to a seat was spoken to the new client of its number
spoken_to : {S L : Type 0} (Spoken : S → TokenRecord → TokenRecord → L → Type 0) (table : TableRecord)
    (log : List CommitRecord) (number : ℕ) (seated speaker : S) (client ended closed : TokenRecord) (remains left : L)
    → client ≡ new_token table (Client number) → seated ≡ speaker → ended ≡ closed → remains ≡ left
    → IsSpoken Spoken seated client ended remains → IsPrefix closed.seen log → Owns closed.who closed.mine log
    → IsSpokenTo Spoken table log number speaker closed left
spoken_to Spoken table log number seated speaker client ended closed remains left new same_speaker same_client same_left
    is begins owns =
    let new_is : IsSpoken Spoken speaker (new_token table (Client number)) closed left =
    subst (λ l. IsSpoken Spoken speaker (new_token table (Client number)) closed l) same_left
    (subst (λ t. IsSpoken Spoken speaker (new_token table (Client number)) t remains) same_client
    (subst (λ s. IsSpoken Spoken s (new_token table (Client number)) ended remains) same_speaker
    (subst (λ t. IsSpoken Spoken seated t ended remains) new is))) in record {
      alike = new_is.alike;
      spoken = new_is.spoken;
      begins = begins;
      made = subst (λ who. Owns who closed.mine log) new_is.alike.who owns;
    }

pub is_stream_run : {X Y S L : Type 0} (Spoken : S → TokenRecord → TokenRecord → L → Type 0) (table : TableRecord)
    (speakers : List S) (seats : List X) (spoken : List Y) (client_of : X → TokenRecord) (speaker_of : X → S)
    (closed_of : Y → TokenRecord) (left_of : Y → L) (ended : List TokenRecord) (left : List L) (log : List CommitRecord)
    → table.clients ≡ length speakers → map client_of seats ≡ new_clients table → map speaker_of seats ≡ speakers
    → AllZip (λ seat one. IsSpoken Spoken (speaker_of seat) (client_of seat) (closed_of one) (left_of one)) seats spoken
    → AreStill (new_dispatchers table) ended → IsClosedWith table (map closed_of spoken) ended log
    → left ≡ map left_of spoken → IsStreamRun Spoken table.base speakers table.dispatchers left log
is_stream_run {X} {Y} Spoken table speakers seats spoken client_of speaker_of closed_of left_of ended left log count new
    of_speakers all still closed left_are =
    let Fits : X → Y → Type 0 =
    λ seat one. IsSpoken Spoken (speaker_of seat) (client_of seat) (closed_of one) (left_of one) in
    let many : length spoken ≡ length speakers =
    AllZip-long Fits seats spoken all ∙ (sym (length-map seats speaker_of) ∙ ap length of_speakers) in record {
      table = table;
      base_is = refl;
      clients_are = count;
      dispatchers_are = refl;
      closed = map closed_of spoken;
      one_each = length-map spoken closed_of ∙ many;
      one_left = ap length left_are ∙ (length-map spoken left_of ∙ many);
      served = λ i speaker client one at_speaker at_client at_left.
          let seat = get_mapped speaker_of seats i speaker (ap (λ xs. slice_get xs i) of_speakers ∙ at_speaker) in
          let end = get_mapped closed_of spoken i client at_client in
          let first = row_at (λ number. new_token table (Client number)) 1 table.clients i (client_of seat.0)
          (ap (λ xs. slice_get xs i) (sym new) ∙ map_at client_of seats i seat.0 seat.1) in
          spoken_to Spoken table log (i + 1) (speaker_of seat.0) speaker (client_of seat.0) (closed_of end.0) client
          (left_of end.0) one (first ∙ ap (λ k. new_token table (Client k)) (omega arith)) seat.2 end.2
          (some_is (sym (map_at left_of spoken i end.0 end.1) ∙ (ap (λ xs. slice_get xs i) (sym left_are) ∙ at_left)))
          (zip_at Fits seats spoken i seat.0 end.0 all seat.1 end.1)
          (all_at (λ (token : TokenRecord). IsPrefix token.seen log) (map closed_of spoken) i client closed.begin
          at_client)
          (all_at (λ (token : TokenRecord). Owns token.who token.mine log) (map closed_of spoken) i client closed.own
          at_client);
      ended = ended;
      ended_are = still;
      ended_begin = closed.ended_begin;
      true_log = closed.true_log;
      legal = closed.legal;
      named = subst (λ n. IsOfClients n log) count closed.named;
    }

-- what is left, where anything is, is a run of speakers
pub stream_where : {X Y S L Z E : Type 0} (Spoken : S → TokenRecord → TokenRecord → L → Type 0) (result : Result Z E)
    (left_in : Z → List L) (log_in : Z → List CommitRecord) (table : TableRecord) (speakers : List S) (seats : List X)
    (spoken : List Y) (client_of : X → TokenRecord) (speaker_of : X → S) (closed_of : Y → TokenRecord) (left_of : Y → L)
    (ended : List TokenRecord)
    → table.clients ≡ length speakers → map client_of seats ≡ new_clients table → map speaker_of seats ≡ speakers
    → AllZip (λ seat one. IsSpoken Spoken (speaker_of seat) (client_of seat) (closed_of one) (left_of one)) seats spoken
    → AreStill (new_dispatchers table) ended
    → IfOk result (λ run. IsClosedWith table (map closed_of spoken) ended (log_in run))
    → IfOk result (λ run. left_in run ≡ map left_of spoken)
    → IfOk result (λ run. IsStreamRun Spoken table.base speakers table.dispatchers (left_in run) (log_in run))
stream_where Spoken (Ok run) left_in log_in table speakers seats spoken client_of speaker_of closed_of left_of ended
    count new of_speakers all still closed left_are =
    is_stream_run Spoken table speakers seats spoken client_of speaker_of closed_of left_of ended (left_in run)
    (log_in run) count new of_speakers all still closed left_are
stream_where Spoken (Err e) left_in log_in table speakers seats spoken client_of speaker_of closed_of left_of ended
    count new of_speakers all still closed left_are = closed

-- the clients of seats ask nothing
pub seats_ask_nothing : {X : Type 0} (table : TableRecord) (clients : List TokenRecord) (seats : List X)
    (client_of : X → TokenRecord) → map client_of seats ≡ clients → All (IsQuiet table) clients
    → All (λ seat. IsQuiet table (client_of seat)) seats
seats_ask_nothing table clients seats client_of are quiet =
    all_mapped (IsQuiet table) client_of seats (subst (All (IsQuiet table)) (sym are) quiet)

-- what was spoken to a seat was spoken to its client by its speaker
spoken_so : {S L : Type 0} (Spoken : S → TokenRecord → TokenRecord → L → Type 0) (seated speaker : S)
    (sat client ended after : TokenRecord) (remains one : L) → seated ≡ speaker → sat ≡ client → ended ≡ after
    → remains ≡ one → IsSpoken Spoken seated sat ended remains → IsSpoken Spoken speaker client after one
spoken_so Spoken seated speaker sat client ended after remains one same_speaker same_client same_end same_left is =
    subst (λ l. IsSpoken Spoken speaker client after l) same_left
    (subst (λ t. IsSpoken Spoken speaker client t remains) same_end
    (subst (λ t. IsSpoken Spoken speaker t ended remains) same_client
    (subst (λ s. IsSpoken Spoken s sat ended remains) same_speaker is)))

-- each speaker was given the client of its place
pub are_spoken : {X Y S L : Type 0} (Spoken : S → TokenRecord → TokenRecord → L → Type 0) (speakers : List S)
    (clients : List TokenRecord) (seats : List X) (spoken : List Y) (client_of : X → TokenRecord) (speaker_of : X → S)
    (closed_of : Y → TokenRecord) (left_of : Y → L) → map client_of seats ≡ clients → map speaker_of seats ≡ speakers
    → AllZip (λ seat one. IsSpoken Spoken (speaker_of seat) (client_of seat) (closed_of one) (left_of one)) seats spoken
    → AreSpoken Spoken speakers clients (map closed_of spoken) (map left_of spoken)
are_spoken {X} {Y} Spoken speakers clients seats spoken client_of speaker_of closed_of left_of of_clients of_speakers
    all =
    let Fits : X → Y → Type 0 =
    λ seat one. IsSpoken Spoken (speaker_of seat) (client_of seat) (closed_of one) (left_of one) in
    let many : length spoken ≡ length speakers =
    AllZip-long Fits seats spoken all ∙ (sym (length-map seats speaker_of) ∙ ap length of_speakers) in record {
      closed_each = length-map spoken closed_of ∙ many;
      left_each = length-map spoken left_of ∙ many;
      each = λ i speaker client after one at_speaker at_client at_after at_left.
          let seat = get_mapped speaker_of seats i speaker (ap (λ xs. slice_get xs i) of_speakers ∙ at_speaker) in
          let end = get_mapped closed_of spoken i after at_after in
          spoken_so Spoken (speaker_of seat.0) speaker (client_of seat.0) client (closed_of end.0) after
          (left_of end.0) one seat.2
          (some_is (sym (map_at client_of seats i seat.0 seat.1)
          ∙ (ap (λ xs. slice_get xs i) of_clients ∙ at_client)))
          end.2 (some_is (sym (map_at left_of spoken i end.0 end.1) ∙ at_left))
          (zip_at Fits seats spoken i seat.0 end.0 all seat.1 end.1);
    }
