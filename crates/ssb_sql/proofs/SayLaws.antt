-- Pieces, one after another; and a reading on its way.
use Rattle.std.proofs.Common.{◌≡◌, ◌∙◌, ap, sym, refl, arith, ℕ, ◌+◌, ◌<◌, ◌≤◌, List, [], ◌∷◌, ◌++◌, length, drop}
use Rattle.std.proofs.Common.{true, false, None, Some, Ok, Err}
use Rattle.std.proofs.Math.ListN.{get_or}
use Rattle.std.proofs.lemmas.List.{drop_all, drop_more, length-drop}
use Rattle.ssb_sql.specs.Reading.{Outcome, ended, gone_on, read, run, said, say, say_all}
use Rattle.ssb_sql.specs.Step.{may_end, step}
use Rattle.ssb_sql.specs.declared.piece.SqlPiece.{SqlPiece}
use Rattle.ssb_sql.specs.declared.state.State.{State}
use Rattle.ssb_sql.specs.declared.state.SqlStep.{SqlStep}
use Rattle.ssb_sql.specs.declared.token.SqlToken.{SqlToken}

-- one more at the end
pub say_all_last : (ps : List SqlPiece) (p : SqlPiece) (outcome : Outcome)
    → say_all (ps ++ p ∷ []) outcome ≡ say_all ps (say p outcome)
say_all_last [] p outcome = refl
say_all_last (q ∷ ps) p outcome = ap (say q) (say_all_last ps p outcome)

-- a fault stays
say_all_err : (ps : List SqlPiece) (left : ℕ) → say_all ps (Err left) ≡ Err left
say_all_err [] left = refl
say_all_err (q ∷ ps) left = ap (say q) (say_all_err ps left)

-- nothing more
say_all_end : (ps : List SqlPiece) → say_all ps (Ok []) ≡ Ok ps
say_all_end [] = refl
say_all_end (q ∷ ps) = ap (say q) (say_all_end ps)

-- a token that may not come
pub stops : (tokens : List SqlToken) (i : ℕ) (d : SqlToken) (at : State) (found : List SqlPiece) (left : ℕ) → i < length tokens
    → step at (get_or tokens i d) ≡ None → say_all found (run (drop i tokens) at) ≡ read tokens
    → left + i ≡ length tokens → read tokens ≡ Err left
stops tokens i d at found left within none told counted =
    let rest = drop (i + 1) tokens in
    let token = get_or tokens i d in
    let is_left : length (token ∷ rest) ≡ left = omega (arith, length-drop (i + 1) tokens, within, counted) in
    sym told
    ∙ (ap (λ ts. say_all found (run ts at)) (drop_more tokens i d within)
    ∙ (ap (λ taken. say_all found (gone_on taken (length (token ∷ rest)) (run rest))) none
    ∙ (ap (λ n. say_all found (gone_on None n (run rest))) is_left ∙ say_all_err found left)))

-- one that may
pub goes : (tokens : List SqlToken) (i : ℕ) (d : SqlToken) (at : State) (taken : SqlStep) (found new : List SqlPiece)
    → i < length tokens → step at (get_or tokens i d) ≡ Some taken
    → ((outcome : Outcome) → say_all new outcome ≡ say_all found (said taken.says outcome))
    → say_all found (run (drop i tokens) at) ≡ read tokens
    → say_all new (run (drop (i + 1) tokens) taken.next) ≡ read tokens
goes tokens i d at taken found new within is noted told =
    let rest = drop (i + 1) tokens in
    let token = get_or tokens i d in
    noted (run rest taken.next)
    ∙ (sym (ap (λ one. say_all found (gone_on one (length (token ∷ rest)) (run rest))) is)
    ∙ (sym (ap (λ ts. say_all found (run ts at)) (drop_more tokens i d within)) ∙ told))

-- no token is left
all_read : (tokens : List SqlToken) (i : ℕ) (at : State) (found : List SqlPiece) → length tokens ≤ i
    → say_all found (run (drop i tokens) at) ≡ read tokens → read tokens ≡ say_all found (ended (may_end at))
all_read tokens i at found past told =
    sym told ∙ ap (λ ts. say_all found (run ts at)) (drop_all i tokens past)

pub ends : (tokens : List SqlToken) (i : ℕ) (at : State) (found : List SqlPiece) → length tokens ≤ i → may_end at ≡ true
    → say_all found (run (drop i tokens) at) ≡ read tokens → read tokens ≡ Ok found
ends tokens i at found past may told =
    all_read tokens i at found past told ∙ (ap (λ b. say_all found (ended b)) may ∙ say_all_end found)

pub lacks : (tokens : List SqlToken) (i : ℕ) (at : State) (found : List SqlPiece) → length tokens ≤ i → may_end at ≡ false
    → say_all found (run (drop i tokens) at) ≡ read tokens → read tokens ≡ Err 0
lacks tokens i at found past may told =
    all_read tokens i at found past told ∙ (ap (λ b. say_all found (ended b)) may ∙ say_all_err found 0)
