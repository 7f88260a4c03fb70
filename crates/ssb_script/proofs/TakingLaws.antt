-- Laws of what a read takes.
use Rattle.std.proofs.Common.{◌≡◌, ◌<◌, ◌-◌, ℕ, true, false, Ok, drop, List, [], ◌++◌, length, take, Option}
use Rattle.std.proofs.Common.{Some, None, sym, ap, subst, ◌∙◌, append_assoc, append-nil, arith, length-append}
use Rattle.std.proofs.Common.{length-drop}
use Rattle.std.proofs.lemmas.List.{take_all}
use Rattle.std.specs.Option.{IfSome}
use Rattle.std.specs.Io.{StartsWith}
use Rattle.std.specs.Io.KnownBytes.{Consumes, Keeps}
use Rattle.std.proofs.KnownBytes.{Consumes-nil, Consumes-trans, Consumes-kept}
use Rattle.std.proofs.Transfers.{starts_with_length, drop-appended}
use Rattle.ssb_text.specs.TextLines.{HasNoLineEnd, IsLine}
use Rattle.ssb_script.specs.Cutting.{IsRequest, IsUnfinished}
use Rattle.ssb_script.specs.NextRequest.{IsAllOf, IsLessThan, IsRequestFault}
use Rattle.ssb_script.specs.Taking.{Took, IsPiece, TellsLine, IsLineFault, IsOpen}
use Rattle.ssb_script.specs.Blocks.{begun_behind, ends_request}
use Rattle.ssb_script.specs.declared.block.BlockKind.{BlockKind}
use Rattle.ssb_script.specs.declared.pieces.LinePiece.TheVariants as piece
use Rattle.ssb_script.specs.declared.request_error.RequestError.{RequestError}
use Rattle.ssb_script.specs.declared.request_error.RequestError.TheVariants as error
use Rattle.ssb_text.proofs.LineLaws.{line-append}
use Rattle.ssb_script.proofs.RequestLaws.{open_is_unfinished, line_ends, line_goes_on}

-- a read that took nothing
pub took_nothing : (a c : Option (List ℕ)) (x : List ℕ) (Is : List ℕ → Type 0) → Keeps a c → Is [] → Took a c x x Is
took_nothing a c x Is kept is = record {
  bytes = [];
  appended = sym (append-nil x);
  taken = Consumes-kept a a c [] (Consumes-nil a) kept;
  is = is;
}

-- what two reads took, one after the other
pub took_both : (a b c : Option (List ℕ)) (x y z : List ℕ) (P Q R : List ℕ → Type 0) → (p : Took a b x y P)
    → (q : Took b c y z Q) → R (p.bytes ++ q.bytes) → Took a c x z R
took_both a b c x y z P Q R p q both = record {
  bytes = p.bytes ++ q.bytes;
  appended = q.appended ∙ ap (λ bytes. bytes ++ q.bytes) p.appended ∙ append_assoc x p.bytes q.bytes;
  taken = Consumes-trans a b c p.bytes q.bytes p.taken q.taken;
  is = both;
}

-- a look that showed nothing, and one that showed something
pub shown_none : (a : Option (List ℕ)) (shown : List ℕ) → IfSome a (λ xs. length shown ≡ 0 → xs ≡ [])
    → length shown ≡ 0 → IsAllOf a []
shown_none None shown end none = tt
shown_none (Some text) shown end none = end none

pub shown_some : (a : Option (List ℕ)) (shown : List ℕ) → IfSome a (λ xs. StartsWith xs shown) → 0 < length shown
    → IsLessThan a []
shown_some None shown front some = tt
shown_some (Some text) shown front some = omega (arith, starts_with_length text shown front)

-- the rest of a text, behind what was taken of it
pub all_behind : (a b : Option (List ℕ)) (xs ys : List ℕ) → Consumes a b xs → IsAllOf b ys → IsAllOf a (xs ++ ys)
all_behind None b xs ys taken all = tt
all_behind (Some t) None xs ys taken all = absurd taken
all_behind (Some t) (Some u) xs ys taken all = taken ∙ ap (λ r. xs ++ r) all

pub less_behind : (a b : Option (List ℕ)) (xs ys : List ℕ) → Consumes a b xs → IsLessThan b ys
    → IsLessThan a (xs ++ ys)
less_behind None b xs ys taken less = tt
less_behind (Some t) None xs ys taken less = absurd taken
less_behind (Some t) (Some u) xs ys taken less =
    omega (arith, less, ap length taken, length-append xs u, length-append xs ys)

-- a look behind the bytes that were taken of a line: it ends the line, the text ends there, the line goes on, or the
-- look failed
pub line_after : (a b c : Option (List ℕ)) (x y z : List ℕ) (limit count : ℕ) → Took a b x y HasNoLineEnd
    → Took b c y z (IsPiece piece.Line b) → Took a c x z (TellsLine (Ok true) limit count a)
line_after a b c x y z limit count p q =
    took_both a b c x y z HasNoLineEnd _ _ p q (line-append p.bytes q.bytes p.is q.is)

-- the bytes of a buffer behind those that stood there before
pub line_behind : (buffer x z bytes : List ℕ) (start : ℕ) → buffer ≡ z → start ≡ length x → z ≡ x ++ bytes
    → take (length buffer - start) (drop start buffer) ≡ bytes
line_behind buffer x z bytes start same at appended =
    take_all (length buffer - start) (drop start buffer) (omega (arith, length-drop start buffer))
    ∙ ap (drop start) same ∙ ap (λ n. drop n z) at ∙ drop-appended x z bytes appended

-- what a read of a line says of the request that was begun before it
pub request_ends : (begun : Option BlockKind) (b c : Option (List ℕ)) (x z line : List ℕ) → IsOpen begun x
    → (q : Took b c x z IsLine) → line ≡ q.bytes → ends_request begun line ≡ true → IsRequest z
request_ends begun b c x z line opened q same ends =
    subst IsRequest (sym q.appended) (line_ends begun x q.bytes opened q.is
    (ap (ends_request begun) (sym same) ∙ ends))

pub request_goes_on : (begun : Option BlockKind) (b c : Option (List ℕ)) (x z line : List ℕ) → IsOpen begun x
    → (q : Took b c x z IsLine) → line ≡ q.bytes → ends_request begun line ≡ false → IsOpen (begun_behind begun line) z
request_goes_on begun b c x z line opened q same ends =
    let goes = line_goes_on begun x q.bytes opened q.is (ap (ends_request begun) (sym same) ∙ ends) in
    subst (IsOpen (begun_behind begun line)) (sym q.appended)
    (subst (λ l. IsOpen (begun_behind begun l) (x ++ q.bytes)) (sym same) goes)

pub request_left : (begun : Option BlockKind) (a b c : Option (List ℕ)) (x z : List ℕ) (limit count : ℕ)
    → IsOpen begun x → Consumes a b x → Took b c x z (TellsLine (Ok false) limit count b) → IsUnfinished z × IsAllOf a z
request_left begun a b c x z limit count opened taken q =
    let P : List ℕ → Type 0 = λ bytes. IsUnfinished bytes × IsAllOf a bytes in
    subst P (sym q.appended)
    (open_is_unfinished begun x q.bytes opened q.is.0, all_behind a b x q.bytes taken q.is.1)

pub request_fault : (why : RequestError) (begun : Option BlockKind) (a b c : Option (List ℕ)) (x z : List ℕ) (limit : ℕ)
    → IsOpen begun x → Consumes a b x → Took b c x z (IsLineFault why limit (length z) b)
    → IsRequestFault why limit a z
request_fault error.TooLong begun a b c x z limit opened taken q = (
  subst IsUnfinished (sym q.appended) (open_is_unfinished begun x q.bytes opened q.is.0),
  q.is.1,
  subst (IsLessThan a) (sym q.appended) (less_behind a b x q.bytes taken q.is.2),
)
request_fault error.Read begun a b c x z limit opened taken q =
    subst IsUnfinished (sym q.appended) (open_is_unfinished begun x q.bytes opened q.is)
request_fault error.OutOfMemory begun a b c x z limit opened taken q =
    subst IsUnfinished (sym q.appended) (open_is_unfinished begun x q.bytes opened q.is)

-- the bytes of the line join those that were taken before
pub taken_on : (a b c : Option (List ℕ)) (x z : List ℕ) (Is : List ℕ → Type 0) → Consumes a b x → Took b c x z Is
    → Consumes a c z
taken_on a b c x z Is taken q = subst (Consumes a c) (sym q.appended) (Consumes-trans a b c x q.bytes taken q.taken)
