-- The first fault of the answers: of their order, or of their rows.
use Rattle.std.proofs.Common.{◌≡◌, ℕ, ◌<◌, ◌≤◌, Bool, true, false, List, length, take, get_or, refl, ap, sym, ◌∙◌}
use Rattle.std.proofs.Common.{arith}
use Rattle.std.specs.Prelude.{Option, Some, None, slice_get, if◌then◌else◌, All}
use Rattle.std.specs.Option.{option_or}
use Rattle.std.proofs.lemmas.List.{length-take}
use Rattle.std.proofs.lemmas.Option.{slice_get_within, slice_get-get_or, get_or_from_slice_get, slice_get_read}
use Rattle.ssb_base.specs.Base.{Tables}
use Rattle.row_store.specs.History.{CommitRecord}
use Rattle.ssb_audit.specs.InOrder.{AreInOrder, IsDisorder}
use Rattle.ssb_audit.specs.Traces.{first_from, turn_of, order_fault, rows_fault, answer_fault}
use Rattle.ssb_audit.specs.Visits.{has_its_rows, IsFirstWrong}
use Rattle.ssb_audit.specs.declared.fault.AuditFault.{AuditFault}
use Rattle.ssb_audit.specs.declared.fault.AuditFault.TheVariants.{WrongRows}
use Rattle.ssb_audit.specs.declared.trace.Told.{Told}
use Rattle.ssb_audit.proofs.FirstLaws.{first_clear, first_stops, first_ends}
use Rattle.ssb_audit.proofs.LegalLaws.{order_clear}
use Rattle.ssb_audit.proofs.WalkLaws.{take_at}

-- answers in order are after no more commits than there are
pub within_commits : (commits : ℕ) (answers : List Told) (count : ℕ) (fault : Option AuditFault)
    → AreInOrder commits answers count fault
    → All (λ told. told.at ≤ commits) (take count answers)
within_commits commits answers count fault are k d lt =
    let told = get_or (take count answers) k d in
    let less : k < count = omega (arith, lt, length-take count answers, are.within) in
    let there : slice_get answers k ≡ Some told = sym (take_at count answers k less)
    ∙ slice_get-get_or (take count answers) k d lt in
    (order_clear commits (take k answers) told (are.clear k told less there)).0

-- the fault of an answer in order is that of its rows
in_order : (base : Tables) (commits : List CommitRecord) (answers : List Told) (i : ℕ) (told : Told) (b : Bool)
    → order_fault (length commits) (take i answers) told ≡ None
    → has_its_rows base commits told ≡ b → answer_fault base commits answers i
    told ≡ (if b then None else Some (WrongRows told.client (turn_of told.client (take i answers))))
in_order base commits answers i told b none has =
    ap (λ o. option_or o (rows_fault base (take told.at commits) (take i answers) told)) none
    ∙ ap (λ t. if t then None else Some (WrongRows told.client (turn_of told.client (take i answers)))) has

-- answers in order that have their rows have no fault
all_clear : (base : Tables) (commits : List CommitRecord) (answers : List Told) (count wrong : ℕ)
    (fault : Option AuditFault) → AreInOrder (length commits) answers count fault
    → IsFirstWrong base commits (take count answers) wrong → (i : ℕ) (told : Told) → i < count → i < wrong
    → slice_get answers i ≡ Some told
    → answer_fault base commits answers i told ≡ None
all_clear base commits answers count wrong fault are first i told less before there =
    in_order base commits answers i told true (are.clear i told less there)
    (first.right i told before (take_at count answers i less ∙ there))

-- the first answer with wrong rows is the first with a fault
pub wrong_is_first : (base : Tables) (commits : List CommitRecord) (answers : List Told) (count wrong : ℕ)
    (fault : Option AuditFault) (told : Told)
    → AreInOrder (length commits) answers count fault → IsFirstWrong base commits (take count answers) wrong
    → wrong < count → told ≡ get_or answers wrong told
    → first_from (answer_fault base commits answers) 0 answers ≡ Some
    (WrongRows told.client (turn_of told.client (take wrong answers)))
wrong_is_first base commits answers count wrong fault told are first less is =
    let within : wrong < length answers = omega (arith, less, are.within) in
    let le : wrong ≤ length answers = omega (arith, within) in
    let there : slice_get answers wrong ≡ Some told = slice_get_read answers (length answers) wrong told refl within is
    in
    first_clear (answer_fault base commits answers) answers wrong le
    (λ i t lt. all_clear base commits answers count wrong fault are first i t (omega (arith, lt, less)) lt)
    ∙ first_stops (answer_fault base commits answers) answers wrong told
    (WrongRows told.client (turn_of told.client (take wrong answers))) within is
    (in_order base commits answers wrong told false (are.clear wrong told less there)
    (first.wrong told (take_at count answers wrong less ∙ there)))

-- where no rows are wrong before a fault of order, that is the first
pub disorder_is_first : (base : Tables) (commits : List CommitRecord) (answers : List Told) (count wrong : ℕ)
    (e : AuditFault)
    → AreInOrder (length commits) answers count (Some e) → IsFirstWrong base commits (take count answers) wrong
    → count ≤ wrong
    → first_from (answer_fault base commits answers) 0 answers ≡ Some e
disorder_is_first base commits answers count wrong e are first past =
    let next : IsDisorder (length commits) answers count e = are.next in
    first_clear (answer_fault base commits answers) answers count are.within
    (λ i t lt. all_clear base commits answers count wrong (Some e) are first i t lt (omega (arith, lt, past)))
    ∙ first_stops (answer_fault base commits answers) answers count next.told e
    (slice_get_within answers count next.told next.there)
    (sym (get_or_from_slice_get answers count next.told next.told next.there))
    (ap (λ o. option_or o (rows_fault base (take next.told.at commits) (take count answers) next.told)) next.told_is)

-- where all are in order and have their rows, there is no fault
pub no_fault_at_all : (base : Tables) (commits : List CommitRecord) (answers : List Told) (count wrong : ℕ)
    → AreInOrder (length commits) answers count None → IsFirstWrong base commits (take count answers) wrong
    → count ≤ wrong
    → first_from (answer_fault base commits answers) 0 answers ≡ None
no_fault_at_all base commits answers count wrong are first past =
    let all : count ≡ length answers = are.next in
    first_clear (answer_fault base commits answers) answers count are.within
    (λ i t lt. all_clear base commits answers count wrong None are first i t lt (omega (arith, lt, past)))
    ∙ first_ends (answer_fault base commits answers) answers count all
