-- The texts of numbers and causes are UTF-8.
use Rattle.std.proofs.Common.{ℕ, false, List, [], ◌++◌, codes, decimal, refl, IsUtf8, arith}
use Rattle.std.proofs.DigitsParse.{digits-IsUtf8}
use Rattle.std.proofs.lemmas.Str.{IsUtf8-append, IsUtf8-nil}
use Rattle.row_store.specs.declared.refusal.Cause.{Cause}
use Rattle.row_store.specs.declared.refusal.Cause.TheVariants.{LogFull, Present, UnknownCustomer, UnknownSupplier}
use Rattle.row_store.specs.declared.refusal.Cause.TheVariants.{UnknownPart, UnknownDate, LinesFull, Absent, AmendAbsent}
use Rattle.ssb_report.specs.RefreshText.{cause_text}

pub number_is_text : (n : ℕ) → IsUtf8 (decimal n)
number_is_text n = digits-IsUtf8 10 false n (omega arith) (omega arith)

-- a name, and a number behind it
pub numbered_is_text : (name : List ℕ) (n : ℕ) → IsUtf8 name → IsUtf8 (name ++ (decimal n ++ []))
numbered_is_text name n text =
    IsUtf8-append name (decimal n ++ []) text (IsUtf8-append (decimal n) [] (number_is_text n) IsUtf8-nil)

pub cause_is_text : (cause : Cause) → IsUtf8 (cause_text cause)
unfolding lib.Utf8.encode
cause_is_text LogFull = (codes "40 LogFull", (refl, refl))
cause_is_text (Present key) = numbered_is_text (codes "41 Present ") key (codes "41 Present ", (refl, refl))
cause_is_text UnknownCustomer = (codes "42 UnknownCustomer", (refl, refl))
cause_is_text UnknownSupplier = (codes "43 UnknownSupplier", (refl, refl))
cause_is_text UnknownPart = (codes "44 UnknownPart", (refl, refl))
cause_is_text UnknownDate = (codes "45 UnknownDate", (refl, refl))
cause_is_text LinesFull = (codes "46 LinesFull", (refl, refl))
cause_is_text (Absent key) = numbered_is_text (codes "47 Absent ") key (codes "47 Absent ", (refl, refl))
cause_is_text (AmendAbsent key) =
    numbered_is_text (codes "48 AmendAbsent ") key (codes "48 AmendAbsent ", (refl, refl))
