-- When a record's row is taken, and when it is refused.
use Rattle.std.proofs.Common.{◌≡◌, true, ℕ, ◌+◌, List, [], ◌∷◌, ◌++◌, length, Some, None, Result, Ok, Err, refl}
use Rattle.std.proofs.Common.{add-zero, arith}
use Rattle.ssb_schema.specs.Columns.{Value, kinds_of, row_fault}
use Rattle.ssb_schema.specs.declared.kind.Kind.{Kind}
use Rattle.ssb_schema.specs.declared.table.Table.{Table}
use Rattle.ssb_schema.specs.declared.fault.SchemaFault.{SchemaFault}
use Rattle.ssb_text.specs.declared.error.LineFault.{LineFault}
use Rattle.ssb_text.specs.declared.error.LineFault.TheVariants as fault
use Rattle.ssb_text.specs.Records.{has_columns}
use Rattle.ssb_text.specs.Row.{row_of, values_from, ◌>>=◌, Fails}

pub row_taken : (t : Table) (fields : List (List ℕ)) (values : List Value)
    → has_columns (length (kinds_of t)) fields ≡ true
    → values_from t 0 (kinds_of t) fields ≡ Ok values → row_fault t values ≡ None → row_of t fields ≡ Ok values
unfolding row_of
row_taken t fields values columns spelled good = rw (columns, spelled, good) refl

pub row_refused : (t : Table) (fields : List (List ℕ)) (values : List Value) (why : SchemaFault)
    → has_columns (length (kinds_of t)) fields ≡ true
    → values_from t 0 (kinds_of t) fields ≡ Ok values → row_fault t values ≡ Some why
    → row_of t fields ≡ Err (fault.Refused why)
unfolding row_of
row_refused t fields values why columns spelled bad = rw (columns, spelled, bad) refl

-- a fault of what comes first is the fault of all
fails_before : {A B : Type 0} (e : LineFault) (r : Result A LineFault) (f : A → Result B LineFault) → Fails e r
    → Fails e (r >>= f)
fails_before fault.OutOfMemory r f is = tt
fails_before fault.FieldCount r f is = rw is refl
fails_before (fault.NotUtf8 column) r f is = rw is refl
fails_before (fault.NotANumber column) r f is = rw is refl
fails_before (fault.Refused why) r f is = rw is refl

-- the columns of a row in two parts
two_parts : (value : Result Value LineFault) (first last : Result (List Value) LineFault)
    → (value >>= λ v. (first >>= λ vs. last >>= λ ws. Ok (vs ++ ws)) >>= λ vs. Ok (v ∷ vs))
    ≡ ((value >>= λ v. first >>= λ vs. Ok (v ∷ vs)) >>= λ vs. last >>= λ ws. Ok (vs ++ ws))
two_parts (Err e) first last = refl
two_parts (Ok v) (Err e) last = refl
two_parts (Ok v) (Ok vs) (Err e) = refl
two_parts (Ok v) (Ok vs) (Ok ws) = refl

only_last : (last : Result (List Value) LineFault) → last ≡ (last >>= λ ws. Ok ([] ++ ws))
only_last (Ok ws) = refl
only_last (Err e) = refl

values_from-append : (t : Table) (place : ℕ) (first last : List Kind) (fields : List (List ℕ))
    → values_from t place (first ++ last) fields ≡ (values_from t place first fields >>= λ vs. values_from t
    (place + length first) last fields >>= λ ws. Ok (vs ++ ws))
unfolding values_from
values_from-append t place [] last fields = grind (arith, add-zero, only_last)
values_from-append t place (k ∷ first) last fields = grind (arith, two_parts, values_from-append t (place + 1) first last fields)

-- both parts, or the first fault of either
pub both_parts : (t : Table) (place : ℕ) (first last : List Kind) (fields : List (List ℕ)) (vs ws : List Value)
    → values_from t place first fields ≡ Ok vs → values_from t (place + length first) last fields ≡ Ok ws
    → values_from t place (first ++ last) fields ≡ Ok (vs ++ ws)
both_parts t place first last fields vs ws a b = rw (values_from-append t place first last fields, a, b) refl

pub last_fails : (t : Table) (place : ℕ) (first last : List Kind) (fields : List (List ℕ)) (vs : List Value)
    (e : LineFault)
    → values_from t place first fields ≡ Ok vs → Fails e (values_from t (place + length first) last fields)
    → Fails e (values_from t place (first ++ last) fields)
last_fails t place first last fields vs e a b = grind (arith, values_from-append, fails_before)

pub first_fails : (t : Table) (place : ℕ) (first last : List Kind) (fields : List (List ℕ)) (e : LineFault)
    → Fails e (values_from t place first fields) → Fails e (values_from t place (first ++ last) fields)
first_fails t place first last fields e a = grind (arith, values_from-append, fails_before)
