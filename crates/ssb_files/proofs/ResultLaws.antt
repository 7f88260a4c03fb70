-- What a result tells of one outcome.
use Rattle.std.specs.Prelude.{◌≡◌, true, false, is_err, Result, Ok, Err, MatchResult, IfOk, OnOk, OnErr}

pub on_ok_from : {X E : Type 0} (r : Result X E) (A B P : Type 0) → MatchResult r (λ _. A) (λ _. B) → (A → P) → OnOk r P
on_ok_from (Ok x) A B P of f = f of
on_ok_from (Err e) A B P of f = tt

pub on_err_from : {X E : Type 0} (r : Result X E) (A B P : Type 0) → MatchResult r (λ _. A) (λ _. B) → (B → P)
    → OnErr r P
on_err_from (Ok x) A B P of f = tt
on_err_from (Err e) A B P of f = f of

pub if_ok_from : {X E : Type 0} (r : Result X E) (P Q : X → Type 0) → IfOk r P → ((x : X) → P x → Q x) → IfOk r Q
if_ok_from (Ok x) P Q of f = f x of
if_ok_from (Err e) P Q of f = tt

pub is_ok_of : {X E : Type 0} (r : Result X E) (P Q : Type 0) → MatchResult r (λ _. P) (λ _. Q) → is_err r ≡ false → P
is_ok_of (Ok x) P Q of ok = of
is_ok_of (Err e) P Q of ok = absurd cc

pub is_err_of : {X E : Type 0} (r : Result X E) (P Q : Type 0) → MatchResult r (λ _. P) (λ _. Q) → is_err r ≡ true → Q
is_err_of (Ok x) P Q of failed = absurd cc
is_err_of (Err e) P Q of failed = of

pub ok_then : {X E : Type 0} (r : Result X E) (A P : Type 0) → OnOk r A → (A → P) → OnOk r P
ok_then (Ok x) A P of f = f of
ok_then (Err e) A P of f = tt

pub err_then : {X E : Type 0} (r : Result X E) (A P : Type 0) → OnErr r A → (A → P) → OnErr r P
err_then (Ok x) A P of f = tt
err_then (Err e) A P of f = f of

pub from_ok : {X E : Type 0} (r : Result X E) (P : Type 0) → OnOk r P → is_err r ≡ false → P
from_ok (Ok x) P of ok = of
from_ok (Err e) P of ok = absurd cc

pub from_err : {X E : Type 0} (r : Result X E) (P : Type 0) → OnErr r P → is_err r ≡ true → P
from_err (Ok x) P of failed = absurd cc
from_err (Err e) P of failed = of
