-- The constants that words stand for, and the question that is made of them.
use Rattle.std.proofs.Common.{◌≡◌, ℕ, List, [], ◌∷◌, Some, Result, Ok, Err, IfErr, true, false, length, map}
use Rattle.std.proofs.Common.{nat_eq, refl, arith, eqb-true}
use Rattle.query_command.specs.Asked.{AskNothing, constants_asked, kinds_of}
use Rattle.query_command.specs.Asked.{values_spelled}
use Rattle.ssb_files.specs.Status.{status_of}
use Rattle.ssb_files.specs.declared.fault.Fault.{Fault}
use Rattle.ssb_questions.specs.Queries.{standard_constants}
use Rattle.ssb_questions.specs.Query.{name_of}
use Rattle.ssb_questions.specs.Question.{constants_fault, fault_of}
use Rattle.ssb_questions.specs.declared.query.Query.{Query}
use Rattle.ssb_questions.specs.declared.question.ConstantsFault.{ConstantsFault}
use Rattle.ssb_questions.specs.declared.question.QuestionError.{QuestionError}
use Rattle.ssb_questions.specs.declared.value.Value.{Value}

-- where words are given, the constants are theirs; else those of the query
pub given_asked : {A : Type 0} (query : Query) (f : A → List ℕ) (words : List A) → nat_eq (length words) 0 ≡ false
    → values_spelled (kinds_of query) (map f words) ≡ constants_asked query (map f words)
given_asked query f [] some = absurd cc
given_asked query f (word ∷ words) some = refl

pub none_asked : {A : Type 0} (query : Query) (f : A → List ℕ) (words : List A) → nat_eq (length words) 0 ≡ true
    → standard_constants query ≡ constants_asked query (map f words)
none_asked query f [] none = grind arith
none_asked query f (word ∷ words) none = grind (arith, eqb-true)

-- where the constants of a question were refused, none is asked
pub is_refused : (name : List ℕ) (words : List (List ℕ)) (query : Query) (constants : List Value)
    (made : Result (Query × List Value) QuestionError) (result : Result (Query × List Value) Fault)
    → name_of query ≡ name → constants ≡ constants_asked query words
    → fault_of made ≡ constants_fault query constants
    → IfErr result (λ why. status_of why ≡ 2 → (refused : ConstantsFault) × (fault_of made ≡ Some refused))
    → IfErr result (λ why. status_of why ≡ 2 → AskNothing name words)
is_refused name words query constants made (Ok question) named given fault is = grind arith
is_refused name words query constants made (Err why) named given fault is = grind arith
