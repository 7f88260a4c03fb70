-- Values that are the same are hashed alike.
use Rattle.std.specs.Prelude.{◌≡◌, IsTrue}
use Rattle.std.proofs.Common.{ap}
use Rattle.ssb_questions.specs.declared.value.Value.{Value}
use Rattle.ssb_questions.proofs.ValueLaws.{value_Decides}
use Rattle.dimension_index.specs.Codes.{is_same, hash_input_of}

pub same_values_hash_alike : (a b : Value) → IsTrue (is_same a b) → hash_input_of a ≡ hash_input_of b
same_values_hash_alike a b same = ap hash_input_of ((value_Decides a b).0 same)
