-- What is told of lines of heads.
use Rattle.std.proofs.Common.{◌≡◌, ⊎_elim, ap, List, ℕ, Option, arith}
use Rattle.ssb_files.specs.Status.{data_status}
use Rattle.ssb_schema.specs.declared.table.Table.{Table}
use Rattle.ssb_text.specs.Layouts.{AreRows, HasHeadsFault}
use Rattle.ssb_text.specs.declared.error.LoadError.{LoadError}
use Rattle.ssb_text.specs.declared.error.LoadError.TheVariants as load
use Rattle.ssb_text.specs.declared.table_files.TableFiles.{TableFiles}

read_is_four : (e : LoadError) (t : Table) → e ≡ load.Read t → data_status e ≡ 1 → ⊥
read_is_four e t is one = let four : data_status e ≡ 4 = ap data_status is in omega (arith, one, four)

-- where they are refused, no texts are those of the rows
pub no_rows_told : {R : Type 0} (remaining : R → Option (List ℕ)) (files : TableFiles R) (e : LoadError)
    → HasHeadsFault remaining files e → data_status e ≡ 1 → (texts : Table → List ℕ) → AreRows remaining files texts → ⊥
no_rows_told remaining files e fault one texts are =
    ⊎_elim (λ read. read_is_four e fault.0 read one) (λ told. told.1 (texts fault.0) (are fault.0)) fault.1
