use Rattle.std.proofs.Common.{◌≡◌, codes, subst, sym}
use Rattle.changes_command.specs.JsonText.{sign_member}
use Rattle.changes_command.specs.declared.signed.Sign.{Sign}
use Rattle.changes_command.proofs.JsonLaws.{came_member, went_member}
use Rattle.changes_command.proofs.json_text.mark.Goals as goal

pub returns-in-Came : goal.returns-in-Came
returns-in-Came c =
    subst (λ (sign : Sign). codes ",\"SIGN\":1" ≡ sign_member sign) (sym c.in-Came.is) came_member

pub returns-in-Went : goal.returns-in-Went
returns-in-Went c =
    subst (λ (sign : Sign). codes ",\"SIGN\":-1" ≡ sign_member sign) (sym c.in-Went.is) went_member
