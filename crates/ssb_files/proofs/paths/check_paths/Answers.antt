use Rattle.std.proofs.Common.{rules, ◌≡◌, Some, find}
use Rattle.std.specs.Prelude.{string_bytes}
use Rattle.ssb_files.specs.Paths.{AreApart, is_full}
use Rattle.ssb_files.proofs.paths.check_paths.Goals as goal

pub returns-in-Some-first_full-clause-refused : goal.returns-in-Some-first_full-clause-refused
returns-in-Some-first_full-clause-refused c =
    let full = c.in-Some-first_full.path.now in
    let apart : AreApart c.args.paths.now = search rules in
    let found : find is_full c.args.paths.now ≡ Some full = search rules in
    let named : string_bytes c.in_ok-clone-2.field-0 ≡ string_bytes full.path = search rules in
    (apart, (full, found, named))
