use Rattle.std.proofs.Common.{◌∙◌, [], ◌∷◌, ◌++◌, append_assoc, map, ap, sym}
use Rattle.std.proofs.lemmas.List.{map-append}
use Rattle.ssb_files.proofs.ScriptLaws.{more_scripts}
use Rattle.ssb_files.proofs.reading.read_scripts.Goals as goal

pub loop-source-preserved : goal.loop-source-preserved
loop-source-preserved g c =
    let remaining = g.I.Read.remaining in
    let before = map remaining c.loop-source.yielded in
    let rest = map remaining c.next.new.self.rest.items in
    let inv = c.loop-source.invariant in
    rw c.in_ok-push-in-Ok.ensures.items
    (rw (map-append remaining c.loop-source.yielded (c.in-Some.source ∷ [])) (record {
      parted = inv.parted ∙ ap (λ xs. before ++ map remaining xs) c.in-Some.ensures.steps.0
          ∙ sym (append_assoc before (remaining c.in-Some.source ∷ []) rest);
      are = more_scripts before c.loop-source.scripts.items (remaining c.in-Some.source) c.in-Ok.script inv.are
          c.in-Ok.ensures.script;
    }))

pub returns-in-Err-clause-refused : goal.returns-in-Err-clause-refused
returns-in-Err-clause-refused g c = λ status.
    let remaining = g.I.Read.remaining in
    let before = map remaining c.loop-source.yielded in
    let inv = c.loop-source.invariant in
    record {
      before = before;
      source = remaining c.in-Some.source;
      rest = map remaining c.next.new.self.rest.items;
      parted = inv.parted ∙ ap (λ xs. before ++ map remaining xs) c.in-Some.ensures.steps.0;
      scripts = c.loop-source.scripts.items;
      are = inv.are;
      refused = λ text known. record {
        fault = c.in-Err.fault;
        first = c.in-Err.ensures.fault text known;
        of_script
            = status;
      };
    }
