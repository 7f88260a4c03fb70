use Rattle.std.proofs.Common.{◌≡◌, ◌<◌, ◌+◌, ◌∙◌, ◌∷◌, [], List, arith, ap, length, length-append, sym, subst}
use Rattle.scan_kernel.specs.declared.wanted.Wanted.{Wanted}
use Rattle.scan_kernel.specs.Masks.{questions_a_pass}
use Rattle.scan_kernel.specs.Wanted.{AreWantedUpTo}
use Rattle.scan_kernel.proofs.WantedLaws.{leaves_of, takes_of, wanted_more}
use Rattle.scan_kernel.proofs.wanted.all_wanted.Goals as goal

pub loop-question-preserved : goal.loop-question-preserved
loop-question-preserved c =
    let lines = c.args.lines.now in
    let masks = c.args.masks.now in
    let all : List Wanted = c.loop-question.all.items in
    let k = c.loop-question.question in
    let few : k < questions_a_pass = c.loop-question-test.true in
    let one : Wanted = record { takes = c.codes_of.result; leaves = c.codes_of-in-loop-question.result } in
    let pushed = c.in_ok-push.ensures.items in
    record {
      long = omega (arith, ap length pushed, length-append all (one ∷ []), c.loop-question.invariant.long);
      each = subst (AreWantedUpTo lines masks (k + 1)) (sym pushed)
          (wanted_more lines masks k all one c.loop-question.invariant.long c.loop-question.invariant.each (record {
            takes = takes_of lines masks k c.all_takers-takers.result c.codes_of.result few
                c.all_takers-takers.ensures c.codes_of.ensures;
            leaves = leaves_of lines masks k c.all_leavers-leavers.result c.codes_of-in-loop-question.result few
                c.all_leavers-leavers.ensures c.codes_of-in-loop-question.ensures;
          }));
    }

pub returns : goal.returns
returns c =
    let is = c.loop-question.invariant in
    let end : c.loop-question.question ≡ questions_a_pass =
    omega (arith, c.loop-question-test.false, c.loop-question.auto.question-end) in
    record {
      len = is.long ∙ end;
      each = subst (λ n. AreWantedUpTo c.args.lines.now c.args.masks.now n c.loop-question.all.items) end is.each;
    }
