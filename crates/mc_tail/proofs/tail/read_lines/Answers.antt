use Rattle.std.proofs.Common.{◌≡◌, ◌+◌, ◌≤◌, ◌<◌, ◌∷◌, [], length, refl, arith}
use Rattle.std.proofs.lemmas.Grind.{common_steps}
use Rattle.std.proofs.lemmas.List.{nil_from_length}
use Rattle.std.proofs.lemmas.Result.{err_from_is_err_and}
use Rattle.mc_text.specs.Lines.{lines}
use Rattle.mc_tail.proofs.Reading.{HasReadTail, one_more, refused_by, says_all}
use Rattle.mc_tail.proofs.tail.read_lines.Goals as goal

pub returns-in_err-read_here-clause-refused : goal.returns-in_err-read_here-clause-refused
returns-in_err-read_here-clause-refused c =
    let read : HasReadTail c.args.text.now c.loop-rest.place.line c.loop-rest.place.before c.loop-rest.reader (c.next_line.result.0.now ∷ lines c.next_line.result.1.now) = rw c.next_line.ensures.first at c.loop-rest.invariant.read in
    let fault = err_from_is_err_and c.from_residual.result c.from_residual.ensures.1 in
    rw (fault.1, fault.2) (refused_by c.args.text.now c.loop-rest.place c.loop-rest.reader c.read_here.new.reader c.next_line.result.0.now (lines c.next_line.result.1.now) c.in_err-read_here.field-0.0 read c.in_err-read_here.ensures)

pub loop-rest-preserved : goal.loop-rest-preserved
loop-rest-preserved c =
    let read : HasReadTail c.args.text.now c.loop-rest.place.line c.loop-rest.place.before c.loop-rest.reader (c.next_line.result.0.now ∷ lines c.next_line.result.1.now) = rw c.next_line.ensures.first at c.loop-rest.invariant.read in
    let some : 0 < length c.loop-rest.rest.now = grind (arith, common_steps) in
    let within : c.loop-rest.place.before + length c.loop-rest.rest.now ≤ length c.args.text.now = c.loop-rest.invariant.left some in
    let shorter = c.next_line.ensures.shorter in
    rw c.behind-place.ensures (record {
      read = one_more c.args.text.now c.loop-rest.place.line c.loop-rest.place.before _ c.loop-rest.reader c.read_here.new.reader c.next_line.result.0.now (lines c.next_line.result.1.now) read c.in_ok-read_here.ensures.0 c.in_ok-read_here.ensures.1 refl;
      left = λ more. let exact = c.next_line.ensures.ended more in omega arith;
      in_form = c.in_ok-read_here.ensures.2;
    })

pub returns-clause-says : goal.returns-clause-says
returns-clause-says c =
    let gone : c.loop-rest.rest.now ≡ [] = nil_from_length _ (grind (arith, c.loop-rest-test.ensures)) in
    says_all c.args.text.now c.loop-rest.place.line c.loop-rest.place.before c.loop-rest.reader (rw gone at c.loop-rest.invariant.read)
