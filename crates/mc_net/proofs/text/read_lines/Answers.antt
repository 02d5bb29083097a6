use Rattle.std.proofs.Common.{◌≡◌, ◌+◌, ◌≤◌, ◌<◌, ◌∷◌, [], List, ℕ, if◌then◌else◌, length, refl, sym, ap, subst, arith}
use Rattle.std.proofs.lemmas.Grind.{common_steps}
use Rattle.std.proofs.lemmas.List.{nil_from_length}
use Rattle.std.proofs.lemmas.Result.{err_from_is_err_and}
use Rattle.mc_text.specs.Lines.{lines}
use Rattle.mc_lines.specs.Rules.{ends_commands}
use Rattle.mc_net.specs.Texts.{up_to}
use Rattle.mc_net.proofs.Reading.{HasRead, end_is, lines_of_rest, one_more, refused_behind, refused_by, rest_is, says_all}
use Rattle.mc_net.proofs.text.read_lines.Goals as goal

pub returns-in_err-read_here-clause-refused : goal.returns-in_err-read_here-clause-refused
returns-in_err-read_here-clause-refused c =
    let first = c.next_line.result.0.now in
    let behind : List (List ℕ) = if ends_commands c.args.tail c.next_line.result.0.now then [] else up_to (ends_commands c.args.tail) (lines c.next_line.result.1.now) in
    let read : HasRead c.args.tail c.args.text.now c.loop-rest.place.line c.loop-rest.place.before c.loop-rest.reader (c.next_line.result.0.now ∷ behind) = rw c.next_line.ensures.first at c.loop-rest.invariant.read in
    let fault = err_from_is_err_and c.from_residual.result c.from_residual.ensures.1 in
    rw (fault.1, fault.2) (refused_by c.args.tail c.args.text.now c.loop-rest.place c.loop-rest.reader c.read_here.new.reader first behind c.in_err-read_here.field-0.0 read c.in_err-read_here.ensures)

pub loop-rest-preserved : goal.loop-rest-preserved
loop-rest-preserved c =
    let first = c.next_line.result.0.now in
    let others = c.next_line.result.1.now in
    let test = ends_commands c.args.tail in
    let ends = ends_commands c.args.tail c.next_line.result.0.now in
    let behind : List (List ℕ) = if ends_commands c.args.tail c.next_line.result.0.now then [] else up_to (ends_commands c.args.tail) (lines c.next_line.result.1.now) in
    let read : HasRead c.args.tail c.args.text.now c.loop-rest.place.line c.loop-rest.place.before c.loop-rest.reader (c.next_line.result.0.now ∷ behind) = rw c.next_line.ensures.first at c.loop-rest.invariant.read in
    let some : 0 < length c.loop-rest.rest.now = grind (arith, common_steps) in
    let within : c.loop-rest.place.before + length c.loop-rest.rest.now ≤ length c.args.text.now = c.loop-rest.invariant.left some in
    let shorter = c.next_line.ensures.shorter in
    let left = lines_of_rest test ends c.still_to_read-rest.result.now others c.still_to_read-rest.ensures.rest in
    rw (c.behind-place.ensures, ← left) (record {
      read = one_more c.args.tail c.args.text.now c.loop-rest.place.line c.loop-rest.place.before _ c.loop-rest.reader c.read_here.new.reader first behind read c.in_ok-read_here.ensures.0 c.in_ok-read_here.ensures.1 refl (omega arith);
      left = λ more.
          let same : c.still_to_read-rest.result.now ≡ c.next_line.result.1.now = rest_is ends c.still_to_read-rest.result.now others c.still_to_read-rest.ensures.rest more in
          let exact = c.next_line.ensures.ended (subst (λ (l : List ℕ). 0 < length l) same more) in
          let long : length c.still_to_read-rest.result.now ≡ length c.next_line.result.1.now = ap (λ (l : List ℕ). length l) same in
          omega arith;
      in_form = c.in_ok-read_here.ensures.2;
    })

pub returns-in-Some-clause-refused : goal.returns-in-Some-clause-refused
returns-in-Some-clause-refused c =
    let gone : c.loop-rest.rest.now ≡ [] = nil_from_length _ (grind (arith, c.loop-rest-test.ensures)) in
    refused_behind c.args.tail c.args.text.now c.loop-rest.place.line c.loop-rest.place.before c.loop-rest.reader c.in-Some.fault (rw gone at c.loop-rest.invariant.read) (sym c.in-Some.ensures)

pub returns-in-None-clause-says : goal.returns-in-None-clause-says
returns-in-None-clause-says c =
    let gone : c.loop-rest.rest.now ≡ [] = nil_from_length _ (grind (arith, c.loop-rest-test.ensures)) in
    says_all c.args.tail c.args.text.now c.loop-rest.place.line c.loop-rest.place.before c.loop-rest.reader (rw gone at c.loop-rest.invariant.read) (sym c.in-None.ensures)

pub returns-in-None-clause-end : goal.returns-in-None-clause-end
returns-in-None-clause-end c =
    let gone : c.loop-rest.rest.now ≡ [] = nil_from_length _ (grind (arith, c.loop-rest-test.ensures)) in
    end_is c.args.tail c.args.text.now c.loop-rest.place.line c.loop-rest.place.before c.min.result c.loop-rest.reader (rw gone at c.loop-rest.invariant.read) c.min.ensures
