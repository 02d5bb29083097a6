use Rattle.std.proofs.Common.{◌≡◌, ◌+◌, ◌≤◌, ◌<◌, ◌∷◌, [], List, ℕ, None, if◌then◌else◌, length, refl, ap, subst, arith}
use Rattle.std.proofs.lemmas.Grind.{common_steps}
use Rattle.std.proofs.lemmas.List.{nil_from_length}
use Rattle.mc_text.specs.Lines.{lines}
use Rattle.mc_lines.specs.Rules.{ends_commands, line_fault}
use Rattle.mc_net.specs.Texts.{up_to}
use Rattle.mc_net.proofs.Details.{declared_at_end, sound_here}
use Rattle.mc_net.proofs.Reading.{HasRead, lines_of_rest, one_more, rest_is}
use Rattle.mc_net.proofs.detail.read_before.Goals as goal

pub read_sound-requires-clause-sound : goal.read_sound-requires-clause-sound
read_sound-requires-clause-sound c =
    let behind : List (List ℕ) = if ends_commands c.args.tail c.next_line.result.0.now then [] else up_to (ends_commands c.args.tail) (lines c.next_line.result.1.now) in
    let read : HasRead c.args.tail c.args.text.now c.loop-rest.place.line c.loop-rest.place.before c.loop-rest.reader (c.next_line.result.0.now ∷ behind) = rw c.next_line.ensures.first at c.loop-rest.invariant.read in
    let earlier : c.loop-rest.place.line < c.args.fault.line = let h = c.loop-rest.invariant.not_past in omega arith in
    sound_here c.args.tail c.args.text.now c.args.fault.number c.args.fault.line c.loop-rest.place.line c.loop-rest.place.before c.loop-rest.reader c.next_line.result.0.now behind c.requires.fault read earlier

pub loop-rest-preserved : goal.loop-rest-preserved
loop-rest-preserved c =
    let first = c.next_line.result.0.now in
    let others = c.next_line.result.1.now in
    let test = ends_commands c.args.tail in
    let ends = ends_commands c.args.tail c.next_line.result.0.now in
    let behind : List (List ℕ) = if ends_commands c.args.tail c.next_line.result.0.now then [] else up_to (ends_commands c.args.tail) (lines c.next_line.result.1.now) in
    let read : HasRead c.args.tail c.args.text.now c.loop-rest.place.line c.loop-rest.place.before c.loop-rest.reader (c.next_line.result.0.now ∷ behind) = rw c.next_line.ensures.first at c.loop-rest.invariant.read in
    let earlier : c.loop-rest.place.line < c.args.fault.line = let h = c.loop-rest.invariant.not_past in omega arith in
    let sound : line_fault (length c.args.text.now) c.loop-rest.place.before c.loop-rest.reader c.next_line.result.0.now ≡ None = sound_here c.args.tail c.args.text.now c.args.fault.number c.args.fault.line c.loop-rest.place.line c.loop-rest.place.before c.loop-rest.reader first behind c.requires.fault read earlier in
    let some : 0 < length c.loop-rest.rest.now = grind (arith, common_steps) in
    let within : c.loop-rest.place.before + length c.loop-rest.rest.now ≤ length c.args.text.now = c.loop-rest.invariant.left some in
    let shorter = c.next_line.ensures.shorter in
    let left = lines_of_rest test ends c.still_to_read-rest.result.now others c.still_to_read-rest.ensures.rest in
    rw (c.behind-place.ensures, ← left) (record {
      read = one_more c.args.tail c.args.text.now c.loop-rest.place.line c.loop-rest.place.before _ c.loop-rest.reader c.read_sound.new.reader first behind read sound c.in_ok-read_sound.ensures.declared refl (omega arith);
      left = λ more.
          let same : c.still_to_read-rest.result.now ≡ c.next_line.result.1.now = rest_is ends c.still_to_read-rest.result.now others c.still_to_read-rest.ensures.rest more in
          let exact = c.next_line.ensures.ended (subst (λ (l : List ℕ). 0 < length l) same more) in
          let long : length c.still_to_read-rest.result.now ≡ length c.next_line.result.1.now = ap (λ (l : List ℕ). length l) same in
          omega arith;
      in_form = c.in_ok-read_sound.ensures.in_form;
      not_past = omega arith;
    })

pub returns-clause-declared : goal.returns-clause-declared
returns-clause-declared c =
    let gone : c.loop-rest.rest.now ≡ [] = nil_from_length _ (grind (arith, c.loop-rest-test.ensures)) in
    declared_at_end c.args.tail c.args.text.now c.args.fault.number c.args.fault.line c.loop-rest.place.line c.loop-rest.place.before c.loop-rest.reader c.requires.fault (rw gone at c.loop-rest.invariant.read) c.loop-rest.invariant.not_past
