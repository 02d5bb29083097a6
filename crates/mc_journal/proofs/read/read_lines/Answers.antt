use Rattle.std.proofs.Common.{◌≡◌, true, false, [], refl, sym, ap, ◌∙◌, arith}
use Rattle.std.proofs.lemmas.List.{nil_from_length}
use Rattle.mc_journal.specs.Readings.{is_bad, line_reading}
use Rattle.mc_journal.proofs.Going.{all_kept, is_bad_here, kept_before, none_bad, one_more}
use Rattle.mc_journal.proofs.read.read_lines.Goals as goal

pub loop-rest-init : goal.loop-rest-init
loop-rest-init c = record { kept = refl; bad = refl }

pub returns-then-is_bad-clause-lines : goal.returns-then-is_bad-clause-lines
returns-then-is_bad-clause-lines c =
    let bad : is_bad (line_reading c.args.names.now c.args.shape.now c.next_line.result.0.now) ≡ true = ap is_bad (sym c.line_reading-reading.ensures) ∙ sym c.is_bad.ensures ∙ c.if-is_bad.true in
    kept_before c.args.names.now c.args.shape.now c.args.text.now c.args.lines.now.items c.loop-rest.rest.now c.loop-rest.lines.items c.loop-rest.invariant c.next_line.result.0.now c.next_line.result.1.now c.next_line.ensures.first bad

pub returns-then-is_bad-clause-bad : goal.returns-then-is_bad-clause-bad
returns-then-is_bad-clause-bad c =
    let bad : is_bad (line_reading c.args.names.now c.args.shape.now c.next_line.result.0.now) ≡ true = ap is_bad (sym c.line_reading-reading.ensures) ∙ sym c.is_bad.ensures ∙ c.if-is_bad.true in
    is_bad_here c.args.names.now c.args.shape.now c.args.text.now c.args.lines.now.items c.loop-rest.rest.now c.loop-rest.lines.items c.loop-rest.invariant c.next_line.result.0.now c.next_line.result.1.now c.next_line.ensures.first bad

pub loop-rest-preserved : goal.loop-rest-preserved
loop-rest-preserved c =
    let good : is_bad (line_reading c.args.names.now c.args.shape.now c.next_line.result.0.now) ≡ false = ap is_bad (sym c.line_reading-reading.ensures) ∙ sym c.is_bad.ensures ∙ c.if-is_bad.false in
    rw (c.in_ok-keep_line.ensures, c.line_reading-reading.ensures)
    (one_more c.args.names.now c.args.shape.now c.args.text.now c.args.lines.now.items c.loop-rest.rest.now c.loop-rest.lines.items c.loop-rest.invariant c.next_line.result.0.now c.next_line.result.1.now c.next_line.ensures.first good)

pub returns-clause-lines : goal.returns-clause-lines
returns-clause-lines c =
    let gone : c.loop-rest.rest.now ≡ [] = nil_from_length _ (grind (arith, c.loop-rest-test.ensures)) in
    all_kept c.args.names.now c.args.shape.now c.args.text.now c.args.lines.now.items c.loop-rest.rest.now c.loop-rest.lines.items c.loop-rest.invariant gone

pub returns-clause-bad : goal.returns-clause-bad
returns-clause-bad c =
    let gone : c.loop-rest.rest.now ≡ [] = nil_from_length _ (grind (arith, c.loop-rest-test.ensures)) in
    none_bad c.args.names.now c.args.shape.now c.args.text.now c.args.lines.now.items c.loop-rest.rest.now c.loop-rest.lines.items c.loop-rest.invariant gone
