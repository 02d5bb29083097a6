use Rattle.std.proofs.Common.{◌∙◌, ◌<◌, ◌++◌, length, List, ℕ, ap, sym, arith}
use Rattle.mc_program_lines.specs.Programs.{words_of}
use Rattle.mc_ladder_page.specs.Changes.{change_text, differs}
use Rattle.mc_ladder_page.proofs.Rows.{changed_more, changed_same, word_at, word_count}
use Rattle.mc_ladder_page.proofs.change.put_changes.Goals as goal
use Rattle.mc_ladder_page.proofs.change.put_changes.Goals.{then-differs+in_ok-put_change, else-differs}

pub loop-at-preserved : goal.loop-at-preserved
loop-at-preserved c =
    let count = word_count c.args.new.now in
    let below : c.loop-at.at < length (words_of c.args.new.now) = omega (arith, c.loop-at-test.true, count) in
    let here = word_at c.args.new.now c.loop-at.at c.index-new-at.result c.loop-at-test.true c.index-new-at.is in
    let same = ap (λ (cell : List ℕ). differs (words_of c.args.old.now) c.loop-at.at cell) (sym c.deref.ensures.value) ∙ sym c.differs.ensures in
    elim c.if-differs.branch [
      | then-differs+in_ok-put_change w ↦
          rw w.out-is (changed_more (words_of c.args.old.now) (words_of c.args.new.now) c.args.out.now.items c.loop-at.out.items w.put_change.new.out.items c.loop-at.at c.index-new-at.result.items
          below here (same ∙ w.if-differs.true)
          (w.in_ok-put_change.ensures ∙ ap (λ (cell : List ℕ). c.loop-at.out.items ++ change_text (record { at = c.loop-at.at; cell = cell })) w.deref-then-differs.ensures.value)
          c.loop-at.invariant)
      | else-differs w ↦
          rw w.out-is (changed_same (words_of c.args.old.now) (words_of c.args.new.now) c.args.out.now.items c.loop-at.out.items c.loop-at.at c.index-new-at.result.items
          below here (same ∙ w.if-differs.false) c.loop-at.invariant)
    ]
