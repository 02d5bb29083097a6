use Rattle.std.proofs.Common.{◌≡◌, drop, refl, arith, rules}
use Rattle.std.proofs.lemmas.List.{drop-drop}
use Rattle.mc_program_lines.proofs.WordLists.{is_some-behind}
use Rattle.mc_program_lines.proofs.word_list.are_more_than.Goals as goal

pub loop-passed-preserved : goal.loop-passed-preserved
loop-passed-preserved c = rw (c.next_word.ensures.rest, c.loop-passed.invariant, drop-drop) refl

pub returns : goal.returns
returns c =
    let all : c.loop-passed._passed ≡ c.args.limit = omega arith in
    let left : c.loop-passed.words ≡ drop c.args.limit c.args.words = rw (← all) c.loop-passed.invariant in
    rw (← is_some-behind c.args.words c.args.limit, ← left) (search rules)
