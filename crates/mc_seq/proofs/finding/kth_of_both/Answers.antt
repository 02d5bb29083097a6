use Rattle.std.proofs.Common.{◌≡◌, ◌+◌, ◌<◌, ◌∙◌, false, length, sum, sym, arith}
use Rattle.mc_seq.specs.Commands.{commands_left}
use Rattle.mc_seq.specs.Ready.{all_of_two}
use Rattle.mc_seq.proofs.Finds.{both_at_box, both_sum, both_within}
use Rattle.mc_seq.proofs.finding.kth_of_both.Goals as goal

pub find_in_both-who-requires-clause-long : goal.find_in_both-who-requires-clause-long
find_in_both-who-requires-clause-long c = c.takes.ensures.long ∙ (sym c.requires.kept.boxes ∙ sym c.requires.kept.kept.next.long)

pub find_in_both-who-requires-clause-inside : goal.find_in_both-who-requires-clause-inside
find_in_both-who-requires-clause-inside c =
    let all : sum c.args.left.now.next + sum c.takes.result.now ≡ length (all_of_two c.args.world.now (commands_left c.args.left.now) false) = both_sum c.args.world.now c.args.left.now c.takes.result.now c.requires.kept c.takes.ensures in
    let low : c.args.k < length (all_of_two c.args.world.now (commands_left c.args.left.now) false) = c.requires.inside in
    omega arith

pub kth_of_box-requires-clause-inside : goal.kth_of_box-requires-clause-inside
kth_of_box-requires-clause-inside c =
    both_within c.args.world.now c.args.left.now c.takes.result.now c.find_in_both-who.result.0 c.find_in_both-who.result.1 c.requires.kept c.takes.ensures c.find_in_both-who.ensures.place c.find_in_both-who.ensures.within

pub returns : goal.returns
returns c =
    both_at_box c.args.world.now c.args.left.now c.takes.result.now c.args.k c.find_in_both-who.result.0 c.find_in_both-who.result.1 c.requires.kept c.takes.ensures
    c.find_in_both-who.ensures.place c.find_in_both-who.ensures.before c.find_in_both-who.ensures.within ∙ c.kth_of_box.ensures
