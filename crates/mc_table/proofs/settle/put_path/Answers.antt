use Rattle.mc_script.specs.Meaning.{goal_word}
use Rattle.mc_table.specs.Shown.{end_word}
use Rattle.mc_table.specs.Words.{flow_word, medium_word}
use Rattle.mc_table.proofs.PathLine.{path_line}
use Rattle.mc_table.proofs.settle.put_path.Goals as goal

pub returns : goal.returns
returns c =
    rw (c.in_ok-extend_from_slice-3.ensures.items, c.state_words.ensures, c.in_ok-extend_from_slice-2.ensures.items, c.goals_words.ensures, c.in_ok-put_end-2.ensures, c.in_ok-push.ensures.items, c.in_ok-put_end.ensures, c.in_ok-extend_from_slice.ensures.items)
    (path_line c.args.out.now.items (end_word c.args.names.now c.args.view.now.low) (end_word c.args.names.now c.args.view.now.high) (goal_word c.args.view.now.low.goal) (goal_word c.args.view.now.high.goal) (flow_word c.args.view.now.flowing) (medium_word c.args.view.now.medium))
