use Rattle.mc_program_lines.proofs.Blocks.{goal_lines_fit, link_lines_fit, new_parts_fit, new_programs_fit, when_lines_fit}
use Rattle.mc_program_lines.proofs.laws.lines_keep_fitting.Goals as goal

pub returns : goal.returns
returns c = record { program = new_programs_fit; state = new_parts_fit; goal = goal_lines_fit; link = link_lines_fit; when = when_lines_fit }
