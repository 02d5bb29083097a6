use Rattle.mc_net.proofs.Meant.{each_line_declares, sound_lines_mean}
use Rattle.mc_net.proofs.laws.sound_lines_mean.Goals as goal

pub returns : goal.returns
returns c = record { means = sound_lines_mean; declares = each_line_declares }
