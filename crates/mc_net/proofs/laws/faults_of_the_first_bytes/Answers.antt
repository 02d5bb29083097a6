use Rattle.mc_net.proofs.FirstBytes.{blocks_of_the_first_bytes, faults_of_the_first_bytes, nets_of_the_first_bytes, says_the_whole}
use Rattle.mc_net.proofs.laws.faults_of_the_first_bytes.Goals as goal

pub returns : goal.returns
returns c = record { faults = faults_of_the_first_bytes; nets = nets_of_the_first_bytes; blocks = blocks_of_the_first_bytes; whole = says_the_whole }
