-- Turns made and written down one after another.
use Rattle.std.proofs.Common.{◌++◌, List, append_assoc, ap, ◌∙◌}
use Rattle.mc_box.specs.declared.event.Turn.{Turn}
use Rattle.mc_world.specs.declared.settled.Settled.{Settled}
use Rattle.mc_seq.specs.Turns.{MadeAll}
use Rattle.mc_seq.proofs.Runs.{run-append}

-- turns after turns
pub made_more : (start now next : Settled) (one two : List Turn) → MadeAll start now one → MadeAll now next two → MadeAll start next (one ++ two)
made_more start now next one two first second = record {
  ran = run-append one two start.world now.world first.ran ∙ second.ran;
  logged = second.logged ∙ (ap (λ (turns : List Turn). turns ++ two) first.logged ∙ append_assoc start.turns.items one two);
}
