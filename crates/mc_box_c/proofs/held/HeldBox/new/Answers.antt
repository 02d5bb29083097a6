use Rattle.std.proofs.Common.{◌∙◌}
use Rattle.mc_plain.proofs.Says.{says_box}
use Rattle.mc_box_c.proofs.held.HeldBox.new.Goals as goal

pub returns : goal.returns
returns c = record {
  possible = c.requires;
  receives = c.in_ok-setup.field-0.codecs;
  sends = c.in_ok-setup.field-0.sends;
  receives_these = c.in_ok-setup.ensures.receives;
  sends_these = c.in_ok-setup.ensures.sends;
  is = c.in_ok-part.ensures ∙ says_box c.args.setup.now c.args.slots.now c.args.states.now c.in_ok-setup.field-0 c.in_ok-setup.ensures;
}
