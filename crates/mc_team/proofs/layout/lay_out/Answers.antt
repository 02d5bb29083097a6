use Rattle.std.proofs.Common.{◌≤◌, List, length, subst, arith}
use Rattle.std.proofs.lemmas.List.{take_all}
use Rattle.mc_team.specs.Layouts.{IsLayoutSoFar}
use Rattle.mc_team.proofs.Whole.{whole_layout}
use Rattle.mc_team.proofs.layout.lay_out.Goals as goal
use Rattle.mc_model.specs.Worlds.{ChannelState}

pub returns : goal.returns
returns c =
    let channels = c.args.channels.now in
    let layout = c.loop-number.layout in
    let past : length c.args.channels.now ≤ c.loop-number.number = omega (arith, c.loop-number-test.false) in
    whole_layout c.args.boxes.now channels layout
    (record {
      numbered = c.requires.numbered;
      limits = c.requires.channels;
      small = c.requires.small;
      so_far = subst (λ (l : List ChannelState). IsLayoutSoFar c.args.boxes.now l layout) (take_all c.loop-number.number channels past) c.loop-number.invariant;
    })
