use Rattle.std.proofs.Common.{rules, ◌≡◌, ◌*◌, ◌<◌, ◌≤◌, All, ℕ, List, length, subst, arith}
use Rattle.mc_box.specs.declared.limit.TheConstants.{SLOT_LIMIT}
use Rattle.mc_divided.specs.Networks.{turn_budget}
use Rattle.mc_divided.proofs.Parting.{small_parts}
use Rattle.mc_divided.proofs.assigning.fits.Goals as goal

pub returns : goal.returns
returns c fits =
    let each : length c.args.parts.now ≡ c.args.boxes = omega (arith, c.if-parts-boxes.false) in
    let all : All (λ (part : ℕ). part < c.args.count) c.args.parts.now = search rules in
    let small : All (λ (n : ℕ). SLOT_LIMIT * n ≤ turn_budget c.args.count) c.in_ok-homes.homes.counts.items =
    subst (λ (l : List ℕ). All (λ (n : ℕ). SLOT_LIMIT * n ≤ turn_budget c.args.count) l) c.deref.ensures.value
    (c.are_small.ensures fits) in
    small_parts c.args.boxes c.args.parts.now c.in_ok-homes.homes.counts.items c.args.count each c.requires.some
    c.requires.few all c.in_ok-homes.ensures.counts small
