use Rattle.std.proofs.Common.{◌≡◌, ◌∙◌, ◌+◌, ◌*◌, ℕ, [], get_or, ap, ap₂, sym, arith}
use Rattle.mc_divided.specs.Whole.{lanes_of}
use Rattle.mc_divided.proofs.LanesWhole.{lanes_more}
use Rattle.mc_divided.proofs.whole.whole_lanes.Goals as goal

pub loop-number-preserved : goal.loop-number-preserved
loop-number-preserved c = record {
  crossed = c.next_places-from.ensures.crossed ∙ c.loop-number.invariant.crossed;
  inner = c.next_places-from.ensures.inner ∙ c.loop-number.invariant.inner;
  counted = c.next_places-from.ensures.counted;
  lanes = lanes_more c.args.assigned.now c.args.channels.now (lanes_of c.args.taken.now) c.loop-number.number
      c.loop-number.lanes.items c.push.new.self.items c.push-in-loop-number.new.self.items
      c.in_ok-lane_of_part.field-0 c.in_ok-lane_of_part-2.field-0 c.loop-number.invariant.lanes
      c.in_ok-push.ensures.items c.in_ok-push-2.ensures.items
      (c.in_ok-lane_of_part.ensures
      ∙ ap₂ (λ (p n : ℕ). get_or (get_or (lanes_of c.args.taken.now) p []) n []) c.parts_at-start.ensures.from
      (sym (start_lane _ _ c.next_places-from.ensures.from)))
      (c.in_ok-lane_of_part-2.ensures
      ∙ ap₂ (λ (p n : ℕ). get_or (get_or (lanes_of c.args.taken.now) p []) n []) c.parts_at-start.ensures.to
      (ap (λ (n : ℕ). 2 * n + 1) c.next_places-from.ensures.to));
}
  where
    start_lane : (a b : ℕ) → a ≡ b → 2 * b + 0 ≡ 2 * a
    start_lane a b same = omega arith
