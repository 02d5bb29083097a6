use Rattle.std.proofs.Common.{◌≡◌, ◌+◌, ◌<◌, ◌∙◌, get_or, length, map, subst, sym, ℕ, Vec, Global, arith}
use Rattle.std.proofs.lemmas.List.{length-set}
use Rattle.mc_world.specs.Pieces.{AreFilled, HasPlaces}
use Rattle.mc_world.proofs.Filling.{fill_next, was_read}
use Rattle.mc_world.proofs.network.piece.numbers_by_place.Goals as goal
use Rattle.mc_world.proofs.network.piece.numbers_by_place.Goals.{then-who-len+in_ok-put_number, else-who-len}

-- where a place is past the homes, these aren't its homes
pub loop-slot-preserved : goal.loop-slot-preserved
loop-slot-preserved c = elim c.if-who-len.branch [
  | then-who-len+in_ok-put_number w ↦
      let who : ℕ = (get_or c.args.places.now c.loop-slot.slot (0, 0)).0 in
      let low : who < length c.loop-slot.numbers.items = omega (arith, w.if-who-len.true, c.len.ensures, c.loop-slot.numbers.ok.0) in
      subst (λ (v : Vec (Vec ℕ Global) Global). (length v.items ≡ c.args.homes)
      × ((count : ℕ → ℕ) → HasPlaces c.args.places.now c.args.homes count → AreFilled c.args.places.now count (c.loop-slot.slot + 1) (map (λ (numbers : Vec ℕ Global). numbers.items) v.items))) (sym w.numbers-is) (
        length-set c.loop-slot.numbers.items who w.put_number.new.home ∙ c.loop-slot.invariant.0,
        fill_next c.args.places.now c.args.homes c.loop-slot.slot c.loop-slot.numbers w.put_number.new.home w.index_mut.result.now c.loop-slot-test.true c.loop-slot.invariant.0
            (was_read c.loop-slot.numbers.items who w.index_mut.result.now low w.index_mut.ensures.value) w.in_ok-put_number.ensures c.loop-slot.invariant.1,
      )
  | else-who-len w ↦
      subst (λ (v : Vec (Vec ℕ Global) Global). (length v.items ≡ c.args.homes)
      × ((count : ℕ → ℕ) → HasPlaces c.args.places.now c.args.homes count → AreFilled c.args.places.now count (c.loop-slot.slot + 1) (map (λ (numbers : Vec ℕ Global). numbers.items) v.items))) (sym w.numbers-is) (
        c.loop-slot.invariant.0,
        λ count has. absurd (omega (arith, has.placed c.loop-slot.slot c.loop-slot-test.true, w.if-who-len.false, c.len.ensures, c.loop-slot.numbers.ok.0, c.loop-slot.invariant.0)),
      )
]
