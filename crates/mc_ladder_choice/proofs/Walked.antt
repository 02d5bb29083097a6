-- The boxes of a walk, a tunnel at a time: those so far, and those of what is still to walk, are those of the whole walk.
use Rattle.std.proofs.Common.{◌≡◌, ◌<◌, ◌+◌, ◌-◌, ◌++◌, ℕ, suc, Option, Some, None, List, [], length, flat_map, ap, sym, ◌∙◌, append-nil, append_assoc, arith}
use Rattle.mc_model.specs.Paths.{next_slot, partner_of, walk}
use Rattle.mc_model.specs.Worlds.{WorldState, all_tunnels, far, slot_count}
use Rattle.mc_ladder_choice.specs.Boxes.{boxes_from, tunnel_boxes}

-- after so many tunnels the walk from a slot is at another
pub record StillWalks (world : WorldState) (low done at : ℕ) (boxes : List ℕ) : Type 0 where
  pub inside : at < slot_count world
  pub are : (left : ℕ) → done + left ≡ length (all_tunnels world) → boxes ++ flat_map (tunnel_boxes world) (walk world (Some at) left) ≡ boxes_from world low

one_more : (done left total : ℕ) → done + 1 + left ≡ total → done + suc left ≡ total
one_more done left total is = omega arith

-- one tunnel more
boxes_on : (world : WorldState) (low at left : ℕ) (next : Option ℕ) (boxes : List ℕ) → next_slot world at ≡ next
    → boxes ++ flat_map (tunnel_boxes world) (walk world (Some at) (suc left)) ≡ boxes_from world low
    → (boxes ++ tunnel_boxes world at) ++ flat_map (tunnel_boxes world) (walk world next left) ≡ boxes_from world low
boxes_on world low at left next boxes is so_far =
    append_assoc boxes (tunnel_boxes world at) (flat_map (tunnel_boxes world) (walk world next left))
    ∙ (ap (λ (o : Option ℕ). boxes ++ (tunnel_boxes world at ++ flat_map (tunnel_boxes world) (walk world o left))) (sym is) ∙ so_far)

pub begins : (world : WorldState) (low : ℕ) (boxes : List ℕ) → boxes ≡ [] → low < slot_count world → StillWalks world low 0 low boxes
begins world low boxes none inside = record {
  inside = inside;
  are = λ left sum.
      let all : left ≡ length (all_tunnels world) = omega (arith, sum) in
      ap (λ (l : List ℕ). l ++ flat_map (tunnel_boxes world) (walk world (Some low) left)) none
      ∙ ap (λ (n : ℕ). flat_map (tunnel_boxes world) (walk world (Some low) n)) all;
}

pub goes_on : (world : WorldState) (low done at next : ℕ) (boxes more : List ℕ) → StillWalks world low done at boxes → more ≡ boxes ++ tunnel_boxes world at
    → partner_of world (far at) ≡ Some next → next < slot_count world → StillWalks world low (done + 1) next more
goes_on world low done at next boxes more now is leads inside = record {
  inside = inside;
  are = λ left sum.
      ap (λ (l : List ℕ). l ++ flat_map (tunnel_boxes world) (walk world (Some next) left)) is
      ∙ boxes_on world low at left (Some next) boxes leads (now.are (suc left) (one_more done left (length (all_tunnels world)) sum));
}

pub ends : (world : WorldState) (low done at : ℕ) (boxes more : List ℕ) → StillWalks world low done at boxes → done < length (all_tunnels world)
    → more ≡ boxes ++ tunnel_boxes world at → partner_of world (far at) ≡ None → more ≡ boxes_from world low
ends world low done at boxes more now below is none =
    let left = length (all_tunnels world) - done - 1 in
    let sum : done + suc left ≡ length (all_tunnels world) = omega (arith, below) in
    is ∙ (sym (append-nil (boxes ++ tunnel_boxes world at)) ∙ boxes_on world low at left None boxes none (now.are (suc left) sum))

pub walked : (world : WorldState) (low done at : ℕ) (boxes : List ℕ) → StillWalks world low done at boxes → done ≡ length (all_tunnels world)
    → boxes ≡ boxes_from world low
walked world low done at boxes now all =
    sym (append-nil boxes) ∙ now.are 0 (omega (arith, all))
