-- The first world with the declared programs: each box may have its program, and else is as the plan has it.
use Rattle.std.proofs.Common.{◌≡◌, ◌≢◌, ℕ, zero, suc, ◌+◌, ◌<◌, ◌==◌, ◌||◌, not, Bool, true, false, nat_le, List, [], ◌∷◌, length, slice_index_or, None, refl, sym, ap, ◌∙◌, subst, arith}
use Rattle.std.specs.Prelude.{is_some}
use Rattle.std.proofs.lemmas.List.{get_or-map, get_or-set_other, get_or-set_same, length-map, length-set}
use Rattle.std.proofs.lemmas.List.Elements.{All-head, All-tail}
use Rattle.std.specs.List.{All, list_any}
use Rattle.mc_signal.specs.declared.Medium.{Medium}
use Rattle.mc_signal.specs.declared.Medium.TheVariants.{Audio, Video}
use Rattle.mc_slot.specs.Moves.{is_same_medium}
use Rattle.mc_slot.specs.declared.Goal.TheVariants.{Close as ToClose}
use Rattle.mc_slot.specs.declared.Slot.{Slot}
use Rattle.mc_slot.specs.declared.SlotGoal.{SlotGoal}
use Rattle.mc_slot.specs.declared.SlotGoal.TheVariants.{End, Link}
use Rattle.mc_rule.specs.Programs.{ProgStateState}
use Rattle.mc_box.specs.BoxShapes.{BoxShapeState, box_shape, is_feature}
use Rattle.mc_box.specs.Boxes.{BoxState, goals_in, no_box}
use Rattle.mc_model.specs.Worlds.{WorldState, box_at}
use Rattle.mc_plan.specs.Layouts.{box_fault, crosses, has_wrong_goals, links_two_media, medium_of, program_fault, programmed, some_crosses, with_program}
use Rattle.mc_plan.proofs.Layouts.{IsButFor, boxes_stay}
use Rattle.mc_program_lines.specs.Finished.{IsProgramFor, program_of}
use Rattle.mc_program_lines.specs.Programs.{BlockState}
use Rattle.mc_net.specs.Nets.{MayHavePrograms, with_programs}
use Rattle.mc_net.proofs.Laid.{AreApart, has_owner, owners}

-- ---- a program that breaks no rule

same_is : (m : Medium) → not (is_same_medium m m) ≡ false
same_is Audio = refl
same_is Video = refl

-- no goal crosses where links are of one medium
none_crosses : (media : List Medium) (first : ℕ) (goals : List SlotGoal) → ((local partner : ℕ) → slice_index_or goals local (End ToClose) ≡ Link partner → medium_of media partner ≡ medium_of media (first + local)) → some_crosses media first goals ≡ false
none_crosses media first [] alike = refl
none_crosses media first (goal ∷ goals) alike =
    let rest : some_crosses media (first + 1) goals ≡ false = none_crosses media (first + 1) goals (λ local partner is.
    let next : first + suc local ≡ first + 1 + local = omega arith in
    subst (λ (n : ℕ). medium_of media partner ≡ medium_of media n) next (alike (suc local) partner is)) in
    rw (here goal refl, rest) refl
  where
    here : (g : SlotGoal) → goal ≡ g → crosses media first g ≡ false
    here (End it) is = refl
    here (Link partner) is =
        let place : first + zero ≡ first = omega arith in
        let same : medium_of media partner ≡ medium_of media first = subst (λ (n : ℕ). medium_of media partner ≡ medium_of media n) place (alike zero partner is) in
        subst (λ (m : Medium). not (is_same_medium m (medium_of media first)) ≡ false) (sym same) (same_is (medium_of media first))

none_linked : (media : List Medium) (states : List ProgStateState) → ((at local partner : ℕ) → slice_index_or (goals_in states at) local (End ToClose) ≡ Link partner → medium_of media partner ≡ medium_of media local) → list_any (links_two_media media) states ≡ false
none_linked media [] alike = refl
none_linked media (one ∷ states) alike =
    let here : links_two_media media one ≡ false = none_crosses media 0 one.goals (λ local partner is.
    let place : local ≡ 0 + local = omega arith in
    subst (λ (n : ℕ). medium_of media partner ≡ medium_of media n) place (alike zero local partner is)) in
    let rest : list_any (links_two_media media) states ≡ false = none_linked media states (λ at local partner is. alike (suc at) local partner is) in
    rw (here, rest) refl

itself : (n : ℕ) → not (n == n) ≡ false
itself n = grind arith

none_wrong : (slots : ℕ) (states : List ProgStateState) → All (λ one. length one.goals ≡ slots) states → list_any (has_wrong_goals slots) states ≡ false
none_wrong slots [] counted = refl
none_wrong slots (one ∷ states) counted =
    let here : has_wrong_goals slots one ≡ false = rw (All-head (λ one. length one.goals ≡ slots) one states counted) (itself slots) in
    let rest : list_any (has_wrong_goals slots) states ≡ false = none_wrong slots states (All-tail (λ one. length one.goals ≡ slots) one states counted) in
    rw (here, rest) refl

-- a feature that is there, without a program, may have this one
pub record CanHave (first : WorldState) (block : BlockState) : Type 0 where
  pub there : block.who < length first.boxes
  pub feature : is_feature (box_at first block.who).kind ≡ true
  pub bare : (box_at first block.who).program ≡ None
  pub fits : IsProgramFor (box_shape (box_at first block.who)).media (program_of block)

no_box_fault : (box : BoxState) (states : List ProgStateState) → is_feature box.kind ≡ true → box.program ≡ None → IsProgramFor (box_shape box).media states → box_fault box states ≡ None
no_box_fault box states feature bare fits =
    let count : length (box_shape box).media ≡ length box.slots = length-map box.slots (λ (slot : Slot). slot.medium) in
    let wrong : list_any (has_wrong_goals (length box.slots)) states ≡ false = none_wrong (length box.slots) states (subst (λ (n : ℕ). All (λ one. length one.goals ≡ n) states) count fits.goals) in
    let linked : list_any (links_two_media (box_shape box).media) states ≡ false = none_linked (box_shape box).media states fits.links in
    rw (feature, bare, wrong, linked) refl

no_fault : (first : WorldState) (block : BlockState) → CanHave first block → program_fault first block.who (program_of block) ≡ None
no_fault first block can =
    let there = can.there in
    let inside : nat_le (length first.boxes) block.who ≡ false = grind arith in
    rw inside (no_box_fault (box_at first block.who) (program_of block) can.feature can.bare can.fits)

-- ---- one after the other

-- another box is as it was
other_box : (first : WorldState) (who k : ℕ) (states : List ProgStateState) → k ≢ who → box_at (with_program first who states) k ≡ box_at first k
other_box first who k states apart = get_or-set_other first.boxes who k (programmed (box_at first who) states) no_box apart

pub as_many : (first : WorldState) (who : ℕ) (states : List ProgStateState) → length (with_program first who states).boxes ≡ length first.boxes
as_many first who states = length-set first.boxes who (programmed (box_at first who) states)

still_can : (first : WorldState) (who : ℕ) (states : List ProgStateState) (block : BlockState) → block.who ≢ who → CanHave first block → CanHave (with_program first who states) block
still_can first who states block apart can =
    let same = other_box first who block.who states apart in
    record {
      there = subst (λ (n : ℕ). block.who < n) (sym (as_many first who states)) can.there;
      feature = subst (λ (b : BoxState). is_feature b.kind ≡ true) (sym same) can.feature;
      bare = subst (λ (b : BoxState). b.program ≡ None) (sym same) can.bare;
      fits = subst (λ (b : BoxState). IsProgramFor (box_shape b).media (program_of block)) (sym same) can.fits;
    }

others_can : (first : WorldState) (who : ℕ) (states : List ProgStateState) (blocks : List BlockState) → All (λ other. other ≢ who) (owners blocks) → All (CanHave first) blocks → All (CanHave (with_program first who states)) blocks
others_can first who states blocks apart can k d within =
    let owner : slice_index_or (owners blocks) k d.who ≡ (slice_index_or blocks k d).who = get_or-map (λ (block : BlockState). block.who) blocks k d d.who within in
    let inside : k < length (owners blocks) = subst (λ (n : ℕ). k < n) (sym (length-map blocks (λ (block : BlockState). block.who))) within in
    still_can first who states (slice_index_or blocks k d) (subst (λ (n : ℕ). n ≢ who) owner (apart k d.who inside)) (can k d within)

pub all_may : (first : WorldState) (blocks : List BlockState) → AreApart (owners blocks) → All (CanHave first) blocks → MayHavePrograms first blocks
all_may first [] apart can = tt
all_may first (block ∷ blocks) apart can =
    let here = All-head (CanHave first) block blocks can in
    let rest = others_can first block.who (program_of block) blocks apart.0 (All-tail (CanHave first) block blocks can) in
    (here.fits.program, no_fault first block here, all_may (with_program first block.who (program_of block)) blocks apart.1 rest)

-- ---- what stays

chain_but : (a b c : BoxState) → IsButFor a b → IsButFor b c → IsButFor a c
chain_but a b c one two = record { program = two.program; is = two.is ∙ ap (λ (x : BoxState). record x { program = two.program }) one.is }

pub boxes_are : (first : WorldState) (blocks : List BlockState) (k : ℕ) → IsButFor (box_at first k) (box_at (with_programs first blocks) k)
boxes_are first [] k = record { program = (box_at first k).program; is = refl }
boxes_are first (block ∷ blocks) k =
    let next : WorldState = with_program first block.who (program_of block) in
    chain_but (box_at first k) (box_at (with_program first block.who (program_of block)) k) (box_at (with_programs first (block ∷ blocks)) k)
    (boxes_stay first block.who k (program_of block)) (boxes_are next blocks k)

pub many_are : (first : WorldState) (blocks : List BlockState) → length (with_programs first blocks).boxes ≡ length first.boxes
many_are first [] = refl
many_are first (block ∷ blocks) = many_are (with_program first block.who (program_of block)) blocks ∙ as_many first block.who (program_of block)

-- ---- shapes

-- a shape with or without a program
abbrev pub shape_by : BoxShapeState → Bool → BoxShapeState
shape_by shape has = record shape { programmed = has }

one_shape : (first : WorldState) (who k : ℕ) (states : List ProgStateState) → k < length first.boxes → box_shape (box_at (with_program first who states) k) ≡ shape_by (box_shape (box_at first k)) (is_some (box_at first k).program || who == k)
one_shape first who k states below = by (who == k) refl
  where
    always : (b : Bool) → true ≡ (b || true)
    always true = refl
    always false = refl

    never : (b : Bool) → b ≡ (b || false)
    never true = refl
    never false = refl

    by : (here : Bool) → (who == k) ≡ here → box_shape (box_at (with_program first who states) k) ≡ shape_by (box_shape (box_at first k)) (is_some (box_at first k).program || who == k)
    by true e =
        let same : who ≡ k = grind arith in
        let there : who < length first.boxes = subst (λ (n : ℕ). n < length first.boxes) (sym same) below in
        let new : box_at (with_program first who states) who ≡ programmed (box_at first who) states = get_or-set_same first.boxes who (programmed (box_at first who) states) no_box there in
        let here : box_at (with_program first who states) k ≡ programmed (box_at first k) states = subst (λ (n : ℕ). box_at (with_program first who states) n ≡ programmed (box_at first n) states) same new in
        ap (λ (b : BoxState). box_shape b) here ∙ ap (λ (b : Bool). shape_by (box_shape (box_at first k)) b) (always (is_some (box_at first k).program) ∙ ap (λ (b : Bool). is_some (box_at first k).program || b) (sym e))
    by false e =
        let apart : k ≢ who = grind arith in
        ap (λ (b : BoxState). box_shape b) (other_box first who k states apart)
        ∙ ap (λ (b : Bool). shape_by (box_shape (box_at first k)) b) (never (is_some (box_at first k).program) ∙ ap (λ (b : Bool). is_some (box_at first k).program || b) (sym e))

-- each box has the shape that it had, and a program if it was given one
pub shapes_are : (first : WorldState) (blocks : List BlockState) (k : ℕ) → k < length first.boxes → box_shape (box_at (with_programs first blocks) k) ≡ shape_by (box_shape (box_at first k)) (is_some (box_at first k).program || has_owner (owners blocks) k)
shapes_are first [] k below = ap (λ (b : Bool). shape_by (box_shape (box_at first k)) b) (never (is_some (box_at first k).program))
  where
    never : (b : Bool) → b ≡ (b || false)
    never true = refl
    never false = refl
shapes_are first (block ∷ blocks) k below =
    let next : WorldState = with_program first block.who (program_of block) in
    let there : k < length (with_program first block.who (program_of block)).boxes = subst (λ (n : ℕ). k < n) (sym (as_many first block.who (program_of block))) below in
    let one = one_shape first block.who k (program_of block) below in
    shapes_are next blocks k there
    ∙ ap (λ (s : BoxShapeState). shape_by s (s.programmed || has_owner (owners blocks) k)) one
    ∙ ap (λ (b : Bool). shape_by (box_shape (box_at first k)) b) (grouped (is_some (box_at first k).program) (block.who == k) (has_owner (owners blocks) k))
  where
    grouped : (a b c : Bool) → ((a || b) || c) ≡ (a || (b || c))
    grouped true b c = refl
    grouped false b c = refl
