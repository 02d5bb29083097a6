-- A chain of tunnels with nothing under way, joined by links at rest, with an end at rest at each side: all its slots are closed, or all flow, and what its ends have of each other has passed along it.
use Rattle.std.proofs.Common.{◌≡◌, ◌⊎◌, inl, inr, true, Option, Some, List, [], ◌∷◌, refl, ap, ◌∙◌, subst, arith}
use Rattle.std.proofs.lemmas.Grind.{common_steps}
use Rattle.mc_signal.specs.Choice.{answers, choose}
use Rattle.mc_signal.specs.declared.Descriptor.{Descriptor}
use Rattle.mc_signal.specs.declared.Selector.{Selector}
use Rattle.mc_signal.specs.declared.Sender.{Sender}
use Rattle.mc_slot.specs.EndTurn.{IsAtRest, describe_newer, live_turn, select_again}
use Rattle.mc_slot.specs.Moves.{is_live}
use Rattle.mc_slot.specs.Outlook.{waits}
use Rattle.mc_slot.specs.Tunnel.{Agree, Kept, TunnelSound}
use Rattle.mc_slot.specs.declared.Goal.{Goal}
use Rattle.mc_slot.specs.declared.Slot.{Slot}
use Rattle.mc_slot.specs.declared.State.{State}
use Rattle.mc_slot.specs.declared.State.TheVariants.{Closed, Opening, Opened, Flowing}
use Rattle.mc_link.specs.LinkTurn.{IsLinkAtRest, selector_due, lean, descriptor_due}
use Rattle.mc_link.proofs.Parts.{Quiet, quiet}
use Rattle.mc_path_laws.proofs.RestTables.{both_empty, chooses, described, passes, selected}
use Rattle.mc_model.specs.PathTable.{Hears}

-- ---- chains

-- the tunnels beyond a slot, each by its near and its far slot: nothing is under way, and the near slot is linked with the slot before it, at rest
abbrev pub Joined : Slot → List (Slot × Slot) → Type 0
Joined far [] = Unit {0}
Joined far ((near, next) ∷ rest) = IsLinkAtRest far near × TunnelSound near [] next [] × Joined next rest

-- the slot at the other end
abbrev pub last_slot : Slot → List (Slot × Slot) → Slot
last_slot far [] = far
last_slot far ((near, next) ∷ rest) = last_slot next rest

-- each slot of the tunnels is in a state
abbrev pub AllAre : State → List (Slot × Slot) → Type 0
AllAre state [] = Unit {0}
AllAre state ((near, next) ∷ rest) = (near.state ≡ state) × (next.state ≡ state) × AllAre state rest

-- the last slot is, as the others are
pub end_is : (state : State) (rest : List (Slot × Slot)) (far : Slot) → far.state ≡ state → AllAre state rest → (last_slot far rest).state ≡ state
end_is state [] far is all = is
end_is state ((near, next) ∷ rest) far is all = end_is state rest next all.1 all.2

-- ---- an end at rest

-- it has answered each open
never_opened : (goal : Goal) (a : Slot) (own : Descriptor) (me : Sender) → IsAtRest goal a own me → a.state ≡ Opened → ⊥
never_opened goal a own me rest is = grind (arith)

-- where it waits for no closeack it is closed, opening or flowing
first_state : (goal : Goal) (a : Slot) (own : Descriptor) (me : Sender) → IsAtRest goal a own me → waits a.state ≡ 0 → (a.state ≡ Closed) ⊎ ((a.state ≡ Opening) ⊎ (a.state ≡ Flowing))
first_state goal a own me rest calm = grind (arith)

-- where it flows it sends neither a describe nor a select
flowing_end : (goal : Goal) (a : Slot) (own : Descriptor) (me : Sender) → a.state ≡ Flowing → IsAtRest goal a own me
    → (describe_newer a.sent own ≡ []) × (select_again a.got a.sel_out me ≡ [])
flowing_end goal a own me is rest =
    let due : live_turn Flowing a own me ≡ [] = grind (arith) in
    (both_empty (describe_newer a.sent own) (select_again a.got a.sel_out me)).0 due

-- so it has sent its own descriptor
sent_own : (goal : Goal) (a : Slot) (own : Descriptor) (me : Sender) → a.state ≡ Flowing → IsAtRest goal a own me → a.sent ≡ Some own
sent_own goal a own me is rest = (described a.sent own).0 (flowing_end goal a own me is rest).0

-- and the choice for what it got
chose : (goal : Goal) (a : Slot) (own got : Descriptor) (me : Sender) → a.state ≡ Flowing → IsAtRest goal a own me → a.got ≡ Some got → a.sel_out ≡ Some (choose got me)
chose goal a own got me is rest had =
    (selected a.sel_out (choose got me)).0 (subst (λ (o : Option Descriptor). select_again o a.sel_out me ≡ []) had (flowing_end goal a own me is rest).1)

-- ---- a tunnel with nothing under way

-- no slot waits for a closeack
awake : (a b : Slot) → TunnelSound a [] b [] → waits a.state ≡ 0
awake a b sound = omega (arith, sound.first_waits)

-- an opening slot's far slot is opened
opening_far : (a b : Slot) → TunnelSound a [] b [] → a.state ≡ Opening → b.state ≡ Opened
opening_far a b sound is = let agree : Agree a b = sound.meet in grind (arith)

-- a closed one's is closed
closed_far : (a b : Slot) → TunnelSound a [] b [] → a.state ≡ Closed → b.state ≡ Closed
closed_far a b sound is =
    let agree : Agree a b = sound.meet in
    let other : 0 ≡ waits b.state = sound.second_waits in
    grind (arith)

-- and a flowing one's flows
flowing_far : (a b : Slot) → TunnelSound a [] b [] → a.state ≡ Flowing → b.state ≡ Flowing
flowing_far a b sound is = let agree : Agree a b = sound.meet in grind (arith)

-- what two flowing slots have of each other
record HaveOfEachOther (a b : Slot) : Type 0 where
  got : a.got ≡ b.sent
  got_back : b.got ≡ a.sent
  heard : a.sel_in ≡ b.sel_out
  heard_back : b.sel_in ≡ a.sel_out

-- each got what the other sent last
flowing_have : (a b : Slot) → TunnelSound a [] b [] → a.state ≡ Flowing → b.state ≡ Flowing → HaveOfEachOther a b
flowing_have a b sound is was =
    let agree : Agree a b = sound.meet in
    record { got = grind (arith); got_back = grind (arith); heard = grind (arith); heard_back = grind (arith) }

-- ---- a link at rest

-- an opened slot has its partner opening
opened_link : (a b : Slot) → Kept a → Kept b → lean a b ≡ [] → a.state ≡ Opened → waits b.state ≡ 0 → b.state ≡ Opening
opened_link a b kept_a kept_b rest is calm = grind (arith)

-- a closed one has it closed or opening
closed_link : (a b : Slot) → Kept b → lean a b ≡ [] → a.state ≡ Closed → waits b.state ≡ 0 → (b.state ≡ Closed) ⊎ (b.state ≡ Opening)
closed_link a b kept_b rest is calm = grind (arith)

-- and a flowing one has it flowing or opening
flowing_link : (a b : Slot) → Kept a → Kept b → lean a b ≡ [] → a.state ≡ Flowing → waits b.state ≡ 0 → (b.state ≡ Flowing) ⊎ (b.state ≡ Opening)
flowing_link a b kept_a kept_b rest is calm = grind (arith)

-- two flowing slots send nothing of each other
flowing_rest : (a b : Slot) → lean a b ≡ [] → a.state ≡ Flowing → b.state ≡ Flowing → Quiet a b
flowing_rest a b rest is was = quiet a b (ap is_live is) (ap is_live was) rest

-- so the one has sent the descriptor that the other got
passed : (a b : Slot) (own : Descriptor) → a.state ≡ Flowing → b.got ≡ Some own → descriptor_due a b ≡ [] → a.sent ≡ Some own
passed a b own is had none = (passes a b is (rw had refl)).0 none ∙ had

-- and the choice that the other got, where that answers what it got itself
chosen : (a b : Slot) (own : Descriptor) (choice : Selector) → a.got ≡ Some own → b.sel_in ≡ Some choice → answers choice own ≡ true → selector_due a b ≡ []
    → a.sel_out ≡ Some choice
chosen a b own choice had heard answers none = (chooses b.sel_in a.got a.sel_out).0 none choice own heard had answers

-- a choice for a descriptor answers it
answers_own : (own : Descriptor) (me : Sender) → answers (choose own me) own ≡ true
answers_own own me = grind (arith, common_steps)

-- ---- the states along a chain

-- no slot is opening, since the end that it leads to would be opened
never_opening : (rest : List (Slot × Slot)) (near far : Slot) (goal : Goal) (own : Descriptor) (me : Sender)
    → TunnelSound near [] far [] → Joined far rest → IsAtRest goal (last_slot far rest) own me → near.state ≡ Opening → ⊥
never_opening [] near far goal own me sound joined end is = never_opened goal far own me end (opening_far near far sound is)
never_opening ((first, next) ∷ rest) near far goal own me sound joined end is =
    never_opening rest first next goal own me joined.1 joined.2 end
    (opened_link far first sound.second_kept joined.1.first_kept joined.0 (opening_far near far sound is) (awake first next joined.1))

-- a closed slot has only closed ones beyond it
closed_on : (rest : List (Slot × Slot)) (far : Slot) (goal : Goal) (own : Descriptor) (me : Sender)
    → Joined far rest → IsAtRest goal (last_slot far rest) own me → far.state ≡ Closed → AllAre Closed rest
closed_on [] far goal own me joined end is = tt
closed_on ((near, next) ∷ rest) far goal own me joined end is =
    let here : near.state ≡ Closed = elim (closed_link far near joined.1.first_kept joined.0 is (awake near next joined.1)) [
      | inl closed ↦ closed
      | inr opening ↦ absurd (never_opening rest near next goal own me joined.1 joined.2 end opening)
    ] in
    let there : next.state ≡ Closed = closed_far near next joined.1 here in
    (here, there, closed_on rest next goal own me joined.2 end there)

-- and a flowing one only flowing ones
flowing_on : (rest : List (Slot × Slot)) (far : Slot) (goal : Goal) (own : Descriptor) (me : Sender)
    → Kept far → Joined far rest → IsAtRest goal (last_slot far rest) own me → far.state ≡ Flowing → AllAre Flowing rest
flowing_on [] far goal own me kept joined end is = tt
flowing_on ((near, next) ∷ rest) far goal own me kept joined end is =
    let here : near.state ≡ Flowing = elim (flowing_link far near kept joined.1.first_kept joined.0 is (awake near next joined.1)) [
      | inl flows ↦ flows
      | inr opening ↦ absurd (never_opening rest near next goal own me joined.1 joined.2 end opening)
    ] in
    let there : next.state ≡ Flowing = flowing_far near next joined.1 here in
    (here, there, flowing_on rest next goal own me joined.1.second_kept joined.2 end there)

-- ---- what passes along a flowing chain

-- the descriptor of the end comes to each slot before it
sent_back : (rest : List (Slot × Slot)) (far : Slot) (own : Descriptor) → far.state ≡ Flowing → Joined far rest → AllAre Flowing rest
    → (last_slot far rest).sent ≡ Some own → far.sent ≡ Some own
sent_back [] far own is joined all end = end
sent_back ((near, next) ∷ rest) far own is joined all end =
    let further : next.sent ≡ Some own = sent_back rest next own all.1 joined.2 all.2 end in
    let have = flowing_have near next joined.1 all.0 all.1 in
    passed far near own is (have.got ∙ further) (flowing_rest far near joined.0 is all.0).first_passes

-- a descriptor that a slot got goes on to the end
got_on : (rest : List (Slot × Slot)) (far : Slot) (own : Descriptor) → far.state ≡ Flowing → Joined far rest → AllAre Flowing rest
    → far.got ≡ Some own → (last_slot far rest).got ≡ Some own
got_on [] far own is joined all got = got
got_on ((near, next) ∷ rest) far own is joined all got =
    let have = flowing_have near next joined.1 all.0 all.1 in
    let had : near.sent ≡ Some own = passed near far own all.0 got (flowing_rest far near joined.0 is all.0).second_passes in
    got_on rest next own all.1 joined.2 all.2 (have.got_back ∙ had)

-- and a choice for the end's descriptor
heard_on : (rest : List (Slot × Slot)) (far : Slot) (own : Descriptor) (choice : Selector) → answers choice own ≡ true → far.state ≡ Flowing → Joined far rest → AllAre Flowing rest
    → (last_slot far rest).sent ≡ Some own → far.sel_in ≡ Some choice → (last_slot far rest).sel_in ≡ Some choice
heard_on [] far own choice answers is joined all end heard = heard
heard_on ((near, next) ∷ rest) far own choice answers is joined all end heard =
    let have = flowing_have near next joined.1 all.0 all.1 in
    let got : near.got ≡ Some own = have.got ∙ sent_back rest next own all.1 joined.2 all.2 end in
    let chose : near.sel_out ≡ Some choice = chosen near far own choice got heard answers (flowing_rest far near joined.0 is all.0).second_chooses in
    heard_on rest next own choice answers all.1 joined.2 all.2 end (have.heard_back ∙ chose)

-- the end's choice for what it got comes back
chose_back : (rest : List (Slot × Slot)) (far : Slot) (own : Descriptor) (choice : Selector) → answers choice own ≡ true → far.state ≡ Flowing → Joined far rest → AllAre Flowing rest
    → far.got ≡ Some own → (last_slot far rest).sel_out ≡ Some choice → far.sel_out ≡ Some choice
chose_back [] far own choice answers is joined all got end = end
chose_back ((near, next) ∷ rest) far own choice answers is joined all got end =
    let have = flowing_have near next joined.1 all.0 all.1 in
    let had : near.sent ≡ Some own = passed near far own all.0 got (flowing_rest far near joined.0 is all.0).second_passes in
    let further : next.sel_out ≡ Some choice = chose_back rest next own choice answers all.1 joined.2 all.2 (have.got_back ∙ had) end in
    chosen far near own choice got (have.heard ∙ further) answers (flowing_rest far near joined.0 is all.0).first_chooses

-- ---- a whole chain

-- all slots flow, and the ends hear each other
abbrev pub FlowingChain : (x far : Slot) → List (Slot × Slot) → (own_x own_y : Descriptor) → (me_x me_y : Sender) → Type 0
FlowingChain x far rest own_x own_y me_x me_y = AllAre Flowing ((x, far) ∷ rest) × Hears x own_x own_y me_y × Hears (last_slot far rest) own_y own_x me_x

-- a chain whose first slot flows
flowing_chain : (goal_x goal_y : Goal) (own_x own_y : Descriptor) (me_x me_y : Sender) (x far : Slot) (rest : List (Slot × Slot))
    → TunnelSound x [] far [] → Joined far rest → IsAtRest goal_x x own_x me_x → IsAtRest goal_y (last_slot far rest) own_y me_y
    → x.state ≡ Flowing → FlowingChain x far rest own_x own_y me_x me_y
flowing_chain goal_x goal_y own_x own_y me_x me_y x far rest sound joined rest_x rest_y is =
    let was : far.state ≡ Flowing = flowing_far x far sound is in
    let all = flowing_on rest far goal_y own_y me_y sound.second_kept joined rest_y was in
    let have = flowing_have x far sound is was in
    let flows = end_is Flowing rest far was all in
    let sent_y = sent_own goal_y (last_slot far rest) own_y me_y flows rest_y in
    let got_far : far.got ≡ Some own_x = have.got_back ∙ sent_own goal_x x own_x me_x is rest_x in
    let got_y = got_on rest far own_x was joined all got_far in
    let got_x : x.got ≡ Some own_y = have.got ∙ sent_back rest far own_y was joined all sent_y in
    let heard_far : far.sel_in ≡ Some (choose own_y me_x) = have.heard_back ∙ chose goal_x x own_x own_y me_x is rest_x got_x in
    let heard_y = heard_on rest far own_y (choose own_y me_x) (answers_own own_y me_x) was joined all sent_y heard_far in
    let chose_far = chose_back rest far own_x (choose own_x me_y) (answers_own own_x me_y) was joined all got_far
    (chose goal_y (last_slot far rest) own_y own_x me_y flows rest_y got_y) in
    ((is, was, all), record { got = got_x; chosen = have.heard ∙ chose_far }, record { got = got_y; chosen = heard_y })

-- all slots are closed, or all flow and the ends hear each other
pub quiet_chain : (goal_x goal_y : Goal) (own_x own_y : Descriptor) (me_x me_y : Sender) (x far : Slot) (rest : List (Slot × Slot))
    → TunnelSound x [] far [] → Joined far rest → IsAtRest goal_x x own_x me_x → IsAtRest goal_y (last_slot far rest) own_y me_y
    → AllAre Closed ((x, far) ∷ rest) ⊎ FlowingChain x far rest own_x own_y me_x me_y
quiet_chain goal_x goal_y own_x own_y me_x me_y x far rest sound joined rest_x rest_y = elim (first_state goal_x x own_x me_x rest_x (awake x far sound)) [
  | inl closed ↦
      let was = closed_far x far sound closed in
      inl (closed, was, closed_on rest far goal_y own_y me_y joined rest_y was)
  | inr other ↦ elim other [
    | inl opening ↦ absurd (never_opening rest x far goal_y own_y me_y sound joined rest_y opening)
    | inr flows ↦ inr (flowing_chain goal_x goal_y own_x own_y me_x me_y x far rest sound joined rest_x rest_y flows)
  ]
]
