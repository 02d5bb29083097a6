-- The two tables of what may be at rest on one side of a box have what is at rest, and nothing else.
use Rattle.std.proofs.Common.{◌≡◌, ◌↔◌, Bool, true, false, if◌then◌else◌, Option, Some, None, IsSome, List, [], ◌∷◌, ◌++◌, refl, ap, sym, ◌∙◌, subst, arith}
use Rattle.std.specs.Option.{option_eq, option_map}
use Rattle.mc_signal.specs.Choice.{answers, choose}
use Rattle.mc_signal.specs.Same.{is_same_descriptor, is_same_selector}
use Rattle.mc_signal.specs.declared.Descriptor.{Descriptor}
use Rattle.mc_signal.specs.declared.Selector.{Selector}
use Rattle.mc_signal.specs.declared.Sender.{Sender}
use Rattle.mc_signal.specs.declared.Signal.{Signal}
use Rattle.mc_signal.specs.declared.Signal.TheVariants.{Describe, Select}
use Rattle.mc_signal.proofs.Equal.{descriptor_refl, option_descriptor_eq, option_selector_eq, selector_refl}
use Rattle.mc_slot.specs.EndTurn.{describe_newer, end_turn_in, select_again, select_newer}
use Rattle.mc_slot.specs.Moves.{is_live}
use Rattle.mc_slot.specs.Tunnel.{KeptIn}
use Rattle.mc_slot.specs.declared.Goal.{Goal}
use Rattle.mc_slot.specs.declared.Goal.TheVariants.{Close as ToClose}
use Rattle.mc_slot.specs.declared.Slot.{Slot}
use Rattle.mc_slot.specs.declared.State.{State}
use Rattle.mc_slot.specs.declared.State.TheVariants.{Closed, Opened, Flowing, Closing}
use Rattle.mc_link.specs.LinkTurn.{selector_due, pass_selector, flow, lean_in, descriptor_due, pass_descriptor}
use Rattle.mc_link.proofs.Parts.{empty_four, live_both, quiet}
use Rattle.mc_path_laws.specs.Rests.{EndMayRest, EndsAtRest, HavePassedOn, IsPassedOn, LinkMayRest, LinksAtRest}

-- ---- what isn't sent again

-- a signal that is sent unless a test holds isn't sent, just where the test holds
unsent : (test : Bool) (signal : Signal) → ((if test then [] else signal ∷ []) ≡ []) ↔ (test ≡ true)
unsent true signal = (λ none. refl, λ holds. refl)
unsent false signal = (λ none. absurd (cc), λ holds. absurd (cc))

-- a descriptor isn't sent again just where it is the last that was sent
pub described : (last : Option Descriptor) (own : Descriptor) → (describe_newer last own ≡ []) ↔ (last ≡ Some own)
described last own = (
  λ none. option_descriptor_eq last own ((unsent (option_eq is_same_descriptor last (Some own)) (Describe own)).0 none),
  λ was. (unsent (option_eq is_same_descriptor last (Some own)) (Describe own)).1 (rw was (descriptor_refl own)),
)

-- nor a selector
pub selected : (last : Option Selector) (choice : Selector) → (select_newer last choice ≡ []) ↔ (last ≡ Some choice)
selected last choice = (
  λ none. option_selector_eq last choice ((unsent (option_eq is_same_selector last (Some choice)) (Select choice)).0 none),
  λ was. (unsent (option_eq is_same_selector last (Some choice)) (Select choice)).1 (rw was (selector_refl choice)),
)

-- ---- an end

-- where an end got a descriptor it owes no select, just where its last is the choice for that
answered : (got : Option Descriptor) (last : Option Selector) (me : Sender) → IsSome got
    → (select_again got last me ≡ []) ↔ (last ≡ option_map (λ d. choose d me) got)
answered None last me there = absurd (cc)
answered (Some got) last me there = selected last (choose got me)

-- two lists, one after the other, are empty just where each is
pub both_empty : (p q : List Signal) → (p ++ q ≡ []) ↔ ((p ≡ []) × (q ≡ []))
both_empty [] q = (λ none. (refl, none), λ each. each.1)
both_empty (signal ∷ signals) q = (λ none. absurd (cc), λ each. absurd (grind (arith)))

-- an end by the table, in whatever state
end_by : (goal : Goal) (state : State) (slot : Slot) (own : Descriptor) (me : Sender) → KeptIn state slot
    → (end_turn_in goal state slot false own me ≡ []) ↔ EndMayRest goal state slot own me
end_by ToClose Closed slot own me kept = (λ rest. tt, λ may. refl)
end_by ToClose Closing slot own me kept = (λ rest. tt, λ may. refl)
end_by ToClose state slot own me kept = (λ rest. absurd (cc), λ may. absurd may)
end_by goal Opened slot own me kept = (λ rest. absurd (cc), λ may. absurd may)
end_by goal Flowing slot own me kept =
    let parts = both_empty (describe_newer slot.sent own) (select_again slot.got slot.sel_out me) in
    let sent = described slot.sent own in
    let chose = answered slot.got slot.sel_out me kept.1 in
    (λ rest. (sent.0 (parts.0 rest).0, chose.0 (parts.0 rest).1), λ may. parts.1 (sent.1 may.0, chose.1 may.1))
end_by goal state slot own me kept = (λ rest. tt, λ may. refl)

pub ends_at_rest : EndsAtRest
ends_at_rest goal slot own me kept = end_by goal slot.state slot own me kept

-- ---- a link

-- a flowing slot passes on nothing of what the other got, just where that was the last it sent
passes_by : (last got : Option Descriptor) → IsSome got → (pass_descriptor Flowing last got ≡ []) ↔ (last ≡ got)
passes_by last None there = absurd (cc)
passes_by last (Some got) there = described last got

pub passes : (slot other : Slot) → slot.state ≡ Flowing → IsSome other.got → (descriptor_due slot other ≡ []) ↔ (slot.sent ≡ other.got)
passes slot other is there = subst (λ (state : State). (pass_descriptor state slot.sent other.got ≡ []) ↔ (slot.sent ≡ other.got)) (sym is) (passes_by slot.sent other.got there)

-- it sends no selector just where it has passed on the one that the other got, by whether that answers
chooses_by : (fits : Bool) (h : Selector) (g : Descriptor) (last : Option Selector) → answers h g ≡ fits
    → ((if fits then select_newer last h else []) ≡ []) ↔ IsPassedOn (Some h) (Some g) last
chooses_by true h g last is = (λ none other d same same_got answers. (selected last h).0 none ∙ same, λ passed. (selected last h).1 (passed h g refl refl is))
chooses_by false h g last is = (λ none other d same same_got answers. absurd (grind (arith)), λ passed. refl)

-- and likewise whatever the other got, and whatever it got itself
pub chooses : (heard : Option Selector) (got : Option Descriptor) (last : Option Selector) → (pass_selector heard got last ≡ []) ↔ IsPassedOn heard got last
chooses None got last = (λ none h g is. absurd (cc), λ passed. refl)
chooses (Some heard) None last = (λ none h g is was. absurd (cc), λ passed. refl)
chooses (Some heard) (Some got) last = chooses_by (answers heard got) heard got last refl

-- two flowing slots send nothing just where both have passed on what the other got
flowing_by : (a b : Slot) → a.state ≡ Flowing → b.state ≡ Flowing → KeptIn Flowing a → KeptIn Flowing b → (flow a b ≡ []) ↔ HavePassedOn a b
flowing_by a b is was kept_a kept_b =
    let first = passes a b is kept_b.1 in
    let second = passes b a was kept_a.1 in
    let first_selector = chooses b.sel_in a.got a.sel_out in
    let second_selector = chooses a.sel_in b.got b.sel_out in (
      λ none.
          let parts = quiet a b (ap is_live is) (ap is_live was) (live_both a b (ap is_live is) (ap is_live was) ∙ none) in
          record {
            first = first.0 parts.first_passes;
            second = second.0 parts.second_passes;
            first_selector = first_selector.0 parts.first_chooses;
            second_selector = second_selector.0 parts.second_chooses;
          },
      λ passed. empty_four (descriptor_due a b) (descriptor_due b a) (selector_due a b) (selector_due b a)
          (first.1 passed.first) (second.1 passed.second) (first_selector.1 passed.first_selector) (second_selector.1 passed.second_selector),
    )

-- a link by the table, in whatever states
link_by : (first second : State) (a b : Slot) → a.state ≡ first → b.state ≡ second → KeptIn first a → KeptIn second b
    → (lean_in first second a b ≡ []) ↔ LinkMayRest first second a b
link_by Closed Opened a b is was kept_a kept_b = (λ rest. absurd (grind (arith)), λ may. absurd may)
link_by Closed Flowing a b is was kept_a kept_b = (λ rest. absurd (grind (arith)), λ may. absurd may)
link_by Opened Closed a b is was kept_a kept_b = (λ rest. absurd (grind (arith)), λ may. absurd may)
link_by Flowing Closed a b is was kept_a kept_b = (λ rest. absurd (grind (arith)), λ may. absurd may)
link_by Opened Opened a b is was kept_a kept_b = (λ rest. absurd (grind (arith)), λ may. absurd may)
link_by Opened Flowing a b is was kept_a kept_b = (λ rest. absurd (grind (arith)), λ may. absurd may)
link_by Flowing Opened a b is was kept_a kept_b = (λ rest. absurd (grind (arith)), λ may. absurd may)
link_by Flowing Flowing a b is was kept_a kept_b = flowing_by a b is was kept_a kept_b
link_by first second a b is was kept_a kept_b = (λ rest. tt, λ may. refl)

pub links_at_rest : LinksAtRest
links_at_rest a b kept_a kept_b = link_by a.state b.state a b refl refl kept_a kept_b
