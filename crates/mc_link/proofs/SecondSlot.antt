-- What holds where the first slot of a link takes a signal holds where the second does, by the mirror.
use Rattle.std.proofs.Common.{◌≡◌, ◌≤◌, ◌+◌, ◌*◌, ◌++◌, ℕ, Option, Some, List, length, ap, sym, ◌∙◌, subst, arith}
use Rattle.mc_signal.specs.declared.Signal.{Signal}
use Rattle.mc_slot.specs.EndTurn.{cause_of}
use Rattle.mc_slot.specs.Moves.{answer_signals, slot_send_all}
use Rattle.mc_slot_laws.specs.Weights.{weight, weights}
use Rattle.mc_link.specs.LinkLaws.{SecondSlotSendsThree, other_side}
use Rattle.mc_link.specs.LinkTurn.{link_turn, sent_by_first, sent_by_second, closed_side}
use Rattle.mc_link.specs.LinkWeights.{SecondSlotPays, stored_link}
use Rattle.mc_link.specs.declared.Side.{Side}
use Rattle.mc_link.specs.declared.Side.TheVariants.{First, Second}
use Rattle.mc_link.proofs.LinkPays.{link_pays}
use Rattle.mc_link.proofs.LinkThree.{link_sends_three}
use Rattle.mc_link.proofs.Mirror.{link_mirror, mirror_rests, side_turned}

pub second_slot_sends_three : SecondSlotSendsThree
second_slot_sends_three a b after signal answer kept rest goes =
    let same : length (link_turn a after (other_side (closed_side (cause_of signal after.state) First))) ≡ length (link_turn after a (closed_side (cause_of signal after.state) First)) =
    (link_mirror after a (closed_side (cause_of signal after.state) First)).2 in
    subst (λ (closed : Option Side). length (answer_signals answer) + length (link_turn a after closed) ≤ 3) (sym (side_turned (cause_of signal after.state)))
    (subst (λ (n : ℕ). length (answer_signals answer) + n ≤ 3) (sym same) (link_sends_three b a after signal answer kept (mirror_rests a b rest) goes))

-- the weights of the two laws, by what the two slots send and by what they store
abbrev Pays : (n x y : ℕ) → Signal → Option Signal → (own others : List Signal) → (after before : ℕ) → Type 0
Pays n x y signal answer own others after before =
    1 + x * weights n (answer_signals answer ++ own) + y * weights n others + n * (n * n) * after ≤ (y + 1) * weight n signal + n * (n * n) * before

pub second_slot_pays : SecondSlotPays
second_slot_pays a b middle a_after b_after signal answer n x y a_kept b_kept rest goes a_sends b_sends x_some y_some less =
    let turned : closed_side (cause_of signal middle.state) Second ≡ other_side (closed_side (cause_of signal middle.state) First) = side_turned (cause_of signal middle.state) in
    let mirror = link_mirror middle a (closed_side (cause_of signal middle.state) First) in
    let others : sent_by_first (link_turn a middle (closed_side (cause_of signal middle.state) Second)) ≡ sent_by_second (link_turn middle a (closed_side (cause_of signal middle.state) First)) =
    ap (λ (closed : Option Side). sent_by_first (link_turn a middle closed)) turned ∙ mirror.0 in
    let own : sent_by_second (link_turn a middle (closed_side (cause_of signal middle.state) Second)) ≡ sent_by_first (link_turn middle a (closed_side (cause_of signal middle.state) First)) =
    ap (λ (closed : Option Side). sent_by_second (link_turn a middle closed)) turned ∙ mirror.1 in
    let pays =
    link_pays b a middle b_after a_after signal answer n y x b_kept a_kept (mirror_rests a b rest) goes
    (subst (λ (l : List Signal). slot_send_all middle l ≡ Some b_after) own b_sends) (subst (λ (l : List Signal). slot_send_all a l ≡ Some a_after) others a_sends) y_some x_some less in
    let after : x * stored_link b_after.state a_after.state + y * stored_link a_after.state b_after.state ≡ y * stored_link a_after.state b_after.state + x * stored_link b_after.state a_after.state = omega arith in
    let before : x * stored_link b.state a.state + y * stored_link a.state b.state ≡ y * stored_link a.state b.state + x * stored_link b.state a.state = omega arith in
    subst (λ (l : List Signal). Pays n x y signal answer l (sent_by_first (link_turn a middle (closed_side (cause_of signal middle.state) Second))) (y * stored_link a_after.state b_after.state + x * stored_link b_after.state a_after.state) (y * stored_link a.state b.state + x * stored_link b.state a.state)) (sym own)
    (subst (λ (l : List Signal). Pays n x y signal answer (sent_by_first (link_turn middle a (closed_side (cause_of signal middle.state) First))) l (y * stored_link a_after.state b_after.state + x * stored_link b_after.state a_after.state) (y * stored_link a.state b.state + x * stored_link b.state a.state)) (sym others)
    (subst (λ (stored : ℕ). Pays n x y signal answer (sent_by_first (link_turn middle a (closed_side (cause_of signal middle.state) First))) (sent_by_second (link_turn middle a (closed_side (cause_of signal middle.state) First))) stored (y * stored_link a.state b.state + x * stored_link b.state a.state)) after
    (subst (λ (stored : ℕ). Pays n x y signal answer (sent_by_first (link_turn middle a (closed_side (cause_of signal middle.state) First))) (sent_by_second (link_turn middle a (closed_side (cause_of signal middle.state) First))) (x * stored_link b_after.state a_after.state + y * stored_link a_after.state b_after.state) stored) before pays)))
