-- Two calls of `gen` with one number and one size print the same: no box has a program, and goals decide all paths.
use Rattle.std.proofs.Common.{◌≡◌, ◌⊎◌, ℕ, List, Option, Some, map, refl, ap, sym, ◌∙◌, subst, arith}
use Rattle.mc_box.specs.declared.event.Turn.{Turn}
use Rattle.mc_lines.specs.SoFar.{Declared}
use Rattle.mc_lines.specs.declared.tail.Tail.TheVariants.{Nothing}
use Rattle.mc_model.specs.Unprogrammed.{HasNoPrograms}
use Rattle.mc_net.proofs.FirstPrograms.{unprogrammed_texts}
use Rattle.mc_net.proofs.OneNet.{one_declared}
use Rattle.mc_net.specs.Nets.{DeclaresNet, IsFirstWorld, batch_turns, batches_of}
use Rattle.mc_net.specs.declared.net.Net.{Net}
use Rattle.mc_scene.specs.Chains.{drawn_chains}
use Rattle.mc_scene.specs.Generated.{generated}
use Rattle.mc_scene_laws.specs.ChainTexts.{chains_declared}
use Rattle.mc_scene_laws.proofs.ChainTexts.{generated_are_texts}
use Rattle.mc_scene_laws.proofs.GeneratedRests.{generated_are_unprogrammed, generated_leave_decided}
use Rattle.mc_settings.specs.Batches.{LeavesDecided}
use Rattle.mc_top.specs.EndsAlike.{GenPrintsAlike, Judges}
use Rattle.mc_top.specs.Modes.{IsWithinLimits, output_of}
use Rattle.mc_call.specs.declared.status.TheConstants.{WORKED}
use Rattle.mc_call.specs.declared.done.Done.{Done}
use Rattle.mc_top.proofs.EndsAlike.{judged_cases, print_alike}
use Rattle.mc_top.proofs.MadeTexts.{generated_can_run}
use Rattle.mc_top.proofs.TextAlone.{calls_print_same}
use Rattle.mc_top.proofs.Told.{works_out}
use Rattle.mc_words.specs.declared.words.Mode.TheVariants.{Gen}

-- ---- the network

-- what it declares is what the chains do
declared_is : (number size : ℕ) (net : Net) → IsWithinLimits (Gen number size) → (declares : DeclaresNet Nothing (generated number size) net) → declares.declared ≡ chains_declared (drawn_chains number size)
declared_is number size net within declares =
    one_declared Nothing (generated number size) declares.declared (chains_declared (drawn_chains number size)) declares.says (generated_are_texts number size within.1 within.2)

first_is : (number size : ℕ) (net : Net) → IsWithinLimits (Gen number size) → DeclaresNet Nothing (generated number size) net → IsFirstWorld (chains_declared (drawn_chains number size)) net.world
first_is number size net within declares = subst (λ (d : Declared). IsFirstWorld d net.world) (declared_is number size net within declares) declares.world

no_programs : (number size : ℕ) (net : Net) → IsWithinLimits (Gen number size) → DeclaresNet Nothing (generated number size) net → HasNoPrograms net.world
no_programs number size net within declares =
    unprogrammed_texts (chains_declared (drawn_chains number size)) net.world (first_is number size net within declares) (generated_are_unprogrammed number size)

all_decided : (number size : ℕ) (net : Net) → IsWithinLimits (Gen number size) → DeclaresNet Nothing (generated number size) net → LeavesDecided net.world (map batch_turns net.batches.items)
all_decided number size net within declares =
    let batches : map batch_turns net.batches.items ≡ batches_of (chains_declared (drawn_chains number size)).commands =
    declares.batches ∙ ap (λ (d : Declared). batches_of d.commands) (declared_is number size net within declares) in
    subst (λ (list : List (List Turn)). LeavesDecided net.world list) (sym batches) (generated_leave_decided number size net.world (first_is number size net within declares))

-- ---- calls

-- a call that judged its text did its work
worked_due : (number size : ℕ) (old new : Option (List ℕ)) (done : Done) → IsWithinLimits (Gen number size) → Judges (Gen number size) (generated number size) old new done → done.due ≡ WORKED
worked_due number size old new done within judges =
    let cases = judged_cases done.due judges.judged in
    let dues : (done.due ≡ 0) ⊎ (done.due ≡ 1) ⊎ (done.due ≡ 3) ⊎ (done.due ≡ 4) ⊎ (done.due ≡ 6) ⊎ (done.due ≡ 7) ⊎ (done.due ≡ 8) ⊎ (done.due ≡ 9) = grind (arith, cases) in
    let out = works_out (Gen number size) (Some (generated number size)) old new (generated number size) done.status done.due done.journal.items dues judges.ends refl
    (generated_can_run number size within.1 within.2) (λ four. (let no : ⊥ = grind (arith, cases, four) in no)) in
    grind (arith, cases, out)

pub gen_prints_alike : GenPrintsAlike
gen_prints_alike number size old new from to done other within first second =
    let due = worked_due number size old new done within first in
    let also = worked_due number size from to other within second in
    let one = first.ends.worked due in
    let two = second.ends.worked also in
    print_alike old new from to done other WORKED (output_of (Gen number size) one.net done.journal.items) (output_of (Gen number size) two.net other.journal.items) due also
    (calls_print_same (generated number size) done.journal.items other.journal.items (Gen number size) (Gen number size) old new from to done.status other.status refl (λ names. refl) (λ names. tt) refl refl refl refl one two
    (no_programs number size one.net within one.declared) (all_decided number size one.net within one.declared))
    one.delivered two.delivered
