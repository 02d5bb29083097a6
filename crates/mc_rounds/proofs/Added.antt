-- The commands of a batch, added one after another.
use Rattle.std.proofs.Common.{◌≡◌, ◌<◌, ◌==◌, ◌&&◌, if◌then◌else◌, ℕ, zero, suc, Bool, true, false, List, [], ◌∷◌, ◌++◌, length, map, slice_index_or, refl, ap, sym, ◌∙◌, subst, arith}
use Rattle.std.specs.List.{list_all}
use Rattle.std.proofs.lemmas.Bool.{and_parts}
use Rattle.std.proofs.lemmas.Grind.{common_steps}
use Rattle.std.proofs.lemmas.List.{map-append}
use Rattle.std.proofs.lemmas.List.Elements.{filter-append}
use Rattle.mc_box.specs.BoxEvents.{is_command, turn_of}
use Rattle.mc_box.specs.declared.event.Event.TheVariants.{Take}
use Rattle.mc_box.specs.declared.event.Turn.{Turn}
use Rattle.mc_laws.proofs.CommandsGo.{allowed_parts}
use Rattle.mc_model.specs.Settles.{commands_of}
use Rattle.mc_model.specs.Shapes.{AreAllowed, is_allowed}
use Rattle.mc_model.specs.Sound.{IsSound}
use Rattle.mc_model.specs.Worlds.{WorldState}
use Rattle.mc_divided.specs.States.{NetworkState, new_state, with_command}
use Rattle.mc_rounds.specs.Settling.{HasBatch}

-- these commands are left in a world, and no Shift was made
pub record HasAdded (world : WorldState) (now : NetworkState) (added : List Turn) : Type 0 where
  pub same : now.world ≡ world
  pub shifts : (who : ℕ) → now.shifts who ≡ 0
  pub commands : (who : ℕ) → map (turn_of who) (now.stimuli who) ≡ commands_of who added

-- none to begin with
pub none_added : (world : WorldState) (now : NetworkState) → now ≡ new_state world → HasAdded world now []
none_added world now new = subst (λ (state : NetworkState). HasAdded world state []) (sym new)
    (record { same = refl; shifts = λ who. refl; commands = λ who. refl })

-- and the world is what it was
pub world_stays : (before begun : NetworkState) → begun ≡ new_state before.world → begun.world ≡ before.world
world_stays before begun new = ap (λ (state : NetworkState). state.world) new

-- ---- one more

same_is : (a b : ℕ) → (a == b) ≡ true → a ≡ b
same_is a b is = grind (arith, common_steps)

-- a command is one of its own box alone
own_turn : (mine : Bool) (turn : Turn) (who : ℕ) → (turn.who == who) ≡ mine → is_command turn.event ≡ true
    → map (turn_of who) (if mine then turn.event ∷ [] else [])
    ≡ (if is_command turn.event && mine then turn ∷ [] else [])
own_turn true turn who is command =
    let same : turn.who ≡ who = same_is turn.who who is in
    ap (λ (n : ℕ). turn_of n turn.event ∷ []) (sym same)
    ∙ ap (λ (b : Bool). if b && true then turn ∷ [] else []) (sym command)
own_turn false turn who is command = ap (λ (b : Bool). if b && false then turn ∷ [] else []) (sym command)

-- so each box has its commands of the list and one more
at_each : (now : NetworkState) (added : List Turn) (turn : Turn) (who : ℕ) → is_command turn.event ≡ true
    → map (turn_of who) (now.stimuli who) ≡ commands_of who added
    → map (turn_of who) ((with_command now turn).stimuli who) ≡ commands_of who (added ++ turn ∷ [])
at_each now added turn who command had =
    map-append (turn_of who) (now.stimuli who) (if turn.who == who then turn.event ∷ [] else [])
    ∙ (ap (λ (t : List Turn). t ++ map (turn_of who) (if turn.who == who then turn.event ∷ [] else [])) had
    ∙ (ap (λ (t : List Turn). commands_of who added ++ t) (own_turn (turn.who == who) turn who refl command)
    ∙ sym (filter-append (λ (t : Turn). is_command t.event && t.who == who) added (turn ∷ []))))

pub one_added : (world : WorldState) (now next : NetworkState) (added : List Turn) (turn : Turn)
    → HasAdded world now added → is_allowed world turn ≡ true → next ≡ with_command now turn
    → HasAdded world next (added ++ turn ∷ [])
one_added world now next added turn has allowed is =
    let parts = allowed_parts world turn allowed in
    subst (λ (state : NetworkState). HasAdded world state (added ++ turn ∷ [])) (sym is) (record {
      same = has.same;
      shifts = has.shifts;
      commands = λ who. at_each now added turn who parts.command (has.commands who);
    })

-- ---- all of a batch

-- each of those that all pass
passes_at : (p : Turn → Bool) (turns : List Turn) (i : ℕ) (d : Turn) → list_all p turns ≡ true → i < length turns
    → p (slice_index_or turns i d) ≡ true
passes_at p [] i d all inside = absurd (omega (arith, inside))
passes_at p (turn ∷ turns) zero d all inside = (and_parts (p turn) (list_all p turns) all).0
passes_at p (turn ∷ turns) (suc i) d all inside =
    passes_at p turns i d (and_parts (p turn) (list_all p turns) all).1 (omega (arith, inside))

-- so a world allows each command of a batch
pub allowed_at : (world begun : WorldState) (batch : List Turn) (i : ℕ) → begun ≡ world → AreAllowed world batch
    → i < length batch → is_allowed begun (slice_index_or batch i (record { who = 0; event = Take 0 })) ≡ true
allowed_at world begun batch i same allowed inside =
    let turn : Turn = slice_index_or batch i (record { who = 0; event = Take 0 }) in
    subst (λ (w : WorldState). is_allowed w turn ≡ true) (sym same)
    (passes_at (is_allowed world) batch i (record { who = 0; event = Take 0 }) allowed inside)

-- a sound world to which all of them were added has the batch
pub batch_added : (world : WorldState) (now : NetworkState) (batch : List Turn) → IsSound world
    → HasAdded world now batch → HasBatch world batch now
batch_added world now batch sound has = record {
  sound = sound;
  same = has.same;
  commands = has.commands;
  no_shifts = has.shifts;
}
