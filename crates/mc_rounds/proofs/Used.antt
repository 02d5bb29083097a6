-- Phases until the commands are used up.
use Rattle.std.proofs.Common.{◌≡◌, ◌<◌, is_some, ℕ, true, false, List, length, Option, Some, None, refl, sym, subst, arith}
use Rattle.mc_box.specs.declared.event.Turn.{Turn}
use Rattle.mc_model.specs.Sound.{IsSound}
use Rattle.mc_divided.specs.States.{HasCommands, NetworkState, PlaysOn}
use Rattle.mc_rounds.proofs.Inside.{command_there, run_below}
use Rattle.mc_rounds.proofs.Plays.{no_more, phase_plays, played_more, same_count, total_less}
use Rattle.mc_rounds.specs.Playing.{HasPlayed, Plays, UsesUp, command_total}
use Rattle.mc_slot_laws.specs.Sums.{total}

-- an option that isn't some is none
none_of : {A : Type 0} (last : Option A) → is_some last ≡ false → last ≡ None
none_of None is = refl
none_of (Some at) is = absurd cc

-- where a box used a command up fewer are left
fewer_commands : (old new : NetworkState) (made : List Turn) (who : ℕ) → IsSound old.world → Plays old new made
    → length (new.stimuli who) < length (old.stimuli who) → command_total new < command_total old
fewer_commands old new made who sound p less =
    let all = no_more old new made who p in
    let inside =
    command_there (length old.world.boxes) who made (run_below made old.world new.world sound p.runs) (omega arith)
    in
    subst (λ (n : ℕ). total (λ (k : ℕ). length (new.stimuli k)) n < command_total old)
    (sym (same_count old new made sound p))
    (total_less (λ (k : ℕ). length (new.stimuli k)) (λ (k : ℕ). length (old.stimuli k)) (length old.world.boxes) who
    inside (λ k below. let each = no_more old new made k p in omega arith) less)

-- while commands are left a phase that stops at no last version uses one up
pub uses_some : (a b : NetworkState) (before after : List Turn) (last : Option (ℕ × ℕ)) → IsSound a.world
    → PlaysOn false a b before after last → is_some last ≡ false → HasCommands a → command_total b < command_total a
uses_some a b before after last sound on none some =
    let used = on.phase.used (none_of last none) refl some in
    fewer_commands a b on.made used.who sound (phase_plays false a b on.made last on.phase) used.fewer

-- phases that end at a last version
pub used_to_last : (a b c : NetworkState) (first before after : List Turn) (last : Option (ℕ × ℕ))
    → HasPlayed a b first before → PlaysOn false b c before after last → is_some last ≡ true
    → UsesUp a c first after last
used_to_last a b c first before after None p on some = absurd cc
used_to_last a b c first before after (Some at) p on some = record {
  played = played_more a b c first before after false (Some at) p on;
  ended = on.phase.at_last;
}
