-- How the chains of a generated text are drawn.
use Rattle.std.specs.Prelude.{ℕ, zero, suc, ◌+◌, ◌*◌, ◌/◌, ◌%◌, ◌==◌, List, map, if◌then◌else◌}
use Rattle.std.specs.List.{range_with_len}
use Rattle.mc_text.specs.Draws.{next_state}
use Rattle.mc_scene.specs.declared.chains.Chain.{Chain}
use Rattle.mc_scene.specs.declared.chains.CodecRun.{CodecRun}
use Rattle.mc_scene.specs.declared.chains.FirstGoal.{FirstGoal}
use Rattle.mc_scene.specs.declared.chains.FirstGoal.TheVariants.{Open, Hold, Close}

-- ---- draws

-- the state after so many draws
abbrev pub state_after_draws : ℕ → ℕ → ℕ
state_after_draws zero state = state
state_after_draws (suc count) state = next_state (state_after_draws count state)

-- the draw after so many others
abbrev pub draw_at : ℕ → ℕ → ℕ
draw_at count state = state_after_draws (suc count) state / 65536

-- ---- a chain

-- the codecs of a run: each is one more than the one before it, and 0 comes after 7
abbrev pub run_codecs : CodecRun → List ℕ
run_codecs run = map (λ place. (run.first + place) % 8) (range_with_len 0 run.count)

-- the run that two draws make: how many codecs, and the first of them
abbrev pub drawn_codec_run : ℕ → CodecRun
drawn_codec_run state = record { count = 1 + draw_at 0 state % 4; first = draw_at 1 state % 8 }

abbrev pub drawn_goal : ℕ → FirstGoal
drawn_goal drawn = if drawn == 0 then Open else (if drawn == 1 then Hold else Close)

-- the chain that six draws make: how many features, the codecs of the left and of the right device, and the goal
abbrev pub drawn_chain : ℕ → ℕ → Chain
drawn_chain number state = record {
  number = number;
  features = draw_at 0 state % 4;
  left = drawn_codec_run (state_after_draws 1 state);
  right = drawn_codec_run (state_after_draws 3 state);
  goal = drawn_goal (draw_at 5 state % 3);
}

-- ---- all chains

-- the chain with this number: those before it made six draws each
abbrev pub chain_drawn_at : ℕ → ℕ → Chain
chain_drawn_at state number = drawn_chain number (state_after_draws (6 * number) state)

-- so many chains, from a state on
abbrev pub drawn_chains : ℕ → ℕ → List Chain
drawn_chains state size = map (chain_drawn_at state) (range_with_len 0 size)
