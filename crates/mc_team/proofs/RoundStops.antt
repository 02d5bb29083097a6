-- How a round ends for each box.
use Rattle.std.proofs.Common.{◌≡◌, ◌≢◌, ◌⊎◌, inl, inr, ℕ, suc, ◌<◌, ◌≤◌, ◌++◌, ◌==◌, ◌||◌, Bool, true, false, if◌then◌else◌, MatchOption, IsTrue, List, [], ◌∷◌, length, map, slice_get, Some, refl, sym, ◌∙◌, ap, subst, arith}
use Rattle.std.specs.List.{filter, list_any}
use Rattle.std.proofs.lemmas.Bool.{both_ways}
use Rattle.std.proofs.lemmas.List.{length-append}
use Rattle.std.proofs.lemmas.List.Sums.{length-filter}
use Rattle.mc_box.specs.BoxEvents.{is_command}
use Rattle.mc_box.specs.Boxes.{BoxState}
use Rattle.mc_box.specs.declared.event.Event.{Event}
use Rattle.mc_box.specs.declared.event.Turn.{Turn}
use Rattle.mc_team.proofs.RoundTurns.{AreOwn, BoxAccount, own_count}
use Rattle.mc_team.specs.Teams.{HasTeamWork, TeamState, stimuli_at}
use Rattle.mc_team.specs.Rounds.{EndsBox, HasMoved}
use Rattle.mc_port.specs.Entries.{Claimed, event_of, events_that}
use Rattle.mc_model.specs.Worlds.{box_at}
use Rattle.mc_team.specs.Runs.{IsRan}
use Rattle.mc_team.specs.declared.member.Member.{Member}
use Rattle.mc_worker.specs.Account.{retries_below}
use Rattle.mc_worker.specs.Rounds.{AllIdle, HasStopped, HasWork, IsLastHear, IsRound}
use Rattle.mc_worker.specs.Turns.{BeginsByStimulus, is_memory}
use Rattle.mc_worker.specs.declared.limit.TheConstants.{TURN_LIMIT}
use Rattle.mc_worker.specs.declared.stop.RoundEnd.{RoundEnd}
use Rattle.mc_worker.specs.declared.stop.Stop.{Stop}
use Rattle.mc_worker.specs.declared.stop.Stop.TheVariants.{Rested, Spent, NoMemory, VersionEnd, Strange}
use Rattle.mc_worker.specs.declared.worker.Worker.{Worker}

-- ---- a box that made a round has moved

-- every entry has an event
all_events : (log : List Claimed) → length (events_that (λ (e : Event). true) log) ≡ length log
all_events [] = refl
all_events (claimed ∷ log) = ap suc (all_events log)

-- where some pass a test, one does
one_passes : (test : Turn → Bool) (turns : List Turn) → filter test turns ≢ [] → IsTrue (list_any test turns)
one_passes test [] some = absurd (some refl)
one_passes test (turn ∷ turns) some = here_or_later (test turn) turn (filter test turns) (list_any test turns) (one_passes test turns) some
  where
    here_or_later : (here : Bool) (turn : Turn) (passed : List Turn) (later : Bool) → (passed ≢ [] → IsTrue later) → (if here then turn ∷ passed else passed) ≢ [] → IsTrue (here || later)
    here_or_later true turn passed later behind some = refl
    here_or_later false turn passed later behind some = behind some

-- a box with a log has made a turn
own_turn : (turns : List Turn) (log : List Claimed) (who : ℕ) → AreOwn turns who log → length log ≢ 0 → IsTrue (list_any (λ turn. turn.who == who) turns)
own_turn turns log who own some = one_passes (λ turn. turn.who == who) turns (λ none. some (
    sym (all_events log)
    ∙ (sym (own_count turns log who (λ (e : Event). true) own) ∙ (sym (length-filter (λ (turn : Turn). turn.who == who) turns) ∙ ap (λ (l : List Turn). length l) none))))

-- one whose log begins by a stimulus has used a command
some_command : (log : List Claimed) → length log ≢ 0 → BeginsByStimulus log → 0 < length (events_that is_command log)
some_command [] some begins = absurd (some refl)
some_command (claimed ∷ log) some begins = by_command_first (is_command claimed.entry.event) claimed.entry.event (events_that is_command log) begins
  where
    by_command_first : (here : Bool) (event : Event) (events : List Event) → IsTrue here → 0 < length ((if here then event ∷ [] else []) ++ events)
    by_command_first true event events on = omega arith
    by_command_first false event events on = absurd (both_ways false refl on)

-- no events are no entries
no_first : (first : List Claimed) → map event_of first ≡ [] → first ≡ []
no_first [] none = refl
no_first (claimed ∷ first) none = absurd (cc)

-- where no retries are asked for, nothing comes before the first stimulus
all_rest : (retries : Bool) (b c : Worker) (end : RoundEnd) (round : IsRound retries b c end) → retries ≡ false → round.log ≡ round.account.rest
all_rest retries b c end round off =
    let none : map event_of round.account.first ≡ [] = round.account.retried ∙ ap (λ (t : Bool). retries_below t b.part round.account.below) off in
    round.account.parts ∙ ap (λ (l : List Claimed). l ++ round.account.rest) (no_first round.account.first none)

-- where some were used fewer are left
fewer : (used left all : List Event) → used ++ left ≡ all → 0 < length used → length left < length all
fewer used left all is some = omega (arith, length-append used left, ap (λ (l : List Event). length l) is)

-- a box that had work, and made turns, has moved
pub moved : (retries : Bool) (old new : TeamState) (turns : List Turn) (log : List Claimed) (who : ℕ) (b c : Worker) (end : RoundEnd) (round : IsRound retries b c end) → log ≡ round.log → end.turns ≢ 0
    → HasTeamWork retries old who → AreOwn turns who log → BoxAccount retries old new log who → stimuli_at old who ≡ b.stimuli.items → HasMoved retries old new turns who
moved retries old new turns log who b c end round is some works own account stimuli =
    let long : length log ≢ 0 = λ none. some (round.turns ∙ (ap (λ (l : List Claimed). length l) (sym is) ∙ none)) in
    record {
      works = works;
      made = own_turn turns log who own long;
      used = λ off waits.
          let all : log ≡ round.account.rest = is ∙ all_rest retries b c end round off in
          fewer (events_that is_command log) (stimuli_at new who) (stimuli_at old who) account.stimuli
          (some_command log long (subst BeginsByStimulus (sym all) (round.first (λ none. waits (stimuli ∙ none)))));
    }

-- ---- why it stopped

-- it has made turns where it came to rest or was spent
pub turns_made : (retries : Bool) (b c : Member) (ran : IsRan retries b c) → HasWork retries b.worker → (ran.end.stop ≡ Rested) ⊎ (ran.end.stop ≡ Spent) → ran.end.turns ≢ 0
turns_made retries b c ran work (inl rested) none = ran.works work none rested
turns_made retries b c ran work (inr spent) none = let all : ran.end.turns ≡ TURN_LIMIT = ran.spent.0 spent in absurd (omega (arith, all, none))

-- and it stopped for a cause where it wasn't spent
pub stopped : (retries : Bool) (b c : Member) (ran : IsRan retries b c) → ran.end.stop ≢ Spent → HasStopped (AllIdle b.worker c.worker) c.worker ran.end.stop
stopped retries b c ran other =
    let most : ran.end.turns ≤ TURN_LIMIT = ran.most in
    let few : ran.end.turns ≢ TURN_LIMIT = λ all. other (ran.spent.1 all) in
    ran.cause (omega arith)

-- so the round ends for the box as a round of a team does
pub ends_box : (stop : Stop) (retries : Bool) (old new : TeamState) (turns : List Turn) (who : ℕ) (c : Worker) (Idle : Type 0) → HasTeamWork retries old who
    → ((stop ≡ Rested) ⊎ (stop ≡ Spent) → HasMoved retries old new turns who) → (stop ≢ Spent → HasStopped Idle c stop) → is_memory stop ≡ false → ((end tunnel : ℕ) → stop ≡ Strange end tunnel → ⊥)
    → stimuli_at new who ≡ c.stimuli.items → box_at new.world who ≡ c.part → EndsBox retries old new turns who (Some stop)
ends_box Rested retries old new turns who c Idle works moves stops calm strange stimuli part = (moves (inl refl), stimuli ∙ (stops (λ same. cc)).0)
ends_box Spent retries old new turns who c Idle works moves stops calm strange stimuli part = moves (inr refl)
ends_box (NoMemory error) retries old new turns who c Idle works moves stops calm strange stimuli part = both_ways true calm refl
ends_box (VersionEnd local) retries old new turns who c Idle works moves stops calm strange stimuli part = (
  works,
  subst (λ (l : List Event). MatchOption (slice_get l 0) ⊥ (λ event. IsLastHear (box_at new.world who) local event)) (sym stimuli)
      (subst (λ (box : BoxState). MatchOption (slice_get c.stimuli.items 0) ⊥ (λ event. IsLastHear box local event)) (sym part) (stops (λ same. cc))),
)
ends_box (Strange end tunnel) retries old new turns who c Idle works moves stops calm strange stimuli part = strange end tunnel refl
