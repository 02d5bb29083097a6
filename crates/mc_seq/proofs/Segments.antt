-- Segments: turns up to a moment at which the world rests, and Takes and retries after it.
use Rattle.std.proofs.Common.{◌≡◌, ◌==◌, ◌&&◌, ◌++◌, cond, if◌then◌else◌, not, ℕ, Bool, true, false, List, [], ◌∷◌, Option, Some, IsTrue, length, take, count_by, append-nil, length-append, refl, ap, sym, ◌∙◌, arith}
use Rattle.std.specs.List.{list_all}
use Rattle.std.specs.Option.{unwrap_or}
use Rattle.std.proofs.Math.Seq.{take-append_seam, drop-append_seam}
use Rattle.std.proofs.lemmas.List.Elements.{filter-append}
use Rattle.std.proofs.lemmas.List.Folds.{list_all-append}
use Rattle.mc_box.specs.BoxEvents.{is_command}
use Rattle.mc_box.specs.declared.event.Event.{Event}
use Rattle.mc_box.specs.declared.event.Event.TheVariants.{Take, Set, Media, Tell, Retry, Shift}
use Rattle.mc_box.specs.declared.event.Turn.{Turn}
use Rattle.mc_model.specs.Paths.{has_ring}
use Rattle.mc_model.specs.Settles.{IsSettled, can_shift, commands_of, is_quiet, is_retry_of, rests, world_owes, takes_or_retries}
use Rattle.mc_model.specs.Steps.{after, run}
use Rattle.mc_model.specs.Worlds.{WorldState}
use Rattle.mc_laws.proofs.CommandsGo.{both_true}
use Rattle.mc_seq.proofs.Runs.{run-append}

-- ---- Takes and retries

-- whether all of these turns are Takes and retries
abbrev pub all_besides : List Turn → Bool
all_besides turns = list_all (λ turn. takes_or_retries turn.event) turns

-- two tests that hold
pub both_there : (a b : Bool) → a ≡ true → b ≡ true → (a && b) ≡ true
both_there a b one two = rw (one, two) refl

-- two lists of such turns are one
pub besides_both : (one two : List Turn) → all_besides one ≡ true → all_besides two ≡ true → all_besides (one ++ two) ≡ true
besides_both one two first second = list_all-append (λ (turn : Turn). takes_or_retries turn.event) one two ∙ both_there (all_besides one) (all_besides two) first second

-- a Take or a retry is no command
no_command : (event : Event) → takes_or_retries event ≡ true → is_command event ≡ false
no_command (Take local) is = refl
no_command (Retry local) is = refl
no_command (Set change) is = absurd cc
no_command (Media change) is = absurd cc
no_command (Tell word) is = absurd cc
no_command Shift is = absurd cc

-- such turns hold no command
pub besides_none : (turns : List Turn) (who : ℕ) → all_besides turns ≡ true → commands_of who turns ≡ []
besides_none [] who all = refl
besides_none (turn ∷ turns) who all =
    let both = both_true (takes_or_retries turn.event) (all_besides turns) all in
    ap (λ (b : Bool). cond (b && turn.who == who) (turn ∷ commands_of who turns) (commands_of who turns)) (no_command turn.event both.0) ∙ besides_none turns who both.1

-- after other turns they change nothing of the commands
pub commands_before : (one two : List Turn) (who : ℕ) → all_besides two ≡ true → commands_of who (one ++ two) ≡ commands_of who one
commands_before one two who all =
    filter-append (λ (turn : Turn). is_command turn.event && turn.who == who) one two
    ∙ (ap (λ (turns : List Turn). commands_of who one ++ turns) (besides_none two who all) ∙ append-nil (commands_of who one))

-- ---- the segment

-- a world in which nothing is under way, and no program can go on
rests_by : (quiet can : Bool) → quiet ≡ true → can ≡ false → (quiet && not can) ≡ true
rests_by quiet can one two = rw (one, two) refl

pub record Resting (world : WorldState) : Type 0 where
  pub quiet : IsTrue (is_quiet world)
  pub no_shift : can_shift world ≡ false

resting_rests : (world : WorldState) → Resting world → IsTrue (rests world)
resting_rests world resting = rests_by (is_quiet world) (can_shift world) resting.quiet resting.no_shift

-- from the turns before the moment at which the world rests, and those after it
pub settled_at : (world rested last : WorldState) (batch begun rest : List Turn) → Resting rested → Resting last → has_ring last ≡ false → run world begun ≡ Some rested → run rested rest ≡ Some last
    → ((who : ℕ) → commands_of who begun ≡ commands_of who batch)
    → ((who local : ℕ) → count_by (is_retry_of who local) rest ≡ (if world_owes rested who local then 1 else 0)) → all_besides rest ≡ true
    → IsSettled world batch (begun ++ rest) last
settled_at world rested last batch begun rest resting_then resting free ran goes used counts besides =
    let runs : run world (begun ++ rest) ≡ Some last = run-append begun rest world rested ran ∙ goes in
    let at : after world (take (length begun) (begun ++ rest)) ≡ rested = ap (after world) (take-append_seam begun rest) ∙ ap (λ (o : Option WorldState). unwrap_or o world) ran in
    record {
      runs = runs;
      commands = λ who. commands_before begun rest who besides ∙ used who;
      at_rest = resting_rests last resting;
      no_ring = free;
      moment = length begun;
      last_rest = record {
        within = rw (length-append begun rest) (omega arith);
        at_rest = rw at (resting_rests rested resting_then);
        used_up = λ who. ap (commands_of who) (take-append_seam begun rest) ∙ used who;
        retries = λ who local. ap (count_by (is_retry_of who local)) (drop-append_seam begun rest) ∙ (counts who local ∙ ap (λ (w : WorldState). if world_owes w who local then 1 else 0) (sym at));
        besides = ap all_besides (drop-append_seam begun rest) ∙ besides;
      };
    }
