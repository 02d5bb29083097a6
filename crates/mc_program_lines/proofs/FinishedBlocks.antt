-- A block that fits the slots of its box, and is finished, is a program for them.
use Rattle.std.proofs.Common.{◌≡◌, ℕ, zero, suc, ◌+◌, ◌-◌, ◌<◌, ◌≤◌, false, nat_lt, List, [], ◌∷◌, All, length, map, Option, Some, None, slice_index_or, sym, ap, ◌∙◌, subst, arith}
use Rattle.std.specs.List.{list_any, slice_get}
use Rattle.std.specs.Option.{is_none}
use Rattle.std.proofs.lemmas.Bool.{or_parts}
use Rattle.std.proofs.lemmas.List.{length-map}
use Rattle.std.proofs.lemmas.List.Elements.{All-cons, All-head, All-map, All-nil, All-tail}
use Rattle.mc_signal.specs.declared.Medium.{Medium}
use Rattle.mc_signal.specs.declared.Medium.TheVariants.{Audio}
use Rattle.mc_slot.specs.declared.Goal.TheVariants.{Close as ToClose}
use Rattle.mc_slot.specs.declared.SlotGoal.{SlotGoal}
use Rattle.mc_slot.specs.declared.SlotGoal.TheVariants.{End, Link}
use Rattle.mc_rule.specs.Programs.{IsMutual, IsState, ProgStateState}
use Rattle.mc_box.specs.Boxes.{goals_in}
use Rattle.mc_program_lines.specs.BlockLaws.{FinishedBlocksFit}
use Rattle.mc_program_lines.specs.Finished.{FitsPart, IsPaired, given_goal, state_of}
use Rattle.mc_program_lines.proofs.Blocks.{last_behind}
use Rattle.mc_program_lines.specs.Programs.{PartState, lacks_goal, new_part, open_part_of, part_lacks_goal}

-- ---- the goals of a whole part

-- a goal of a whole part was given
was_given : (goals : List (Option SlotGoal)) (local : ℕ) (goal : SlotGoal) → list_any is_none goals ≡ false → slice_get (map given_goal goals) local ≡ Some goal → slice_index_or goals local None ≡ Some goal
was_given [] local goal whole is = absurd cc
was_given (None ∷ goals) local goal whole is = absurd cc
was_given (Some one ∷ goals) zero goal whole is = is
was_given (Some one ∷ goals) (suc local) goal whole is = was_given goals local goal whole is

-- and one that was given is there
is_there : (goals : List (Option SlotGoal)) (local : ℕ) (goal : SlotGoal) → slice_index_or goals local None ≡ Some goal → slice_get (map given_goal goals) local ≡ Some goal
is_there [] local goal given = absurd cc
is_there (None ∷ goals) zero goal given = absurd cc
is_there (Some one ∷ goals) zero goal given = given
is_there (one ∷ goals) (suc local) goal given = is_there goals local goal given

-- a link was given, too
link_given : (goals : List (Option SlotGoal)) (local partner : ℕ) → list_any is_none goals ≡ false → slice_index_or (map given_goal goals) local (End ToClose) ≡ Link partner → slice_index_or goals local None ≡ Some (Link partner)
link_given [] local partner whole is = absurd cc
link_given (None ∷ goals) local partner whole is = absurd cc
link_given (Some one ∷ goals) zero partner whole is = ap (λ (g : SlotGoal). Some g) is
link_given (Some one ∷ goals) (suc local) partner whole is = link_given goals local partner whole is

mutual_by : (media : List Medium) (goals : List (Option SlotGoal)) (local : ℕ) (goal : SlotGoal) → IsPaired media goals local goal → IsMutual (map given_goal goals) local goal
mutual_by media goals local (End goal) paired = tt
mutual_by media goals local (Link partner) paired = (paired.0, is_there goals partner (Link local) paired.1)

state_fits : (media : List Medium) (states : ℕ) (part : PartState) → FitsPart media states part → lacks_goal part ≡ false → IsState (length media) states (state_of part)
state_fits media states part form whole = record {
  goals = length-map part.goals given_goal ∙ form.goals;
  links = λ local goal is. mutual_by media part.goals local goal (form.links local goal (was_given part.goals local goal whole is));
  few = form.few;
  targets = form.targets;
  guards = form.guards;
}

state_links : (media : List Medium) (states : ℕ) (part : PartState) (local partner : ℕ) → FitsPart media states part → lacks_goal part ≡ false → slice_index_or (map given_goal part.goals) local (End ToClose) ≡ Link partner
    → slice_index_or media partner Audio ≡ slice_index_or media local Audio
state_links media states part local partner form whole is = (form.links local (Link partner) (link_given part.goals local partner whole is)).2

-- ---- all parts

-- a part that fits, and is whole
abbrev IsWhole : List Medium → ℕ → PartState → Type 0
IsWhole media states part = FitsPart media states part × (lacks_goal part ≡ false)

-- where the last is whole, all are
all_whole : (media : List Medium) (states : ℕ) (parts : List PartState) → All (FitsPart media states) parts → ((k : ℕ) → k + 1 < length parts → lacks_goal (slice_index_or parts k (new_part 0)) ≡ false)
    → part_lacks_goal (slice_get parts (length parts - 1)) ≡ false → All (IsWhole media states) parts
all_whole media states [] each whole last = All-nil (IsWhole media states)
all_whole media states (one ∷ []) each whole last = All-cons (IsWhole media states) one [] (All-head (FitsPart media states) one [] each, last) (All-nil (IsWhole media states))
all_whole media states (one ∷ two ∷ parts) each whole last =
    All-cons (IsWhole media states) one (two ∷ parts) (All-head (FitsPart media states) one (two ∷ parts) each, whole 0 (omega arith))
    (all_whole media states (two ∷ parts) (All-tail (FitsPart media states) one (two ∷ parts) each) (λ k below. whole (suc k) (omega arith)) (subst (λ (o : Option PartState). part_lacks_goal o ≡ false) (last_behind one two parts) last))

all_states : (media : List Medium) (states : ℕ) (parts : List PartState) → All (IsWhole media states) parts → All (IsState (length media) states) (map state_of parts)
all_states media states parts all = All-map (IsState (length media) states) state_of parts (λ k d within. let one = all k d within in state_fits media states (slice_index_or parts k d) one.0 one.1)

all_counted : (media : List Medium) (states : ℕ) (parts : List PartState) → All (IsWhole media states) parts → All (λ one. length one.goals ≡ length media) (map state_of parts)
all_counted media states parts all = All-map (λ (one : ProgStateState). length one.goals ≡ length media) state_of parts (λ k d within. let one = all k d within in length-map (slice_index_or parts k d).goals given_goal ∙ one.0.goals)

all_linked : (media : List Medium) (states : ℕ) (parts : List PartState) → All (IsWhole media states) parts → (at local partner : ℕ) → slice_index_or (goals_in (map state_of parts) at) local (End ToClose) ≡ Link partner
    → slice_index_or media partner Audio ≡ slice_index_or media local Audio
all_linked media states [] all at local partner is = absurd cc
all_linked media states (part ∷ parts) all zero local partner is = let one = All-head (IsWhole media states) part parts all in state_links media states part local partner one.0 one.1 is
all_linked media states (part ∷ parts) all (suc at) local partner is = all_linked media states parts (All-tail (IsWhole media states) part parts all) at local partner is

-- ---- the law

all_begun : (parts states : ℕ) → nat_lt parts states ≡ false → parts ≤ states → parts ≡ states
all_begun parts states kept few = grind arith

pub finished_blocks_fit : FinishedBlocksFit
finished_blocks_fit media block form finished =
    let both = or_parts (part_lacks_goal (open_part_of block)) (nat_lt (length block.parts) (length block.states)) finished in
    let begun : length block.parts ≡ length block.states = all_begun (length block.parts) (length block.states) both.1 form.begun in
    let count : length (map state_of block.parts) ≡ length block.states = length-map block.parts state_of ∙ begun in
    let all : All (IsWhole media (length block.states)) block.parts = all_whole media (length block.states) block.parts form.each form.whole both.0 in
    let some = form.some in
    let few = form.few in
    record {
      program = record {
        some = omega arith;
        few = omega arith;
        slots = length media;
        each = subst (λ (n : ℕ). All (IsState (length media) n) (map state_of block.parts)) (sym count) (all_states media (length block.states) block.parts all);
      };
      goals = all_counted media (length block.states) block.parts all;
      links = all_linked media (length block.states) block.parts all;
    }
