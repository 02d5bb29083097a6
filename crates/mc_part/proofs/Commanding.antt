-- A part that has commands begins with one.
use Rattle.std.proofs.Common.{◌≡◌, ◌⊎◌, inl, inr, ◌<◌, ◌≤◌, ◌+◌, ℕ, suc, List, ◌∷◌, ◌++◌, drop, length, get_or, slice_get, Some, IfErr, OnOk, Result, Ok, Err, ap, sym, ◌∙◌, subst, arith, Vec, Global}
use Rattle.std.proofs.lemmas.List.{length-append}
use Rattle.std.proofs.lemmas.Option.{slice_get-get_or}
use Rattle.mc_box.specs.declared.event.Event.{Event}
use Rattle.mc_box.specs.declared.event.Event.TheVariants.{Shift}
use Rattle.mc_box.specs.declared.event.Turn.{Turn}
use Rattle.mc_merge.specs.declared.log.Made.{Made}
use Rattle.mc_part.specs.Parts.{Runs, events_for, no_retries, stimuli_of}
use Rattle.mc_part.specs.Running.{StopsAs, StraysAs, UsesAs, UsesCommand, UsesFirst, UsesTo}
use Rattle.mc_part.specs.declared.part.Part.{Part}
use Rattle.mc_part.specs.declared.stop.Ended.{Ended}
use Rattle.mc_part.specs.declared.stop.PartStop.{PartStop}
use Rattle.mc_part.specs.declared.stop.PartStop.TheVariants.{NoMemory, Spent, VersionEnd, Unable, Strange, Stray}
use Rattle.mc_part.proofs.Calm.{all_used}
use Rattle.mc_part.proofs.Uses.{first_is}

-- ---- what is left never grows

no_more : (made rest all : List Event) → made ++ rest ≡ all → length rest ≤ length all
no_more made rest all is =
    let long : length all ≡ length made + length rest = ap (λ (l : List Event). length l) (sym is) ∙ length-append made rest in
    omega (arith, long)

left_falls : (a b : Part) (retries : ℕ → ℕ → ℕ) → Runs a b retries → (who : ℕ) → length (stimuli_of b who) ≤ length (stimuli_of a who)
left_falls a b retries runs who = no_more _ (stimuli_of b who) (stimuli_of a who) (runs.run.uses who).commands

pub uses_on : (a b c : Part) (retries : ℕ → ℕ → ℕ) → UsesCommand a b → Runs b c retries → UsesCommand a c
uses_on a b c retries used runs = record {
  who = used.who;
  fewer = let falls = left_falls b c retries runs used.who in let fewer : length (stimuli_of b used.who) < length (stimuli_of a used.who) = used.fewer in omega (arith, falls, fewer);
}

-- ---- one command

one_less : (event : Event) (rest all : List Event) → all ≡ event ∷ rest → length rest < length all
one_less event rest all is = let long : length all ≡ suc (length rest) = ap (λ (l : List Event). length l) is in omega (arith, long)

-- the next one leaves those that are left
pub uses_one : (a b : Part) → Runs a b no_retries → a.used < length a.commands.items → b.used ≡ a.used + 1 → UsesCommand a b
uses_one a b runs some used =
    let turn : Turn = get_or a.commands.items a.used (record { who = 0; event = Shift }) in
    let next : slice_get a.commands.items a.used ≡ Some turn = slice_get-get_or a.commands.items a.used (record { who = 0; event = Shift }) some in
    record { who = turn.who; fewer = used_one a b turn next runs.run.commands used }
  where
    used_one : (a b : Part) (turn : Turn) → slice_get a.commands.items a.used ≡ Some turn → b.commands ≡ a.commands → b.used ≡ a.used + 1 → length (stimuli_of b turn.who) < length (stimuli_of a turn.who)
    used_one a b turn next commands used =
        let after : stimuli_of b turn.who ≡ events_for turn.who (drop (a.used + 1) a.commands.items) =
        ap (λ (n : ℕ). events_for turn.who (drop n b.commands.items)) used ∙ ap (λ (v : Vec Turn Global). events_for turn.who (drop (a.used + 1) v.items)) commands in
        subst (λ (l : List Event). length l < length (stimuli_of a turn.who)) (sym after)
        (one_less turn.event (events_for turn.who (drop (a.used + 1) a.commands.items)) (stimuli_of a turn.who) (first_is a turn next))

-- ---- all of them

-- nothing was made so far, or one was used up
abbrev pub UsesSoFar : (a b : Part) → Type 0
UsesSoFar a b = (b ≡ a) ⊎ UsesCommand a b

pub so_far_on : (a b c : Part) → UsesSoFar a b → Runs b c no_retries → UsesCommand b c → UsesCommand a c
so_far_on a b c (inl same) runs used = subst (λ (p : Part). UsesCommand p c) same used
so_far_on a b c (inr is) runs used = uses_on a b c no_retries is runs

pub used_all : (budget : ℕ) (a b : Part) → UsesSoFar a b → length b.commands.items ≤ b.used → UsesFirst budget a b
used_all budget a b (inl same) past to = absurd (to.left (ap (λ (p : Part). stimuli_of p to.who) (sym same) ∙ all_used b past to.who))
used_all budget a b (inr used) past to = used

-- no command is made for want of room alone where one was made before
spent_to : (budget : ℕ) (a b c : Part) → UsesSoFar a b → Runs b c no_retries → c.log.items ≡ b.log.items → budget ≤ length c.log.items → UsesFirst budget a c
spent_to budget a b c (inl same) runs log most to =
    let long : length c.log.items ≡ length a.log.items = ap (λ (l : List Made). length l) (log ∙ ap (λ (p : Part). p.log.items) same) in
    let room : length a.log.items < budget = to.room in
    absurd (omega (arith, long, most, room))
spent_to budget a b c (inr used) runs log most to = uses_on a b c no_retries used runs

pub stopped_to : (budget : ℕ) (a b c : Part) (stop : PartStop) → UsesSoFar a b → Runs b c no_retries → c.log.items ≡ b.log.items → StopsAs stop c budget → UsesTo budget a c stop
stopped_to budget a b c Spent so_far runs log stops = spent_to budget a b c so_far runs log stops
stopped_to budget a b c (NoMemory e) so_far runs log stops = tt
stopped_to budget a b c (VersionEnd who local) so_far runs log stops = tt
stopped_to budget a b c (Unable who) so_far runs log stops = tt
stopped_to budget a b c (Strange who local) so_far runs log stops = tt
stopped_to budget a b c (Stray port) so_far runs log stops = tt

-- ---- whatever comes after

any_stop : (budget : ℕ) (a b : Part) (stop : PartStop) → UsesFirst budget a b → UsesTo budget a b stop
any_stop budget a b Spent used = used
any_stop budget a b (NoMemory e) used = tt
any_stop budget a b (VersionEnd who local) used = tt
any_stop budget a b (Unable who) used = tt
any_stop budget a b (Strange who local) used = tt
any_stop budget a b (Stray port) used = tt

pub first_on : (budget : ℕ) (a b c : Part) → UsesFirst budget a b → Runs b c no_retries → UsesFirst budget a c
first_on budget a b c used runs to = uses_on a b c no_retries (used to) runs

pub any_done : {T : Type 0} (budget : ℕ) (a b : Part) (result : Result T PartStop) → UsesFirst budget a b → OnOk result (UsesFirst budget a b)
any_done budget a b (Ok done) used = used
any_done budget a b (Err stop) used = tt

pub any_ended : {T : Type 0} (budget : ℕ) (a b : Part) (result : Result T PartStop) → UsesFirst budget a b → IfErr result (UsesTo budget a b)
any_ended budget a b (Ok done) used = tt
any_ended budget a b (Err stop) used = any_stop budget a b stop used

pub uses_as : (budget : ℕ) (a b : Part) (result : Result Ended PartStop) → OnOk result (UsesFirst budget a b) → IfErr result (UsesTo budget a b) → UsesAs budget a b result
uses_as budget a b (Ok ended) used spent = used
uses_as budget a b (Err stop) used spent = spent

-- ---- where no retries come first

pub from_same : {T : Type 0} (budget : ℕ) (a b c : Part) (result : Result T PartStop) → b ≡ a → OnOk result (UsesFirst budget b c) → OnOk result (UsesFirst budget a c)
from_same {T = T} budget a b c result same used = subst (λ (p : Part). OnOk result (UsesFirst budget p c)) same used

pub ends_same : {T : Type 0} (budget : ℕ) (a b c : Part) (result : Result T PartStop) → b ≡ a → IfErr result (UsesTo budget b c) → IfErr result (UsesTo budget a c)
ends_same {T = T} budget a b c result same spent = subst (λ (p : Part). IfErr result (UsesTo budget p c)) same spent

never_spent : (budget : ℕ) (a b : Part) → b ≡ a → budget ≤ length b.log.items → UsesFirst budget a b
never_spent budget a b same most to =
    let long : length b.log.items ≡ length a.log.items = ap (λ (p : Part). length p.log.items) same in
    let room : length a.log.items < budget = to.room in
    absurd (omega (arith, long, most, room))

pub stops_same : (budget : ℕ) (a b : Part) (stop : PartStop) → b ≡ a → StraysAs b stop → UsesTo budget a b stop
stops_same budget a b Spent same stops = never_spent budget a b same (stops budget)
stops_same budget a b (NoMemory e) same stops = tt
stops_same budget a b (VersionEnd who local) same stops = tt
stops_same budget a b (Unable who) same stops = tt
stops_same budget a b (Strange who local) same stops = tt
stops_same budget a b (Stray port) same stops = tt
