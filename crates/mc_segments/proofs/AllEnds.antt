-- A settle that begins at an end ends where one does that begins earlier.
use Rattle.std.proofs.Common.{◌≡◌, ◌<◌, ◌≤◌, ◌+◌, ◌-◌, ◌↔◌, ◌++◌, ◌==◌, ◌&&◌, inl, inr, if◌then◌else◌, ℕ, zero, suc, true, List, [], ◌∷◌, Option, Some, None, Contains, length, take, drop, slice_get, count_by, length-append, refl, ap, sym, ◌∙◌, subst, arith}
use Rattle.std.specs.List.{list_all}
use Rattle.std.proofs.Math.Seq.{take-append-add, drop-append-add}
use Rattle.std.proofs.lemmas.Bool.{cases_eq, cases_lt}
use Rattle.std.proofs.lemmas.List.{append_cancel_left, drop-append-le, length-take-le}
use Rattle.std.proofs.lemmas.List.Elements.{filter-append}
use Rattle.std.proofs.lemmas.List.Folds.{list_all-append}
use Rattle.mc_box.specs.BoxEvents.{is_command}
use Rattle.mc_box.specs.declared.event.Turn.{Turn}
use Rattle.mc_laws.proofs.CommandsGo.{both_true}
use Rattle.mc_model.specs.Settles.{commands_of, is_retry_of, rests, takes_or_retries, world_owes}
use Rattle.mc_model.specs.Steps.{after, run}
use Rattle.mc_model.specs.Worlds.{WorldState}
use Rattle.mc_replay.proofs.Prefixes.{after_is, moment_goes, run_parts}
use Rattle.mc_seq.proofs.Runs.{run-append}
use Rattle.mc_segments.specs.Ends.{AreEnds, IsEnd, IsFirstEnd, SettlesOwn, commands_in, may_end, turns_between}
use Rattle.mc_segments.proofs.Own.{comes_before, commands_twice}
use Rattle.mc_segments.proofs.Places.{take_between}

-- ---- two lists of turns, one after the other

commands_both : (one two : List Turn) (who : ℕ) → commands_of who (one ++ two) ≡ commands_of who one ++ commands_of who two
commands_both one two who = filter-append (λ (t : Turn). is_command t.event && t.who == who) one two

-- the world within the second list
after_both : (begins between last : WorldState) (one two : List Turn) (k : ℕ) → run begins one ≡ Some between → run between two ≡ Some last → after begins (take (length one + k) (one ++ two)) ≡ after between (take k two)
after_both begins between last one two k first second =
    let goes : run begins (one ++ take k two) ≡ Some (after between (take k two)) = run-append one (take k two) begins between first ∙ (moment_goes between last two k second).0 in
    ap (after begins) (take-append-add one two k) ∙ after_is begins (after between (take k two)) (one ++ take k two) goes

-- the last rest of both is that of the second
pub settles_both : (begins between last : WorldState) (one two : List Turn) → run begins one ≡ Some between → SettlesOwn between two last → SettlesOwn begins (one ++ two) last
settles_both begins between last one two first settles =
    let k : ℕ = settles.moment in
    let rest = settles.last_rest in
    let n : ℕ = length one + k in
    let dropped : drop n (one ++ two) ≡ drop k two = drop-append-add one two k in
    let world : after begins (take n (one ++ two)) ≡ after between (take k two) = after_both begins between last one two k first settles.runs in
    record {
      runs = run-append one two begins between first ∙ settles.runs;
      commands = λ who. sym (commands_twice (one ++ two) who);
      at_rest = settles.at_rest;
      no_ring = settles.no_ring;
      moment = n;
      last_rest = record {
        within = let within = rest.within in omega (arith, within, length-append one two);
        at_rest = ap rests world ∙ rest.at_rest;
        used_up = λ who.
            ap (commands_of who) (take-append-add one two k)
            ∙ (commands_both one (take k two) who
            ∙ (ap (λ (l : List Turn). commands_of who one ++ l) (rest.used_up who ∙ commands_twice two who)
            ∙ (sym (commands_both one two who) ∙ sym (commands_twice (one ++ two) who))));
        retries = λ who local. ap (count_by (is_retry_of who local)) dropped ∙ (rest.retries who local ∙ ap (λ (w : WorldState). if world_owes w who local then 1 else 0) (sym world));
        besides = ap (list_all (λ (t : Turn). takes_or_retries t.event)) dropped ∙ rest.besides;
      };
    }

-- where the second begins with a command, the last rest of both is within it
rest_past : (one two : List Turn) (turn : Turn) (n : ℕ) → is_command turn.event ≡ true → list_all (λ (t : Turn). takes_or_retries t.event) (drop n (one ++ turn ∷ two)) ≡ true → length one ≤ n
rest_past one two turn n command besides = elim (cases_lt n (length one)) [
  | inl before ↦
      let parts = both_true (list_all (λ (t : Turn). takes_or_retries t.event) (drop n one)) (list_all (λ (t : Turn). takes_or_retries t.event) (turn ∷ two))
      (sym (list_all-append (λ (t : Turn). takes_or_retries t.event) (drop n one) (turn ∷ two)) ∙ (ap (list_all (λ (t : Turn). takes_or_retries t.event)) (sym (drop-append-le n one (turn ∷ two) (omega (arith, before)))) ∙ besides)) in
      let own = both_true (takes_or_retries turn.event) (list_all (λ (t : Turn). takes_or_retries t.event) two) parts.1 in
      absurd (let never = comes_before turn.event command in cc (never, own.0))
  | inr past ↦ past
]

settles_second_by : (begins between last : WorldState) (one two : List Turn) (turn : Turn) (n k : ℕ) → n ≡ length one + k → run begins one ≡ Some between → is_command turn.event ≡ true → (settles : SettlesOwn begins (one ++ turn ∷ two) last) → settles.moment ≡ n → SettlesOwn between (turn ∷ two) last
settles_second_by begins between last one two turn n k is first command settles at =
    let rest = settles.last_rest in
    let all = one ++ turn ∷ two in
    let same : settles.moment ≡ length one + k = at ∙ is in
    let parts = run_parts one (turn ∷ two) begins last settles.runs in
    let middle : parts.0 ≡ between = let a = parts.1 in cc (a, first) in
    let second : run between (turn ∷ two) ≡ Some last = ap (λ (w : WorldState). run w (turn ∷ two)) (sym middle) ∙ parts.2 in
    let dropped : drop settles.moment all ≡ drop k (turn ∷ two) = ap (λ (m : ℕ). drop m all) same ∙ drop-append-add one (turn ∷ two) k in
    let world : after begins (take settles.moment all) ≡ after between (take k (turn ∷ two)) = ap (λ (m : ℕ). after begins (take m all)) same ∙ after_both begins between last one (turn ∷ two) k first second in
    record {
      runs = second;
      commands = λ who. sym (commands_twice (turn ∷ two) who);
      at_rest = settles.at_rest;
      no_ring = settles.no_ring;
      moment = k;
      last_rest = record {
        within = let within = rest.within in omega (arith, within, same, length-append one (turn ∷ two));
        at_rest = ap rests (sym world) ∙ rest.at_rest;
        used_up = λ who.
            append_cancel_left (commands_of who one) (commands_of who (take k (turn ∷ two))) (commands_of who (commands_in (turn ∷ two)))
            (sym (commands_both one (take k (turn ∷ two)) who)
            ∙ (ap (commands_of who) (sym (take-append-add one (turn ∷ two) k))
            ∙ (ap (λ (m : ℕ). commands_of who (take m all)) (sym same)
            ∙ (rest.used_up who
            ∙ (commands_twice all who
            ∙ (commands_both one (turn ∷ two) who
            ∙ ap (λ (l : List Turn). commands_of who one ++ l) (sym (commands_twice (turn ∷ two) who))))))));
        retries = λ who local. ap (count_by (is_retry_of who local)) (sym dropped) ∙ (rest.retries who local ∙ ap (λ (w : WorldState). if world_owes w who local then 1 else 0) world);
        besides = ap (list_all (λ (t : Turn). takes_or_retries t.event)) (sym dropped) ∙ rest.besides;
      };
    }

pub settles_second : (begins between last : WorldState) (one two : List Turn) (turn : Turn) → run begins one ≡ Some between → is_command turn.event ≡ true → SettlesOwn begins (one ++ turn ∷ two) last → SettlesOwn between (turn ∷ two) last
settles_second begins between last one two turn first command settles =
    let past = rest_past one two turn settles.moment command settles.last_rest.besides in
    settles_second_by begins between last one two turn settles.moment (settles.moment - length one) (omega (arith, past)) first command settles refl

-- ---- places

-- the turns between, by a place between
between_both : (turns : List Turn) (from middle place : ℕ) → from ≤ middle → middle ≤ place → middle ≤ length turns → turns_between from place turns ≡ turns_between from middle turns ++ turns_between middle place turns
between_both turns from middle place before behind inside =
    let all = take place turns in
    let long : length (take middle turns) ≡ middle = length-take-le middle turns inside in
    let same : take middle turns ++ turns_between middle place turns ≡ all = take_between turns middle place behind in
    ap (drop from) (sym same) ∙ drop-append-le from (take middle turns) (turns_between middle place turns) (omega (arith, before, long))

-- they begin with the turn at the first place
first_between : (turns : List Turn) (middle place : ℕ) (turn : Turn) → middle < place → slice_get turns middle ≡ Some turn → (rest : List Turn) × (turns_between middle place turns ≡ turn ∷ rest)
first_between [] middle place turn before is = absurd (cc)
first_between (other ∷ turns) zero zero turn before is = absurd (omega (arith, before))
first_between (other ∷ turns) zero (suc place) turn before is = let same : other ≡ turn = cc in (take place turns, ap (λ (t : Turn). t ∷ take place turns) same)
first_between (other ∷ turns) (suc middle) zero turn before is = absurd (omega (arith, before))
first_between (other ∷ turns) (suc middle) (suc place) turn before is = first_between turns middle place turn (omega (arith, before)) is

-- the turn at a place where a settle may end, and that isn't the last, is a command
command_there : (o : Option Turn) (turns : List Turn) (place : ℕ) → slice_get turns place ≡ o → place < length turns → may_end o ≡ true → (turn : Turn) × (slice_get turns place ≡ Some turn) × (is_command turn.event ≡ true)
command_there (Some turn) turns place is inside may = (turn, is, may)
command_there None turns place is inside may = absurd (none_past turns place is inside)
  where
    none_past : (turns : List Turn) (place : ℕ) → slice_get turns place ≡ None → place < length turns → ⊥
    none_past [] place is inside = omega (arith, inside)
    none_past (turn ∷ turns) zero is inside = cc
    none_past (turn ∷ turns) (suc place) is inside = none_past turns place is (omega (arith, inside))

-- ---- an end for one is an end for the other

pub end_joined : (world : WorldState) (turns : List Turn) (from middle place : ℕ) → IsEnd world turns from middle → IsEnd world turns middle place → IsEnd world turns from place
end_joined world turns from middle place one two =
    let one_later = one.later in
    let two_later = two.later in
    record {
      later = omega (arith, one_later, two_later);
      within = two.within;
      may = two.may;
      settles = subst (λ (l : List Turn). SettlesOwn (after world (take from turns)) l (after world (take place turns)))
          (sym (between_both turns from middle place (omega (arith, one_later)) (omega (arith, two_later)) one.within))
          (settles_both (after world (take from turns)) (after world (take middle turns)) (after world (take place turns)) (turns_between from middle turns) (turns_between middle place turns) one.settles.runs two.settles);
    }

pub end_parted : (world : WorldState) (turns : List Turn) (from middle place : ℕ) → IsEnd world turns from middle → middle < place → IsEnd world turns from place → IsEnd world turns middle place
end_parted world turns from middle place one behind all =
    let one_later = one.later in
    let within = all.within in
    let there = command_there (slice_get turns middle) turns middle refl (omega (arith, behind, within)) one.may in
    let first = first_between turns middle place there.0 behind there.1 in
    let begins = after world (take from turns) in
    let last = after world (take place turns) in
    let both : SettlesOwn begins (turns_between from middle turns ++ there.0 ∷ first.0) last =
    subst (λ (l : List Turn). SettlesOwn begins l last)
    (between_both turns from middle place (omega (arith, one_later)) (omega (arith, behind)) one.within ∙ ap (λ (l : List Turn). turns_between from middle turns ++ l) first.1) all.settles in
    record {
      later = behind;
      within = within;
      may = all.may;
      settles = subst (λ (l : List Turn). SettlesOwn (after world (take middle turns)) l last) (sym first.1)
          (settles_second begins (after world (take middle turns)) last (turns_between from middle turns) first.0 there.0 one.settles.runs there.2 both);
    }

-- ---- all of them

first_of : (place : ℕ) (ends : List ℕ) → Contains (place ∷ ends) place
first_of place ends = (zero, omega arith, refl)

later_of : (first place : ℕ) (ends : List ℕ) → Contains ends place → Contains (first ∷ ends) place
later_of first place ends found = (suc found.0, (let inside = found.1 in omega (arith, inside)), found.2)

forth_by : (first : ℕ) (ends : List ℕ) (world : WorldState) (turns : List Turn) (from place : ℕ) → IsEnd world turns from first → (Contains ends place → IsEnd world turns first place) → Contains (first ∷ ends) place → IsEnd world turns from place
forth_by first ends world turns from place one rest (zero, inside, at) = subst (IsEnd world turns from) at one
forth_by first ends world turns from place one rest (suc k, inside, at) = end_joined world turns from first place one (rest (k, omega (arith, inside), at))

back_by : (first : ℕ) (ends : List ℕ) (world : WorldState) (turns : List Turn) (from place : ℕ) → IsFirstEnd world turns from first → (IsEnd world turns first place → Contains ends place) → IsEnd world turns from place → Contains (first ∷ ends) place
back_by first ends world turns from place one rest end = elim (cases_lt place first) [
  | inl before ↦ absurd (one.first place before end)
  | inr past ↦ elim (cases_eq place first) [
    | inl same ↦ subst (λ (k : ℕ). Contains (first ∷ ends) k) (sym same) (first_of first ends)
    | inr apart ↦ later_of first place ends (rest (end_parted world turns from first place one.is (omega (arith, past, apart)) end))
  ]
]

pub all_from : (ends : List ℕ) (world : WorldState) (turns : List Turn) (from : ℕ) → AreEnds world turns from ends → (place : ℕ) → Contains ends place ↔ IsEnd world turns from place
all_from [] world turns from are place = (λ found. absurd (let inside = found.1 in omega (arith, inside)), λ end. absurd (are place end))
all_from (first ∷ ends) world turns from are place =
    let rest = all_from ends world turns first are.1 place in
    (forth_by first ends world turns from place are.0.is rest.0, back_by first ends world turns from place are.0 rest.1)
