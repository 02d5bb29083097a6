-- Rules of which one is broken by something else, too.
use Rattle.std.proofs.Common.{◌≡◌, ◌<◌, ◌==◌, ◌&&◌, ◌||◌, ℕ, Bool, true, false, List, [], ◌∷◌, Option, Some, None, Ok, Err, if◌then◌else◌, nat_lt, refl, arith, ◌∙◌, ap}
use Rattle.std.proofs.lemmas.Grind.{common_steps}
use Rattle.std.specs.List.{list_any}
use Rattle.mc_script.specs.Rules.{least_broken}
use Rattle.mc_script.specs.declared.rule.TheConstants.{NOT_SETTLED, WRONG_WORD}
use Rattle.mc_lines.specs.JoinReadings.{lesser}
use Rattle.mc_lines.specs.Forms.{IsInForm}
use Rattle.mc_lines.specs.Joins.{after_commands, also_broken, among_channels, check_joins, join_rules, names_programmed}
use Rattle.mc_lines.specs.Rules.{channel_rules, is_pending}
use Rattle.mc_lines.specs.SoFar.{Declared}
use Rattle.mc_lines.specs.declared.section.Section.{Section}
use Rattle.mc_lines.specs.declared.section.Section.TheVariants as section
use Rattle.mc_script.specs.declared.command.LineFault.{LineFault}
use Rattle.mc_lines.proofs.FirstBroken.{of_the_first, of_the_others}

-- the numbers of rules rise
abbrev pub rises : (least : ℕ) → List (ℕ × Bool) → Bool
rises least [] = true
rises least (rule ∷ rules) = nat_lt least rule.0 && rises rule.0 rules

-- one of them has this number
abbrev pub has_number : ℕ → List (ℕ × Bool) → Bool
has_number number rules = list_any (λ rule. rule.0 == number) rules

both : (a b : Bool) → (a && b) ≡ true → (a ≡ true) × (b ≡ true)
both true b is = (refl, is)
both false b is = absurd cc

-- a number that stands among them is greater than what they rise from
below_number : (number least : ℕ) (rules : List (ℕ × Bool)) → rises least rules ≡ true → has_number number rules ≡ true → least < number
below_number number least [] up has = absurd cc
below_number number least (rule ∷ rules) up has = by (rule.0 == number) refl (below_number number rule.0 rules)
  where
    parts : (nat_lt least rule.0 ≡ true) × (rises rule.0 rules ≡ true)
    parts = both (nat_lt least rule.0) (rises rule.0 rules) up

    by : (same : Bool) → (rule.0 == number) ≡ same → (rises rule.0 rules ≡ true → has_number number rules ≡ true → rule.0 < number) → least < number
    by true s more = let first = parts.0 in grind (arith, common_steps, s, first)
    by false s more =
        let first = parts.0 in
        let rest : rule.0 < number = more parts.1 (rw s at has) in
        grind (arith, common_steps, first, rest)

-- and so is the least that is broken
below_broken : (least broken : ℕ) (rules : List (ℕ × Bool)) → rises least rules ≡ true → least_broken rules ≡ Some broken → least < broken
below_broken least broken [] up is = absurd cc
below_broken least broken (rule ∷ rules) up is = by rule.1 refl (below_broken rule.0 broken rules)
  where
    parts : (nat_lt least rule.0 ≡ true) × (rises rule.0 rules ≡ true)
    parts = both (nat_lt least rule.0) (rises rule.0 rules) up

    by : (x : Bool) → rule.1 ≡ x → (rises rule.0 rules ≡ true → least_broken rules ≡ Some broken → rule.0 < broken) → least < broken
    by true e more =
        let first = parts.0 in
        let some : Some rule.0 ≡ Some broken = rw e at is in
        let same : rule.0 ≡ broken = cc in
        grind (arith, common_steps, first, same)
    by false e more =
        let first = parts.0 in
        let rest : rule.0 < broken = more parts.1 (rw e at is) in
        grind (arith, common_steps, first, rest)

nothing_more : (x same : Bool) → (x || (same && false)) ≡ x
nothing_more true same = refl
nothing_more false true = refl
nothing_more false false = refl

-- where nothing else breaks it, the same is broken
unmarked : (number : ℕ) (rules : List (ℕ × Bool)) → least_broken (also_broken number false rules) ≡ least_broken rules
unmarked number [] = refl
unmarked number (rule ∷ rules) = by rule.1 refl (unmarked number rules)
  where
    by : (x : Bool) → rule.1 ≡ x → least_broken (also_broken number false rules) ≡ least_broken rules
        → least_broken (also_broken number false (rule ∷ rules)) ≡ least_broken (rule ∷ rules)
    by true e more = rw e refl
    by false e more = rw (nothing_more rule.1 (rule.0 == number), e) more

-- of a number and the least that is broken, if any is, the lesser
abbrev first_of : ℕ → Option ℕ → ℕ
first_of number None = number
first_of number (Some broken) = if nat_lt number broken then number else broken

-- what else breaks it is told where no lesser rule is broken
marked : (number least : ℕ) (rules : List (ℕ × Bool)) → rises least rules ≡ true → has_number number rules ≡ true
    → least_broken (also_broken number true rules) ≡ Some (first_of number (least_broken rules))
marked number least [] up has = absurd cc
marked number least (rule ∷ rules) up has = by rule.1 refl (rule.0 == number) refl (marked number rule.0 rules)
  where
    parts : (nat_lt least rule.0 ≡ true) × (rises rule.0 rules ≡ true)
    parts = both (nat_lt least rule.0) (rises rule.0 rules) up

    not_below : (same : Bool) → (rule.0 == number) ≡ same → nat_lt number rule.0 ≡ false
    not_below true s = grind (arith, common_steps, s)
    not_below false s = let more : rule.0 < number = below_number number rule.0 rules parts.1 (rw s at has) in grind (arith, common_steps, more)

    at_it : (o : Option ℕ) → least_broken rules ≡ o → rule.0 ≡ number → first_of number o ≡ rule.0
    at_it None e same = cc
    at_it (Some broken) e same =
        let more : rule.0 < broken = below_broken rule.0 broken rules parts.1 e in
        let less : nat_lt number broken ≡ true = grind (arith, common_steps, more, same) in
        rw less cc

    by : (x : Bool) → rule.1 ≡ x → (same : Bool) → (rule.0 == number) ≡ same
        → (rises rule.0 rules ≡ true → has_number number rules ≡ true → least_broken (also_broken number true rules) ≡ Some (first_of number (least_broken rules)))
        → least_broken (also_broken number true (rule ∷ rules)) ≡ Some (first_of number (least_broken (rule ∷ rules)))
    by true e same s more = let least : nat_lt number rule.0 ≡ false = not_below same s in rw e (rw least refl)
    by false e true s more =
        let it : rule.0 ≡ number = grind (arith, common_steps, s) in
        let first : first_of number (least_broken rules) ≡ rule.0 = at_it (least_broken rules) refl it in
        rw (e, s, first) refl
    by false e false s more = rw (e, s) (more parts.1 (rw s at has))

-- a broken rule, and the one that something else breaks, too
pub with_fault : (number : ℕ) (more : Bool) (rules : List (ℕ × Bool)) (broken : ℕ) → rises 0 rules ≡ true
    → (more ≡ true → has_number number rules ≡ true) → least_broken rules ≡ Some broken
    → least_broken (also_broken number more rules) ≡ Some (lesser number more broken)
with_fault number true rules broken up has is = rw is at (marked number 0 rules up (has refl))
with_fault number false rules broken up has is = unmarked number rules ∙ is

-- none is broken but the one
pub with_more : (number : ℕ) (rules : List (ℕ × Bool)) → rises 0 rules ≡ true → has_number number rules ≡ true
    → least_broken rules ≡ None → least_broken (also_broken number true rules) ≡ Some number
with_more number rules up has is = rw is at (marked number 0 rules up has)

-- none is
pub with_nothing : (number : ℕ) (rules : List (ℕ × Bool)) → least_broken rules ≡ None → least_broken (also_broken number false rules) ≡ None
with_nothing number rules is = unmarked number rules ∙ is

-- ---- a `join` line

abbrev settled_rule : Declared → List (ℕ × Bool)
settled_rule d = (NOT_SETTLED, is_pending d.commands) ∷ []

abbrev own_rules : Declared → List (List ℕ) → List (ℕ × Bool)
own_rules d words = also_broken WRONG_WORD (names_programmed d words) (channel_rules (among_channels d) words)

-- a rule of its channel is broken
pub join_refused : (d : Declared) (words : List (List ℕ)) (broken : ℕ) → least_broken (channel_rules (among_channels d) words) ≡ Some broken
    → least_broken (join_rules d words) ≡ Some (lesser WRONG_WORD (names_programmed d words) broken)
join_refused d words broken is =
    of_the_first (own_rules d words) (settled_rule d) (lesser WRONG_WORD (names_programmed d words) broken)
    (with_fault WRONG_WORD (names_programmed d words) (channel_rules (among_channels d) words) broken refl (λ more. refl) is)

-- a box of it has a program
pub join_programmed : (d : Declared) (words : List (List ℕ)) → least_broken (channel_rules (among_channels d) words) ≡ None
    → names_programmed d words ≡ true → least_broken (join_rules d words) ≡ Some WRONG_WORD
join_programmed d words kept programmed =
    of_the_first (own_rules d words) (settled_rule d) WRONG_WORD
    (ap (λ (b : Bool). least_broken (also_broken WRONG_WORD b (channel_rules (among_channels d) words))) programmed
    ∙ with_more WRONG_WORD (channel_rules (among_channels d) words) refl refl kept)

-- no rule of its channel is, nor has a box a program
pub join_settled : (d : Declared) (words : List (List ℕ)) → least_broken (channel_rules (among_channels d) words) ≡ None
    → names_programmed d words ≡ false → least_broken (join_rules d words) ≡ least_broken (settled_rule d)
join_settled d words kept none =
    of_the_others (own_rules d words) (settled_rule d)
    (ap (λ (b : Bool). least_broken (also_broken WRONG_WORD b (channel_rules (among_channels d) words))) none
    ∙ with_nothing WRONG_WORD (channel_rules (among_channels d) words) kept)

-- where channels are declared its rules are those of a `chan` line
pub as_channel : (d : Declared) (words : List (List ℕ)) → d.section ≡ section.Channels → channel_rules d words ≡ channel_rules (among_channels d) words
as_channel d words here = ap (λ (s : Section). channel_rules (record d { section = s }) words) here

-- it isn't taken where it stands
pub joins_refused : (d : Declared) (words : List (List ℕ)) (e : LineFault) → least_broken (channel_rules (among_channels d) words) ≡ None
    → check_joins (names_programmed d words) (is_pending d.commands) ≡ Err e → least_broken (join_rules d words) ≡ Some e.number
joins_refused d words e kept checked = by (names_programmed d words) refl (is_pending d.commands) refl checked
  where
    by : (programmed : Bool) → names_programmed d words ≡ programmed → (pending : Bool) → is_pending d.commands ≡ pending
        → check_joins programmed pending ≡ Err e → least_broken (join_rules d words) ≡ Some e.number
    by true p pending q is = let same : record { number = WRONG_WORD } ≡ e = cc in join_programmed d words kept p ∙ ap (λ (f : LineFault). Some f.number) same
    by false p true q is =
        let same : record { number = NOT_SETTLED } ≡ e = cc in
        join_settled d words kept p ∙ (rw q refl) ∙ ap (λ (f : LineFault). Some f.number) same
    by false p false q is = absurd cc

-- it is
pub joins_kept : (d : Declared) (words : List (List ℕ)) → least_broken (channel_rules (among_channels d) words) ≡ None
    → check_joins (names_programmed d words) (is_pending d.commands) ≡ Ok tt → least_broken (join_rules d words) ≡ None
joins_kept d words kept checked = by (names_programmed d words) refl (is_pending d.commands) refl checked
  where
    by : (programmed : Bool) → names_programmed d words ≡ programmed → (pending : Bool) → is_pending d.commands ≡ pending
        → check_joins programmed pending ≡ Ok tt → least_broken (join_rules d words) ≡ None
    by true p pending q is = absurd cc
    by false p true q is = absurd cc
    by false p false q is = join_settled d words kept p ∙ rw q refl

-- it leaves what is declared in form
pub among_in_form : (d : Declared) → IsInForm d → IsInForm (among_channels d)
among_in_form d form = record { fits = form.fits; named = form.named; block = tt }

pub after_in_form : (d : Declared) → IsInForm d → IsInForm (after_commands d)
after_in_form d form = record { fits = form.fits; named = form.named; block = tt }
