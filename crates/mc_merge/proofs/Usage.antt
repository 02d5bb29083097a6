-- What entries use up and count, one by one.
use Rattle.std.proofs.Common.{◌≡◌, ◌≢◌, inl, inr, ◌==◌, Bool, true, false, count_by, if◌then◌else◌, ℕ, ◌+◌, ◌≤◌, List, [], ◌∷◌, ◌++◌, length, map, append_assoc, add-zero, refl, ap, sym, ◌∙◌, subst, arith}
use Rattle.std.specs.List.{filter}
use Rattle.std.proofs.lemmas.Bool.{cases_eq, eq-eqb, eqb-true}
use Rattle.std.proofs.lemmas.List.{append-nil, length-append, map-append}
use Rattle.std.proofs.lemmas.List.Elements.{filter-append}
use Rattle.std.proofs.lemmas.List.Sums.{length-filter}
use Rattle.mc_box.specs.BoxEvents.{is_command, is_shift}
use Rattle.mc_box.specs.declared.event.Event.{Event}
use Rattle.mc_box.specs.declared.event.Event.TheVariants.{Take, Set, Media, Tell, Retry, Shift}
use Rattle.mc_box.specs.declared.limit.TheConstants.{SHIFT_LIMIT}
use Rattle.mc_port.specs.Entries.{Entry}
use Rattle.mc_merge.specs.Phases.{IsUse}
use Rattle.mc_merge.specs.Uses.{AreOwnUses, OwnUsesJoin, Uses, UsesBegin, UsesGoOn, UsesJoin, UsesMore, UsesOne, retry_count}
use Rattle.mc_model.specs.Settles.{is_retry_at}
use Rattle.mc_merge.specs.Logs.{Own, own_log}
use Rattle.mc_merge.proofs.Logs.{own_append}

-- ---- two goes

count_append : (p : Entry → Bool) (xs ys : List Entry) → count_by p (xs ++ ys) ≡ count_by p xs + count_by p ys
count_append p xs ys =
    let one = length-filter p xs in
    let two = length-filter p ys in
    sym (length-filter p (xs ++ ys)) ∙ (ap (λ (l : List Entry). length l) (filter-append p xs ys) ∙ (length-append (filter p xs) (filter p ys) ∙ (ap (λ (n : ℕ). n + length (filter p ys)) one ∙ ap (λ (n : ℕ). count_by p xs + n) two)))

pub uses_join : UsesJoin
uses_join retries retries_2 entries entries_2 stimuli stimuli_2 stimuli_3 shifts shifts_2 shifts_3 one two = record {
  commands = ap (λ (l : List Event). l ++ stimuli_3)
      (ap (λ (l : List Entry). map (λ (entry : Entry). entry.event) l) (filter-append (λ (entry : Entry). is_command entry.event) entries entries_2)
      ∙ map-append (λ (entry : Entry). entry.event) (filter (λ (entry : Entry). is_command entry.event) entries) (filter (λ (entry : Entry). is_command entry.event) entries_2))
      ∙ (append_assoc (map (λ (entry : Entry). entry.event) (filter (λ (entry : Entry). is_command entry.event) entries)) (map (λ (entry : Entry). entry.event) (filter (λ (entry : Entry). is_command entry.event) entries_2)) stimuli_3
      ∙ (ap (λ (l : List Event). map (λ (entry : Entry). entry.event) (filter (λ (entry : Entry). is_command entry.event) entries) ++ l) two.commands ∙ one.commands));
  shifts_are =
      let first : shifts_2 ≡ shifts + count_by (λ (entry : Entry). is_shift entry.event) entries = one.shifts_are in
      let second : shifts_3 ≡ shifts_2 + count_by (λ (entry : Entry). is_shift entry.event) entries_2 = two.shifts_are in
      let all : count_by (λ (entry : Entry). is_shift entry.event) (entries ++ entries_2) ≡ count_by (λ (entry : Entry). is_shift entry.event) entries + count_by (λ (entry : Entry). is_shift entry.event) entries_2 =
      count_append (λ (entry : Entry). is_shift entry.event) entries entries_2 in
      omega arith;
  few = two.few;
  retried = λ local.
      count_append (λ (entry : Entry). is_retry_at local entry.event) entries entries_2
      ∙ (ap (λ (n : ℕ). n + count_by (λ (entry : Entry). is_retry_at local entry.event) entries_2) (one.retried local) ∙ ap (λ (n : ℕ). retries local + n) (two.retried local));
}

-- ---- one entry

long_if : (test : Bool) (entry : Entry) → length (if test then entry ∷ [] else []) ≡ (if test then 1 else 0)
long_if true entry = refl
long_if false entry = refl

count_one : (p : Entry → Bool) (entry : Entry) → count_by p (entry ∷ []) ≡ (if p entry then 1 else 0)
count_one p entry = sym (length-filter p (entry ∷ [])) ∙ long_if (p entry) entry

command_one : (event : Event) (entry : Entry) (stimuli stimuli_2 : List Event) (shifts shifts_2 : ℕ) → entry.event ≡ event → UsesOne event stimuli stimuli_2 shifts shifts_2
    → map (λ (e : Entry). e.event) (if is_command event then entry ∷ [] else []) ++ stimuli_2 ≡ stimuli
command_one (Take local) entry stimuli stimuli_2 shifts shifts_2 is uses = sym uses.0
command_one (Retry local) entry stimuli stimuli_2 shifts shifts_2 is uses = sym uses.0
command_one Shift entry stimuli stimuli_2 shifts shifts_2 is uses = sym uses.0
command_one (Set change) entry stimuli stimuli_2 shifts shifts_2 is uses = ap (λ (e : Event). e ∷ stimuli_2) is ∙ sym uses.0
command_one (Media change) entry stimuli stimuli_2 shifts shifts_2 is uses = ap (λ (e : Event). e ∷ stimuli_2) is ∙ sym uses.0
command_one (Tell word) entry stimuli stimuli_2 shifts shifts_2 is uses = ap (λ (e : Event). e ∷ stimuli_2) is ∙ sym uses.0

shift_one : (event : Event) (stimuli stimuli_2 : List Event) (shifts shifts_2 : ℕ) → UsesOne event stimuli stimuli_2 shifts shifts_2 → shifts_2 ≡ shifts + (if is_shift event then 1 else 0)
shift_one (Take local) stimuli stimuli_2 shifts shifts_2 uses = uses.1 ∙ sym (add-zero shifts)
shift_one (Retry local) stimuli stimuli_2 shifts shifts_2 uses = uses.1 ∙ sym (add-zero shifts)
shift_one Shift stimuli stimuli_2 shifts shifts_2 uses = uses.1
shift_one (Set change) stimuli stimuli_2 shifts shifts_2 uses = uses.1 ∙ sym (add-zero shifts)
shift_one (Media change) stimuli stimuli_2 shifts shifts_2 uses = uses.1 ∙ sym (add-zero shifts)
shift_one (Tell word) stimuli stimuli_2 shifts shifts_2 uses = uses.1 ∙ sym (add-zero shifts)

one_use : (entry : Entry) (stimuli stimuli_2 : List Event) (shifts shifts_2 : ℕ) → UsesOne entry.event stimuli stimuli_2 shifts shifts_2 → shifts_2 ≤ SHIFT_LIMIT
    → IsUse (retry_count entry.event) (entry ∷ []) stimuli stimuli_2 shifts shifts_2
one_use entry stimuli stimuli_2 shifts shifts_2 uses few = record {
  commands = command_one entry.event entry stimuli stimuli_2 shifts shifts_2 refl uses;
  shifts_are = shift_one entry.event stimuli stimuli_2 shifts shifts_2 uses ∙ ap (λ (n : ℕ). shifts + n) (sym (count_one (λ (e : Entry). is_shift e.event) entry));
  few = few;
  retried = λ local. count_one (λ (e : Entry). is_retry_at local e.event) entry;
}

no_use : (stimuli : List Event) (shifts : ℕ) → shifts ≤ SHIFT_LIMIT → IsUse (λ local. 0) [] stimuli stimuli shifts shifts
no_use stimuli shifts few = record { commands = refl; shifts_are = sym (add-zero shifts); few = few; retried = λ local. refl }

retries_as : (retries retries_2 : ℕ → ℕ) (entries : List Entry) (stimuli stimuli_2 : List Event) (shifts shifts_2 : ℕ) → ((local : ℕ) → retries local ≡ retries_2 local)
    → IsUse retries entries stimuli stimuli_2 shifts shifts_2 → IsUse retries_2 entries stimuli stimuli_2 shifts shifts_2
retries_as retries retries_2 entries stimuli stimuli_2 shifts shifts_2 same was = record { commands = was.commands; shifts_are = was.shifts_are; few = was.few; retried = λ local. was.retried local ∙ same local }

-- ---- all boxes

pub uses_begin : UsesBegin
uses_begin uses few none at = retries_as (λ local. 0) (uses.retries at) [] (uses.stimuli at) (uses.stimuli at) (uses.shifts at) (uses.shifts at) (λ local. sym (none at local)) (no_use (uses.stimuli at) (uses.shifts at) (few at))

one_log : (test : Bool) (entry : Entry) → test ≡ true → (if test then entry ∷ [] else []) ++ [] ≡ entry ∷ []
one_log true entry is = refl
one_log false entry is = absurd (cc)

none_log : (test : Bool) (entry : Entry) → (test ≡ true → ⊥) → (if test then entry ∷ [] else []) ++ [] ≡ []
none_log true entry apart = absurd (apart refl)
none_log false entry apart = refl

here_more : (log : List Own) (own : Own) (first before after : Uses) → AreOwnUses log first before → UsesMore own before after
    → IsUse (after.retries own.who) (own_log own.who (log ++ own ∷ [])) (first.stimuli own.who) (after.stimuli own.who) (first.shifts own.who) (after.shifts own.who)
here_more log own first before after uses more =
    let entries : own_log own.who (log ++ own ∷ []) ≡ own_log own.who log ++ own.entry ∷ [] =
    own_append own.who log (own ∷ []) ∙ ap (λ (l : List Entry). own_log own.who log ++ l) (one_log (own.who == own.who) own.entry (eq-eqb own.who own.who refl)) in
    subst (λ (l : List Entry). IsUse (after.retries own.who) l (first.stimuli own.who) (after.stimuli own.who) (first.shifts own.who) (after.shifts own.who)) (sym entries)
    (retries_as (λ local. before.retries own.who local + retry_count own.entry.event local) (after.retries own.who) (own_log own.who log ++ own.entry ∷ []) (first.stimuli own.who) (after.stimuli own.who) (first.shifts own.who) (after.shifts own.who)
    (λ local. sym (more.retries local))
    (uses_join (before.retries own.who) (retry_count own.entry.event) (own_log own.who log) (own.entry ∷ []) (first.stimuli own.who) (before.stimuli own.who) (after.stimuli own.who) (first.shifts own.who) (before.shifts own.who) (after.shifts own.who)
    (uses own.who) (one_use own.entry (before.stimuli own.who) (after.stimuli own.who) (before.shifts own.who) (after.shifts own.who) more.one more.few)))

other_more : (log : List Own) (own : Own) (first before after : Uses) (other : ℕ) → other ≢ own.who → AreOwnUses log first before → UsesMore own before after
    → IsUse (after.retries other) (own_log other (log ++ own ∷ [])) (first.stimuli other) (after.stimuli other) (first.shifts other) (after.shifts other)
other_more log own first before after other apart uses more =
    let entries : own_log other (log ++ own ∷ []) ≡ own_log other log =
    own_append other log (own ∷ [])
    ∙ (ap (λ (l : List Entry). own_log other log ++ l) (none_log (own.who == other) own.entry (λ is. apart (sym (eqb-true own.who other is)))) ∙ append-nil (own_log other log)) in
    subst (λ (l : List Entry). IsUse (after.retries other) l (first.stimuli other) (after.stimuli other) (first.shifts other) (after.shifts other)) (sym entries)
    (subst (λ (l : List Event). IsUse (after.retries other) (own_log other log) (first.stimuli other) l (first.shifts other) (after.shifts other)) (sym (more.stimuli_stay other apart))
    (subst (λ (n : ℕ). IsUse (after.retries other) (own_log other log) (first.stimuli other) (before.stimuli other) (first.shifts other) n) (sym (more.shifts_stay other apart))
    (retries_as (before.retries other) (after.retries other) (own_log other log) (first.stimuli other) (before.stimuli other) (first.shifts other) (before.shifts other) (λ local. sym (more.retries_stay other local apart)) (uses other))))

pub uses_go_on : UsesGoOn
uses_go_on log own first before after uses more at = elim (cases_eq at own.who) [
  | inl same ↦ subst (λ (n : ℕ). IsUse (after.retries n) (own_log n (log ++ own ∷ [])) (first.stimuli n) (after.stimuli n) (first.shifts n) (after.shifts n)) (sym same) (here_more log own first before after uses more)
  | inr apart ↦ other_more log own first before after at apart uses more
]

-- ---- two goes of all boxes

pub own_uses_join : OwnUsesJoin
own_uses_join log log_2 a b c one two at =
    subst (λ (l : List Entry). IsUse (λ local. b.retries at local + c.retries at local) l (a.stimuli at) (c.stimuli at) (a.shifts at) (c.shifts at)) (sym (own_append at log log_2))
    (uses_join (b.retries at) (c.retries at) (own_log at log) (own_log at log_2) (a.stimuli at) (b.stimuli at) (c.stimuli at) (a.shifts at) (b.shifts at) (c.shifts at) (one at) (two at))

-- the same, with retries that are as many
pub own_uses_as : (log : List Own) (first last : Uses) (retries : ℕ → ℕ → ℕ) → ((at local : ℕ) → last.retries at local ≡ retries at local) → AreOwnUses log first last
    → AreOwnUses log first (record last { retries = retries })
own_uses_as log first last retries same uses at = retries_as (last.retries at) (retries at) (own_log at log) (first.stimuli at) (last.stimuli at) (first.shifts at) (last.shifts at) (same at) (uses at)
