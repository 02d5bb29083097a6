-- The first broken rule of a `chan` line whose words are all there.
use Rattle.std.proofs.Common.{◌≡◌, ◌||◌, ◌&&◌, if◌then◌else◌, ℕ, Bool, true, false, List, [], ◌∷◌, Some, Result, Err, refl, ap, drop}
use Rattle.std.specs.List.{slice_get}
use Rattle.std.specs.Option.{is_none, is_some}
use Rattle.mc_script.specs.Places.{box_named, is_misspelt, is_no, lacks, unless}
use Rattle.mc_script.specs.Rules.{least_broken}
use Rattle.mc_script.specs.declared.command.LineFault.{LineFault}
use Rattle.mc_script.specs.declared.rule.TheConstants.{EXTRA_WORD, MISSING_WORD, UNDECLARED, WRONG_WORD}
use Rattle.mc_lines.specs.BoxLines.{check_slots}
use Rattle.mc_lines.specs.Rules.{channel_rules, is_late, spelt_medium}
use Rattle.mc_lines.specs.SoFar.{Declared}
use Rattle.mc_lines.specs.declared.section.Section.TheVariants as section

-- what is asked of slots that are there
abbrev pub slots_fault : (late first second more : Bool) → Result (Unit {0}) LineFault
slots_fault late first second more = if late || first || second then Err (record { number = WRONG_WORD }) else unless more EXTRA_WORD tt

by_slots : (late first second more : Bool) (rest : List (ℕ × Bool)) (fault : LineFault) → Err fault ≡ slots_fault late first second more
    → least_broken ((WRONG_WORD, late || false || first || second) ∷ (MISSING_WORD, false) ∷ (EXTRA_WORD, more) ∷ rest) ≡ Some fault.number
by_slots true first second more rest fault is = cc
by_slots false true second more rest fault is = cc
by_slots false false true more rest fault is = cc
by_slots false false false true rest fault is = cc
by_slots false false false false rest fault is = absurd cc

by_tests : (near far late no_medium from first to second missing more : Bool) (rest : List (ℕ × Bool)) (fault : LineFault)
    → near ≡ false → far ≡ false → no_medium ≡ false → from ≡ true → to ≡ true → missing ≡ false → Err fault ≡ slots_fault late first second more
    → least_broken ((UNDECLARED, near || far) ∷ (WRONG_WORD, late || no_medium || (from && first) || (to && second)) ∷ (MISSING_WORD, missing) ∷ (EXTRA_WORD, more) ∷ rest) ≡ Some fault.number
by_tests near far late no_medium from first to second missing more rest fault a b c d e f is = rw (a, b, c, d, e, f) (by_slots late first second more rest fault is)

pub slots_broken : (d : Declared) (words : List (List ℕ)) (slot far_slot : List ℕ) (fault : LineFault)
    → lacks d.names.boxes (slice_get words 1) ≡ false → lacks d.names.boxes (slice_get words 3) ≡ false → is_no spelt_medium (slice_get words 0) ≡ false
    → is_some (box_named d.names (slice_get words 1)) ≡ true → is_some (box_named d.names (slice_get words 3)) ≡ true
    → slice_get words 2 ≡ Some slot → slice_get words 4 ≡ Some far_slot
    → Err fault ≡ check_slots d slot far_slot (is_some (slice_get words 5))
    → least_broken (channel_rules d words) ≡ Some fault.number
slots_broken d words slot far_slot fault near far medium from to first second is =
    by_tests (lacks d.names.boxes (slice_get words 1)) (lacks d.names.boxes (slice_get words 3)) (is_late d section.Channels) (is_no spelt_medium (slice_get words 0))
    (is_some (box_named d.names (slice_get words 1))) (is_misspelt (slice_get words 2)) (is_some (box_named d.names (slice_get words 3))) (is_misspelt (slice_get words 4))
    (is_none (slice_get words 4)) (is_some (slice_get words 5)) (drop 4 (channel_rules d words)) fault near far medium from to (ap is_none second) (rw (first, second) is)

-- where the fifth word is there, so are those before it
pub are_there : (words : List (List ℕ)) (word : List ℕ) → slice_get words 4 ≡ Some word
    → (is_some (slice_get words 0) ≡ true) × (is_some (slice_get words 1) ≡ true) × (is_some (slice_get words 2) ≡ true) × (is_some (slice_get words 3) ≡ true)
are_there [] word is = absurd cc
are_there (a ∷ []) word is = absurd cc
are_there (a ∷ b ∷ []) word is = absurd cc
are_there (a ∷ b ∷ c ∷ []) word is = absurd cc
are_there (a ∷ b ∷ c ∷ d ∷ rest) word is = (refl, refl, refl, refl)
