-- A settle of a network makes no Set on a slot that is out, if its batch makes none.
use Rattle.std.proofs.Common.{◌≡◌, ◌<◌, ◌==◌, ◌&&◌, ◌||◌, ◌++◌, ℕ, zero, suc, Bool, true, false, cond, Some, List, [], ◌∷◌, filter, length, slice_index_or, refl, ap, sym, ◌∙◌, subst, arith}
use Rattle.std.specs.List.{list_any}
use Rattle.std.proofs.lemmas.Grind.{common_steps}
use Rattle.std.proofs.lemmas.List.Folds.{list_any-append}
use Rattle.mc_box.specs.declared.event.Change.TheVariants.{End as NewEnd, Link as NewLink}
use Rattle.mc_box.specs.declared.event.Event.{Event}
use Rattle.mc_box.specs.declared.event.Event.TheVariants.{Take, Set, Media, Tell, Retry, Shift}
use Rattle.mc_box.specs.declared.event.Turn.{Turn}
use Rattle.mc_growth.specs.Growths.{GrownState}
use Rattle.mc_growth.specs.Outs.{AreOut, SetNoneOut, is_out, sets, sets_slot}
use Rattle.mc_growth.proofs.OutStays.{out_stays}
use Rattle.mc_laws.proofs.BatchMade.{settled_makes_its_batch}
use Rattle.mc_model.specs.Settles.{IsSettled, is_set, of_kind}
use Rattle.mc_model.specs.Sound.{IsSound}
use Rattle.mc_model.specs.Worlds.{WorldState, place, slot_count}

-- what sets a slot is a Set
sets_are_sets : (event : Event) (local : ℕ) → sets_slot local event ≡ true → is_set event ≡ true
sets_are_sets (Set change) local is = refl
sets_are_sets (Take slot) local is = absurd (cc)
sets_are_sets (Media change) local is = absurd (cc)
sets_are_sets (Tell word) local is = absurd (cc)
sets_are_sets (Retry slot) local is = absurd (cc)
sets_are_sets Shift local is = absurd (cc)

-- one turn more, by whether it is of the kind
any_more : (p q r : Turn → Bool) (turn : Turn) (turns : List Turn) (here : Bool) → p turn ≡ here → r turn ≡ (p turn && q turn)
    → list_any q (filter p turns) ≡ list_any r turns → list_any q (filter p (turn ∷ turns)) ≡ list_any r (turn ∷ turns)
any_more p q r turn turns true is both more = grind (arith, common_steps)
any_more p q r turn turns false is both more = grind (arith, common_steps)

any_filtered : (p q r : Turn → Bool) → ((turn : Turn) → r turn ≡ (p turn && q turn)) → (turns : List Turn) → list_any q (filter p turns) ≡ list_any r turns
any_filtered p q r both [] = refl
any_filtered p q r both (turn ∷ turns) = any_more p q r turn turns (p turn) refl (both turn) (any_filtered p q r both turns)

by_kind : (kind here set : Bool) → (set ≡ true → kind ≡ true) → (here && set) ≡ ((kind && here) && set)
by_kind true true true within = refl
by_kind true true false within = refl
by_kind true false true within = refl
by_kind true false false within = refl
by_kind false true true within = absurd (let is = within refl in cc)
by_kind false true false within = refl
by_kind false false true within = refl
by_kind false false false within = refl

-- whether some turn sets a slot is seen by the Sets of the slot's box
seen_by_sets : (world : WorldState) (s : ℕ) (turns : List Turn)
    → list_any (λ turn. sets_slot (place world s).1 turn.event) (of_kind is_set (place world s).0 turns) ≡ list_any (sets world s) turns
seen_by_sets world s turns =
    any_filtered (λ turn. is_set turn.event && turn.who == (place world s).0) (λ turn. sets_slot (place world s).1 turn.event) (sets world s)
    (λ turn. by_kind (is_set turn.event) (turn.who == (place world s).0) (sets_slot (place world s).1 turn.event) (sets_are_sets turn.event (place world s).1)) turns

-- so a settled segment sets no slot that its batch doesn't
pub none_set : (world last : WorldState) (out : List Bool) (batch turns : List Turn) → IsSettled world batch turns last → SetNoneOut world out batch → SetNoneOut world out turns
none_set world last out batch turns settled none s inside is =
    sym (seen_by_sets world s turns)
    ∙ (ap (λ (made : List Turn). list_any (λ turn. sets_slot (place world s).1 turn.event) made) (settled_makes_its_batch world last batch turns settled (place world s).0).0
    ∙ (seen_by_sets world s batch ∙ none s inside is))

-- and what is out stays so
pub settled_out : (world last : WorldState) (out : List Bool) (batch turns : List Turn) → IsSound world → AreOut world out → SetNoneOut world out batch → IsSettled world batch turns last
    → AreOut last out
settled_out world last out batch turns sound are none settled =
    out_stays turns world last out sound are (none_set world last out batch turns settled none) settled.runs

-- ---- whether a batch makes none

-- none of these turns is a Set on a slot that is out, nor is this one
pub none_more : (world : WorldState) (out : List Bool) (turns : List Turn) (turn : Turn) → SetNoneOut world out turns → SetNoneOut world out (turn ∷ [])
    → SetNoneOut world out (turns ++ turn ∷ [])
none_more world out turns turn before here s inside is =
    let one = before s inside is in
    let two = here s inside is in
    let both = list_any-append (sets world s) turns (turn ∷ []) in
    rw (both, one, two) refl

both_false : (a b : Bool) → (a || b) ≡ false → (a ≡ false) × (b ≡ false)
both_false true b is = absurd (cc)
both_false false b is = (refl, is)

any_at : (turns : List Turn) (p : Turn → Bool) (i : ℕ) (none : Turn) → i < length turns → list_any p turns ≡ false → p (slice_index_or turns i none) ≡ false
any_at [] p i none within all = absurd (omega arith)
any_at (turn ∷ turns) p zero none within all = (both_false (p turn) (list_any p turns) all).0
any_at (turn ∷ turns) p (suc i) none within all = any_at turns p i none (omega arith) (both_false (p turn) (list_any p turns) all).1

not_here : (b : Bool) → b ≡ false → (b || false) ≡ false
not_here b is = rw (is) refl

-- none of a batch is, so no turn of it is
pub none_at : (world : WorldState) (out : List Bool) (batch : List Turn) (i : ℕ) (none : Turn) → i < length batch → SetNoneOut world out batch
    → SetNoneOut world out (slice_index_or batch i none ∷ [])
none_at world out batch i none within all s inside is =
    not_here (sets world s (slice_index_or batch i none)) (any_at batch (sets world s) i none within (all s inside is))

-- ---- between the settles

-- what was opened up before a settle can be put back after it
pub put_back_out : (network : GrownState) (world last : WorldState) (out : List Bool) (batch turns : List Turn) → world ≡ network.world → out ≡ network.out
    → AreOut network.world network.out → IsSound world → SetNoneOut network.world network.out batch → IsSettled world batch turns last → AreOut last out
put_back_out network world last out batch turns one two are sound none settled =
    subst (λ (flags : List Bool). AreOut last flags) (sym two)
    (settled_out network.world last network.out batch turns (subst IsSound one sound) are none (subst (λ (w : WorldState). IsSettled w batch turns last) one settled))
