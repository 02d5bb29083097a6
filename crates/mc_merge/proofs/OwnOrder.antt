-- A box's turns of a kind, in the order of its own log.
use Rattle.std.proofs.Common.{◌≡◌, ◌==◌, ◌&&◌, cond, if◌then◌else◌, Bool, true, false, ℕ, List, [], ◌∷◌, ◌++◌, map, refl, ap, ◌∙◌}
use Rattle.std.specs.List.{filter}
use Rattle.std.proofs.lemmas.Bool.{eqb-true}
use Rattle.mc_box.specs.BoxEvents.{turn_of}
use Rattle.mc_box.specs.declared.event.Event.{Event}
use Rattle.mc_box.specs.declared.event.Turn.{Turn}
use Rattle.mc_port.specs.Entries.{Entry}
use Rattle.mc_model.specs.Settles.{of_kind}
use Rattle.mc_merge.specs.Logs.{Own, own_log}
use Rattle.mc_merge.specs.Order.{OwnInOrder, turns_of}

abbrev own_turns : (Event → Bool) → ℕ → List Entry → List Turn
own_turns kind who entries = map (λ (entry : Entry). turn_of who entry.event) (filter (λ (entry : Entry). kind entry.event) entries)

kept : (k : Bool) (o : Own) (who : ℕ) (kind : Event → Bool) (entries : List Entry) (turns : List Turn) → o.who ≡ who → turns ≡ own_turns kind who entries
    → cond (k && true) (turn_of o.who o.entry.event ∷ turns) turns ≡ map (λ (entry : Entry). turn_of who entry.event) (cond k (o.entry ∷ filter (λ (entry : Entry). kind entry.event) entries) (filter (λ (entry : Entry). kind entry.event) entries))
kept true o who kind entries turns is same = ap (λ (w : ℕ). turn_of w o.entry.event ∷ turns) is ∙ ap (λ (l : List Turn). turn_of who o.entry.event ∷ l) same
kept false o who kind entries turns is same = same

left_out : (k : Bool) (turn : Turn) (turns : List Turn) → cond (k && false) (turn ∷ turns) turns ≡ turns
left_out true turn turns = refl
left_out false turn turns = refl

one : (w : Bool) (o : Own) (who : ℕ) (kind : Event → Bool) (entries : List Entry) (turns : List Turn) → (w ≡ true → o.who ≡ who) → turns ≡ own_turns kind who entries
    → cond (kind o.entry.event && w) (turn_of o.who o.entry.event ∷ turns) turns ≡ own_turns kind who ((if w then o.entry ∷ [] else []) ++ entries)
one true o who kind entries turns is same = kept (kind o.entry.event) o who kind entries turns (is refl) same
one false o who kind entries turns is same = left_out (kind o.entry.event) (turn_of o.who o.entry.event) turns ∙ same

all : (whole : List Own) (who : ℕ) (kind : Event → Bool) → of_kind kind who (turns_of whole) ≡ own_turns kind who (own_log who whole)
all [] who kind = refl
all (o ∷ whole) who kind = one (o.who == who) o who kind (own_log who whole) (of_kind kind who (turns_of whole)) (λ is. eqb-true o.who who is) (all whole who kind)

pub own_in_order : OwnInOrder
own_in_order clock logs whole who kind merged = all whole who kind ∙ ap (λ (l : List Entry). own_turns kind who l) (merged.each who)
