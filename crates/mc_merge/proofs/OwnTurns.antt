-- Each box's turns stand in the order of its own log.
use Rattle.std.proofs.Common.{◌≡◌, ◌≢◌, ◌==◌, ◌&&◌, inl, inr, ℕ, Bool, true, false, cond, List, [], ◌∷◌, length, map, refl, ap, sym, ◌∙◌, arith}
use Rattle.std.specs.List.{filter}
use Rattle.std.proofs.lemmas.Bool.{cases_eq}
use Rattle.std.proofs.lemmas.Grind.{common_steps}
use Rattle.mc_box.specs.BoxEvents.{turn_of}
use Rattle.mc_box.specs.declared.event.Event.{Event}
use Rattle.mc_box.specs.declared.event.Turn.{Turn}
use Rattle.mc_port.specs.Entries.{Entry, stamps_of}
use Rattle.mc_merge.specs.Merging.{OwnTurns}
use Rattle.mc_merge.proofs.MergedRuns.{Placed, own, own_else, own_here, placed_turn}
use Rattle.mc_merge.proofs.Merging.{all_rise, own_is, placed_at, turns_same}
use Rattle.mc_model.specs.Settles.{of_kind}
use Rattle.mc_order.proofs.Orders.{own_order}

abbrev turn_for : ℕ → Entry → Turn
turn_for who entry = turn_of who entry.event

same_test : (a b : ℕ) → a ≡ b → (a == b) ≡ true
same_test a b is = grind (arith, common_steps)

other_test : (a b : ℕ) → a ≢ b → (a == b) ≡ false
other_test a b apart = grind (arith, common_steps)

kept_by : (who : ℕ) (passes : Bool) (turn : Turn) (entry : Entry) (turns : List Turn) (kept : List Entry) → turn ≡ turn_for who entry → turns ≡ map (turn_for who) kept
    → cond (passes && true) (turn ∷ turns) turns ≡ map (turn_for who) (cond passes (entry ∷ kept) kept)
kept_by who true turn entry turns kept is same = ap (λ (t : Turn). t ∷ turns) is ∙ ap (λ (l : List Turn). turn_for who entry ∷ l) same
kept_by who false turn entry turns kept is same = same

left_out : (passes : Bool) (turn : Turn) (turns : List Turn) → cond (passes && false) (turn ∷ turns) turns ≡ turns
left_out true turn turns = refl
left_out false turn turns = refl

own_passed : (entries : List Placed) (who : ℕ) (kind : Event → Bool) → of_kind kind who (map placed_turn entries) ≡ map (turn_for who) (filter (λ (entry : Entry). kind entry.event) (own who entries))
own_passed [] who kind = refl
own_passed (placed ∷ rest) who kind =
    elim (cases_eq placed.0 who) [
      | inl is ↦
          ap (λ (b : Bool). cond (kind placed.1.event && b) (placed_turn placed ∷ of_kind kind who (map placed_turn rest)) (of_kind kind who (map placed_turn rest))) (same_test placed.0 who is)
          ∙ (kept_by who (kind placed.1.event) (placed_turn placed) placed.1 (of_kind kind who (map placed_turn rest)) (filter (λ (entry : Entry). kind entry.event) (own who rest))
          (ap (λ (w : ℕ). turn_for w placed.1) is) (own_passed rest who kind)
          ∙ ap (λ (l : List Entry). map (turn_for who) (filter (λ (entry : Entry). kind entry.event) l)) (sym (own_here who placed rest is)))
      | inr away ↦
          ap (λ (b : Bool). cond (kind placed.1.event && b) (placed_turn placed ∷ of_kind kind who (map placed_turn rest)) (of_kind kind who (map placed_turn rest))) (other_test placed.0 who away)
          ∙ (left_out (kind placed.1.event) (placed_turn placed) (of_kind kind who (map placed_turn rest))
          ∙ (own_passed rest who kind
          ∙ ap (λ (l : List Entry). map (turn_for who) (filter (λ (entry : Entry). kind entry.event) l)) (sym (own_else who placed rest away))))
    ]

pub own_turns : OwnTurns
own_turns logs keys who kind ordered rise =
    ap (of_kind kind who) (sym (turns_same logs keys))
    ∙ (own_passed (map (placed_at logs) keys) who kind
    ∙ ap (λ (l : List Entry). map (turn_for who) (filter (λ (entry : Entry). kind entry.event) l)) (own_is logs keys (own_order (map stamps_of logs) keys ordered (all_rise logs (length logs) refl rise)) who))
