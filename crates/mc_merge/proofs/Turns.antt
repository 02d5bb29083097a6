-- A turn is work of its part.
use Rattle.std.proofs.Common.{◌≡◌, ◌≢◌, inl, inr, ◌==◌, if◌then◌else◌, Bool, true, false, ℕ, ◌+◌, ◌<◌, ◌≤◌, max, List, [], ◌∷◌, ◌++◌, length, length-append, append_assoc, refl, ap, sym, ◌∙◌, subst, arith}
use Rattle.std.specs.List.{AllByRecursion}
use Rattle.std.proofs.Math.ListN.{get_or, length-set}
use Rattle.std.proofs.lemmas.Bool.{cases_eq}
use Rattle.std.proofs.lemmas.Grind.{common_steps}
use Rattle.std.proofs.lemmas.List.{get_or-set_same, get_or-set_other}
use Rattle.mc_signal.specs.declared.Tagged.{Tagged}
use Rattle.mc_box.specs.Boxes.{BoxState, no_box}
use Rattle.mc_port.specs.Entries.{AreMade, Entry}
use Rattle.mc_port.specs.Tunnels.{log_sends}
use Rattle.mc_merge.specs.LaneLogs.{takings, without_stamps}
use Rattle.mc_merge.specs.Lanes.{FitsTunnel, into_box, leads_from, leads_to, out_of_box}
use Rattle.mc_model.specs.Worlds.{WorldState}
use Rattle.mc_merge.specs.Account.{PartState, part_box, part_lane}
use Rattle.mc_merge.specs.Logs.{Own, own_log, sent_by, taken_by}
use Rattle.mc_merge.specs.Passing.{LanePasses}
use Rattle.mc_merge.specs.Turns.{IsTurn, LaneTurns, TurnsAreWork}
use Rattle.mc_merge.proofs.Passing.{below, same_length}
use Rattle.mc_port.specs.declared.stamped.Stamped.{Stamped}

-- ---- a lane

pub lane_turns : (slack : ℕ) (a b : List Tagged) (taken sent : List Stamped) → LaneTurns a b taken sent → LanePasses slack a taken sent b
lane_turns slack a b taken sent turns = record {
  order =
      ap (λ (l : List Tagged). without_stamps taken ++ l) turns.back
      ∙ (sym (append_assoc (without_stamps taken) turns.left (without_stamps sent)) ∙ ap (λ (l : List Tagged). l ++ without_stamps sent) (sym turns.front));
  later = λ j k taking coming at at_taken at_came.
      let inside : j < length taken = below taken j taking at_taken in
      let long : length a ≡ length taken + length turns.left =
      ap (λ (l : List Tagged). length l) turns.front ∙ (length-append (without_stamps taken) turns.left ∙ ap (λ (n : ℕ). n + length turns.left) (same_length taken)) in
      absurd (omega arith);
}

-- ---- the log of one entry

test_here : (test : Bool) (entry : Entry) → test ≡ true → (if test then entry ∷ [] else []) ++ [] ≡ entry ∷ []
test_here true entry is = refl
test_here false entry is = absurd (cc)

test_away : (test : Bool) (entry : Entry) → test ≡ false → (if test then entry ∷ [] else []) ++ [] ≡ []
test_away true entry is = absurd (cc)
test_away false entry is = refl

same_test : (a b : ℕ) → a ≡ b → (a == b) ≡ true
same_test a b same = grind (arith, common_steps)

other_test : (a b : ℕ) → a ≢ b → (a == b) ≡ false
other_test a b apart = grind (arith, common_steps)

pub own_one : (own : Own) (who : ℕ) → own.who ≡ who → own_log who (own ∷ []) ≡ own.entry ∷ []
own_one own who same = test_here (own.who == who) own.entry (same_test own.who who same)

own_none : (own : Own) (who : ℕ) → own.who ≢ who → own_log who (own ∷ []) ≡ []
own_none own who apart = test_away (own.who == who) own.entry (other_test own.who who apart)

pub taken_none : (tables : WorldState) (own : Own) (lane : ℕ) → own.who ≢ leads_to tables lane → taken_by tables (own ∷ []) lane ≡ []
taken_none tables own lane apart = ap (λ (l : List Entry). takings (into_box tables (leads_to tables lane) lane) l) (own_none own (leads_to tables lane) apart)

pub sent_none : (tables : WorldState) (own : Own) (lane : ℕ) → own.who ≢ leads_from tables lane → sent_by tables (own ∷ []) lane ≡ []
sent_none tables own lane apart = ap (λ (l : List Entry). log_sends (out_of_box tables (leads_from tables lane) lane) l) (own_none own (leads_from tables lane) apart)

-- ---- boxes

made_one : (tables : WorldState) (a b : PartState) (own : Own) (who : ℕ) → IsTurn tables a b own → AreMade (part_box a who) (own_log who (own ∷ [])) (part_box b who)
made_one tables a b own who turn = elim (cases_eq own.who who) [
  | inl same ↦
      let after : own.entry.after ≡ part_box b own.who =
      sym (ap (λ (l : List BoxState). get_or l own.who no_box) turn.boxes ∙ get_or-set_same a.boxes own.who own.entry.after no_box turn.here) in
      subst (λ (w : ℕ). AreMade (part_box a w) (own_log w (own ∷ [])) (part_box b w)) same
      (subst (λ (l : List Entry). AreMade (part_box a own.who) l (part_box b own.who)) (sym (own_one own own.who refl)) (turn.makes, after))
  | inr apart ↦
      let stays : part_box b who ≡ part_box a who =
      ap (λ (l : List BoxState). get_or l who no_box) turn.boxes ∙ get_or-set_other a.boxes own.who who own.entry.after no_box (λ same. apart (sym same)) in
      subst (λ (l : List Entry). AreMade (part_box a who) l (part_box b who)) (sym (own_none own who apart)) (sym stays)
]

fits_own : (tables : WorldState) (a b : PartState) (own : Own) (who : ℕ) → IsTurn tables a b own → AllByRecursion (λ (entry : Entry). FitsTunnel tables who entry.event entry.taken) (own_log who (own ∷ []))
fits_own tables a b own who turn = elim (cases_eq own.who who) [
  | inl same ↦
      subst (λ (w : ℕ). AllByRecursion (λ (entry : Entry). FitsTunnel tables w entry.event entry.taken) (own_log w (own ∷ []))) same
      (subst (λ (l : List Entry). AllByRecursion (λ (entry : Entry). FitsTunnel tables own.who entry.event entry.taken) l) (sym (own_one own own.who refl)) (turn.fits, tt))
  | inr apart ↦ subst (λ (l : List Entry). AllByRecursion (λ (entry : Entry). FitsTunnel tables who entry.event entry.taken) l) (sym (own_none own who apart)) tt
]

-- ---- all of it

away : (who n at : ℕ) → who < n → n ≤ at → who ≢ at
away who n at one two same = absurd (omega arith)

pub turns_are_work : TurnsAreWork
turns_are_work tables a b own turn =
    let next : own.entry.stamp ≡ max a.stamp a.heard + 1 = turn.next in
    let last : b.stamp ≡ own.entry.stamp = turn.stamp in
    let same : b.heard ≡ a.heard = turn.heard in
    let first : a.stamp < own.entry.stamp = omega arith in
    let within : own.entry.stamp ≤ b.stamp = omega arith in
    let above : a.heard < own.entry.stamp = omega arith in
    let heard : a.heard ≤ b.heard = omega arith in
    record {
      box_count = ap (λ (l : List BoxState). length l) turn.boxes ∙ length-set a.boxes own.who own.entry.after;
      lane_count = turn.lane_count;
      made = λ who. made_one tables a b own who turn;
      fits = λ who. fits_own tables a b own who turn;
      rising = (first, within);
      hears = (above, tt);
      heard = heard;
      came = λ lane. tt;
      went = λ lane. tt;
      inner = λ lane inside from to. lane_turns 0 (part_lane a lane) (part_lane b lane) (taken_by tables (own ∷ []) lane) (sent_by tables (own ∷ []) lane) (turn.lanes lane inside);
      ins = λ lane inside from to.
          subst (λ (l : List Stamped). LanePasses 0 (part_lane a lane) (taken_by tables (own ∷ []) lane) l (part_lane b lane)) (sent_none tables own lane (away own.who (length a.boxes) (leads_from tables lane) turn.here from))
          (lane_turns 0 (part_lane a lane) (part_lane b lane) (taken_by tables (own ∷ []) lane) (sent_by tables (own ∷ []) lane) (turn.lanes lane inside));
      outs = λ lane inside from to.
          subst (λ (l : List Stamped). LanePasses 1 (part_lane a lane) l (sent_by tables (own ∷ []) lane) (part_lane b lane)) (taken_none tables own lane (away own.who (length a.boxes) (leads_to tables lane) turn.here to))
          (lane_turns 1 (part_lane a lane) (part_lane b lane) (taken_by tables (own ∷ []) lane) (sent_by tables (own ∷ []) lane) (turn.lanes lane inside));
    }
