-- The account of one turn, from what its parts did.
use Rattle.std.proofs.Common.{◌≡◌, ℕ, ◌+◌, ◌≤◌, ◌==◌, max, Bool, true, false, if◌then◌else◌, Option, Some, None, List, [], ◌∷◌, ◌++◌, length, map, slice_get, refl, sym, ◌∙◌, ap, subst, arith}
use Rattle.std.specs.Option.{option_to_list}
use Rattle.std.proofs.lemmas.List.{append-nil}
use Rattle.mc_box.specs.BoxEvents.{box_event, is_command, is_shift}
use Rattle.mc_box.specs.declared.event.Event.{Event}
use Rattle.mc_box.specs.declared.event.Event.TheVariants.{Take}
use Rattle.mc_port.specs.Tunnels.{event_sends, taken_if, tunnel_if_at, tunnels_at}
use Rattle.mc_port.specs.Ends.{in_ring, out_ring, with_stamp, without_stamp}
use Rattle.mc_port.specs.declared.stamped.Stamped.{Stamped}
use Rattle.mc_signal.specs.declared.Signal.{Signal}
use Rattle.mc_worker.specs.Account.{IsWork, in_at, out_at}
use Rattle.mc_worker.specs.Ends.{InAccount, OutAccount}
use Rattle.mc_worker.specs.Turns.{act_entry, take_entry}
use Rattle.mc_worker.specs.declared.limit.TheConstants.{STAMP_LIMIT}
use Rattle.mc_worker.specs.declared.logged.Logged.{Logged}
use Rattle.mc_worker.specs.declared.worker.Worker.{Worker}
use Rattle.mc_worker.proofs.Joins.{in_still}

abbrev logged_as : ℕ → Event → Logged
logged_as stamp event = record { stamp = stamp; event = event }

taken_by : (test : Bool) (tunnel : ℕ) (item : Stamped) → (if test then item ∷ [] else []) ≡ map (with_stamp item.stamp) (taken_if (if test then Some tunnel else None) (without_stamp item)) ++ []
taken_by true tunnel item = refl
taken_by false tunnel item = refl

-- what is taken by a slot is taken at its end
taken_placed : (found : Option (ℕ × ℕ)) (end e : ℕ) (item : Stamped) → found ≡ Some (end, item.tunnel)
    → (if end == e then item ∷ [] else []) ≡ map (with_stamp item.stamp) (taken_if (tunnel_if_at e found) (without_stamp item)) ++ []
taken_placed found end e item is = rw is (taken_by (end == e) item.tunnel item)

-- a slot took an item
pub take_work : (a b : Worker) (slot end : ℕ) (item : Stamped) (sent : List (ℕ × Signal)) (taken : Option Stamped)
    → box_event a.part (Take slot) (Some item.signal) ≡ Some (record { sent = sent; after = b.part }) → b.stamp ≡ max a.stamp item.stamp + 1 → item.stamp ≤ STAMP_LIMIT
    → slice_get a.place slot ≡ Some (end, item.tunnel) → taken ≡ Some item
    → ((e : ℕ) → InAccount (in_at a e) (in_at b e) (if end == e then option_to_list taken else []))
    → ((e : ℕ) → OutAccount (out_at a e) (out_at b e) (event_sends (tunnels_at a.place e) b.stamp sent))
    → b.stimuli.items ≡ a.stimuli.items → b.shifts ≡ a.shifts → b.log.items ≡ a.log.items ++ logged_as b.stamp (Take slot) ∷ [] → b.place ≡ a.place
    → map in_ring b.ins.items ≡ map in_ring a.ins.items → map out_ring b.outs.items ≡ map out_ring a.outs.items → IsWork a b (take_entry a slot item sent b.part ∷ [])
take_work a b slot end item sent taken goes stamp fits at is ins outs stimuli shifts logs place in_rings out_rings = record {
  made = (goes, refl);
  stamps = (refl, tt);
  last = stamp;
  claims = (fits, tt);
  fits = (rw at refl, tt);
  ins = λ e.
      subst (λ (l : List Stamped). InAccount (in_at a e) (in_at b e) l) (taken_placed (slice_get a.place slot) end e item at)
      (subst (λ (o : Option Stamped). InAccount (in_at a e) (in_at b e) (if end == e then option_to_list o else [])) is (ins e));
  outs = λ e.
      subst (λ (l : List Stamped). OutAccount (out_at a e) (out_at b e) l)
      (ap (λ (n : ℕ). event_sends (tunnels_at a.place e) n sent) stamp ∙ sym (append-nil (event_sends (tunnels_at a.place e) (max a.stamp item.stamp + 1) sent))) (outs e);
  stimuli = stimuli;
  shifts = omega (arith, shifts);
  logs = logs ∙ ap (λ (n : ℕ). a.log.items ++ logged_as n (Take slot) ∷ []) stamp;
  place = place;
  in_rings = in_rings;
  out_rings = out_rings;
}

if_nil : (test : Bool) (event : Event) (rest : List Event) → ((if test then event ∷ [] else []) ++ []) ++ rest ≡ (if test then event ∷ [] else []) ++ rest
if_nil true event rest = refl
if_nil false event rest = refl

if_count : (test : Bool) (event : Event) → length ((if test then event ∷ [] else []) ++ []) ≡ (if test then 1 else 0)
if_count true event = refl
if_count false event = refl

-- another event was made
pub act_work : (a b : Worker) (event : Event) (sent : List (ℕ × Signal))
    → box_event a.part event None ≡ Some (record { sent = sent; after = b.part }) → b.stamp ≡ a.stamp + 1
    → b.ins ≡ a.ins → b.inboxes ≡ a.inboxes
    → ((e : ℕ) → OutAccount (out_at a e) (out_at b e) (event_sends (tunnels_at a.place e) b.stamp sent))
    → (if is_command event then event ∷ [] else []) ++ b.stimuli.items ≡ a.stimuli.items → b.shifts ≡ a.shifts + (if is_shift event then 1 else 0)
    → b.log.items ≡ a.log.items ++ logged_as b.stamp event ∷ [] → b.place ≡ a.place
    → map out_ring b.outs.items ≡ map out_ring a.outs.items → IsWork a b (act_entry a event sent b.part ∷ [])
act_work a b event sent goes stamp ins inboxes outs stimuli shifts logs place out_rings = record {
  made = (goes, refl);
  stamps = (omega arith, tt);
  last = stamp;
  claims = (omega arith, tt);
  fits = (tt, tt);
  ins = λ e. rw (ins, inboxes) (in_still (in_at a e));
  outs = λ e.
      subst (λ (l : List Stamped). OutAccount (out_at a e) (out_at b e) l)
      (ap (λ (n : ℕ). event_sends (tunnels_at a.place e) n sent) stamp ∙ sym (append-nil (event_sends (tunnels_at a.place e) (a.stamp + 1) sent))) (outs e);
  stimuli = if_nil (is_command event) event b.stimuli.items ∙ stimuli;
  shifts = shifts ∙ ap (λ (n : ℕ). a.shifts + n) (sym (if_count (is_shift event) event));
  logs = logs ∙ ap (λ (n : ℕ). a.log.items ++ logged_as n event ∷ []) stamp;
  place = place;
  in_rings = ap (λ ports. map in_ring ports.items) ins;
  out_rings = out_rings;
}
