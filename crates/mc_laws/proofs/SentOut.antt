-- What a box sends, by whichever of its slots and in whatever order: what is under way to each slot then, and on each lane.
use Rattle.std.proofs.Common.{◌≡◌, ◌≢◌, ◌<◌, ◌*◌, ◌==◌, ◌++◌, if◌then◌else◌, inl, inr, ℕ, Bool, true, false, Option, Some, None, List, [], ◌∷◌, length, append_assoc, refl, ap, sym, ◌∙◌, subst}
use Rattle.std.specs.Option.{option_map, unwrap_or}
use Rattle.std.proofs.Math.ListN.{get_or, set, length-set}
use Rattle.std.proofs.lemmas.Bool.{cases_eq, eq-eqb, eqb-true, ne_eqb}
use Rattle.std.proofs.lemmas.List.{append-nil, get_or-set_same, get_or-set_other}
use Rattle.mc_signal.specs.declared.Signal.{Signal}
use Rattle.mc_signal.specs.declared.Tagged.{Tagged}
use Rattle.mc_box.specs.Boxes.{BoxState}
use Rattle.mc_laws.specs.Sendings.{sent_on, signal_on}
use Rattle.mc_model.specs.Served.{AllServed}
use Rattle.mc_model.specs.Steps.{after_push, after_sends}
use Rattle.mc_model.specs.Worlds.{WorldState, far, for_tunnel, tunnel_of, lane_of, number, place, slot_count}
use Rattle.mc_laws.proofs.ActedWorlds.{far_inside}
use Rattle.mc_laws.proofs.LanesKept.{lane_apart, lane_in, sent_another, sent_own, tagged_for}
use Rattle.mc_laws.proofs.Numbers.{some_same, far_back, number_is}
use Rattle.mc_laws.proofs.Parts.{part_else, part_here, part_more, part_none, part_of}

-- the signals under way to a slot, where the lanes are these
abbrev pub list_in : WorldState → List (List Tagged) → ℕ → List Signal
list_in world lanes s = for_tunnel (tunnel_of world s).within (get_or lanes (lane_of world s) [])

-- each slot of a world has its number
abbrev pub AreOnce : WorldState → Type 0
AreOnce world = (s : ℕ) → s < slot_count world → number world (place world s).0 (place world s).1 ≡ Some s

-- ---- one signal

-- these lanes, with a signal at the end of the lane that leads to a slot
abbrev with_signal : WorldState → List (List Tagged) → ℕ → Signal → List (List Tagged)
with_signal world lanes u signal = set lanes (lane_of world u) (get_or lanes (lane_of world u) [] ++ tagged_for (tunnel_of world u).within signal ∷ [])

pushed_here : (world : WorldState) (lanes : List (List Tagged)) (u : ℕ) (signal : Signal) → lane_of world u < length lanes
    → list_in world (with_signal world lanes u signal) u ≡ list_in world lanes u ++ signal ∷ []
pushed_here world lanes u signal inside =
    ap (for_tunnel (tunnel_of world u).within) (get_or-set_same lanes (lane_of world u) (get_or lanes (lane_of world u) [] ++ tagged_for (tunnel_of world u).within signal ∷ []) [] inside)
    ∙ sent_own (tunnel_of world u).within (get_or lanes (lane_of world u) []) (signal ∷ [])

-- several tunnels may share the lane
pushed_else : (world : WorldState) (lanes : List (List Tagged)) (u t : ℕ) (signal : Signal) → lane_of world u < length lanes → u < slot_count world → t < slot_count world → t ≢ u
    → list_in world (with_signal world lanes u signal) t ≡ list_in world lanes t
pushed_else world lanes u t signal inside one two apart =
    let more : List Tagged = get_or lanes (lane_of world u) [] ++ tagged_for (tunnel_of world u).within signal ∷ [] in
    elim (cases_eq (lane_of world t) (lane_of world u)) [
      | inl shared ↦
          ap (λ (k : ℕ). for_tunnel (tunnel_of world t).within (get_or (with_signal world lanes u signal) k [])) shared
          ∙ (ap (for_tunnel (tunnel_of world t).within) (get_or-set_same lanes (lane_of world u) more [] inside)
          ∙ (sent_another (tunnel_of world t).within (tunnel_of world u).within (get_or lanes (lane_of world u) []) (signal ∷ []) (λ same. apart (lane_apart world t u two one shared (sym same)))
          ∙ ap (λ (k : ℕ). for_tunnel (tunnel_of world t).within (get_or lanes k [])) (sym shared)))
      | inr away ↦ ap (for_tunnel (tunnel_of world t).within) (get_or-set_other lanes (lane_of world u) (lane_of world t) more [] away)
    ]

-- ---- all that is sent

pub served_append : (world : WorldState) (lane : ℕ) (first second : List Tagged) → AllServed world lane first → AllServed world lane second → AllServed world lane (first ++ second)
served_append world lane [] second one two = two
served_append world lane (tagged ∷ first) second one two = (one.0, served_append world lane first second one.1 two)

-- a signal goes to the lane that leads to the far slot
signal_by : (here : Bool) (tagged : Tagged) → here ≡ true → (if here then tagged ∷ [] else []) ++ [] ≡ tagged ∷ []
signal_by true tagged is = refl
signal_by false tagged is = absurd (cc)

on_its_lane : (world : WorldState) (who lane s : ℕ) (sending : ℕ × Signal) → number world who sending.0 ≡ Some s → lane_of world (far s) ≡ lane
    → sent_on world who lane (sending ∷ []) ≡ tagged_for (tunnel_of world (far s)).within sending.1 ∷ []
on_its_lane world who lane s sending is leads =
    ap (λ (found : Option ℕ). signal_on world lane sending.1 found ++ []) is
    ∙ signal_by (lane_of world (far s) == lane) (tagged_for (tunnel_of world (far s)).within sending.1) (eq-eqb (lane_of world (far s)) lane leads)

-- and to no other
nothing_by : (here : Bool) (tagged : Tagged) → here ≡ false → (if here then tagged ∷ [] else []) ++ [] ≡ []
nothing_by false tagged is = refl
nothing_by true tagged is = absurd (cc)

on_no_other : (world : WorldState) (who lane s : ℕ) (sending : ℕ × Signal) → number world who sending.0 ≡ Some s → lane_of world (far s) ≢ lane → sent_on world who lane (sending ∷ []) ≡ []
on_no_other world who lane s sending is other =
    ap (λ (found : Option ℕ). signal_on world lane sending.1 found ++ []) is
    ∙ nothing_by (lane_of world (far s) == lane) (tagged_for (tunnel_of world (far s)).within sending.1) (ne_eqb (lane_of world (far s)) lane other)

-- what goes to a lane is for its slots
signal_served : (here : Bool) (world : WorldState) (lane s : ℕ) (signal : Signal) → here ≡ (lane_of world (far s) == lane) → far s < slot_count world
    → AllServed world lane (if here then tagged_for (tunnel_of world (far s)).within signal ∷ [] else [])
signal_served true world lane s signal is inside = ((far s, record { inside = inside; leads = eqb-true (lane_of world (far s)) lane (sym is); within = refl }), tt)
signal_served false world lane s signal is inside = tt

one_served : (found : Option ℕ) (world : WorldState) (who local lane : ℕ) (signal : Signal) → number world who local ≡ found → AllServed world lane (signal_on world lane signal found)
one_served None world who local lane signal is = tt
one_served (Some s) world who local lane signal is = signal_served (lane_of world (far s) == lane) world lane s signal refl (far_inside world s (number_is world who local s is).0)

pub sent_served : (sendings : List (ℕ × Signal)) (world : WorldState) (who lane : ℕ) → AllServed world lane (sent_on world who lane sendings)
sent_served [] world who lane = tt
sent_served (sending ∷ rest) world who lane =
    served_append world lane (signal_on world lane sending.1 (number world who sending.0)) (sent_on world who lane rest)
    (one_served (number world who sending.0) world who sending.0 lane sending.1 refl) (sent_served rest world who lane)

-- to each slot has come what the slot at the other end of its tunnel has sent, in order, and to each lane what goes there
pub record Sent (world : WorldState) (lanes : List (List Tagged)) (who : ℕ) (sendings : List (ℕ × Signal)) (after : List (List Tagged)) : Type 0 where
  pub count : length after ≡ length lanes
  pub lists : (t : ℕ) → t < slot_count world → list_in world after t ≡ list_in world lanes t ++ part_of who (place world (far t)) sendings
  pub grown : (lane : ℕ) → get_or after lane [] ≡ get_or lanes lane [] ++ sent_on world who lane sendings

-- nothing came
none_came : (world : WorldState) (lanes : List (List Tagged)) (who : ℕ) (sendings : List (ℕ × Signal)) → ((t : ℕ) → t < slot_count world → part_of who (place world (far t)) sendings ≡ [])
    → ((lane : ℕ) → sent_on world who lane sendings ≡ []) → Sent world lanes who sendings lanes
none_came world lanes who sendings none nothing = record {
  count = refl;
  lists = λ t within. sym (ap (λ (part : List Signal). list_in world lanes t ++ part) (none t within) ∙ append-nil (list_in world lanes t));
  grown = λ lane. sym (ap (λ (more : List Tagged). get_or lanes lane [] ++ more) (nothing lane) ∙ append-nil (get_or lanes lane []));
}

nothing_is : (s : ℕ) → None ≡ Some s → ⊥
nothing_is s is = cc

-- where a slot has the place, its number is found
place_found : (world : WorldState) (who local t : ℕ) → AreOnce world → t < slot_count world → (place world t).0 ≡ who → (place world t).1 ≡ local → number world who local ≡ Some t
place_found world who local t once within is local_is =
    let own : number world (place world t).0 (place world t).1 ≡ Some t = once t within in
    rw (is, local_is) at own

-- by a local number that the box doesn't have nothing is sent
unknown_sends : (world : WorldState) (lanes : List (List Tagged)) (who : ℕ) (sending : ℕ × Signal) → AreOnce world → number world who sending.0 ≡ None → Sent world lanes who (sending ∷ []) lanes
unknown_sends world lanes who sending once none =
    none_came world lanes who (sending ∷ [])
    (λ t within. part_else who (place world (far t)) sending
    (λ is local. nothing_is (far t) (sym none ∙ place_found world who sending.0 (far t) once (far_inside world t within) is local)))
    (λ lane. ap (λ (found : Option ℕ). signal_on world lane sending.1 found ++ []) none)

-- one sending of slot s
slot_sends : (world : WorldState) (lanes : List (List Tagged)) (who s : ℕ) (sending : ℕ × Signal) → AreOnce world → length lanes ≡ 2 * length world.channels → number world who sending.0 ≡ Some s
    → Sent world lanes who (sending ∷ []) (with_signal world lanes (far s) sending.1)
slot_sends world lanes who s sending once count is =
    let found = number_is world who sending.0 s is in
    let away : far s < slot_count world = far_inside world s found.0 in
    let inside : lane_of world (far s) < length lanes = subst (λ (n : ℕ). lane_of world (far s) < n) (sym count) (lane_in world (far s) away) in
    let tagged : Tagged = tagged_for (tunnel_of world (far s)).within sending.1 in
    record {
      count = length-set lanes (lane_of world (far s)) (get_or lanes (lane_of world (far s)) [] ++ tagged ∷ []);
      lists = λ t within. elim (cases_eq t (far s)) [
        | inl same ↦
            let back : far t ≡ s = ap far same ∙ far_back s in
            let part : part_of who (place world (far t)) (sending ∷ []) ≡ sending.1 ∷ [] =
            ap (λ (u : ℕ). part_of who (place world u) (sending ∷ [])) back ∙ part_here who (place world s) sending found.1 found.2 in
            subst (λ (u : ℕ). list_in world (with_signal world lanes (far s) sending.1) u ≡ list_in world lanes u ++ part_of who (place world (far t)) (sending ∷ [])) (sym same)
            (pushed_here world lanes (far s) sending.1 inside ∙ ap (λ (l : List Signal). list_in world lanes (far s) ++ l) (sym part))
        | inr apart ↦
            let part : part_of who (place world (far t)) (sending ∷ []) ≡ [] =
            part_else who (place world (far t)) sending
            (λ at local. apart (sym (far_back t) ∙ ap far (some_same (far t) s (sym (place_found world who sending.0 (far t) once (far_inside world t within) at local) ∙ is)))) in
            pushed_else world lanes (far s) t sending.1 inside away within apart
            ∙ sym (ap (λ (l : List Signal). list_in world lanes t ++ l) part ∙ append-nil (list_in world lanes t))
      ];
      grown = λ lane. elim (cases_eq lane (lane_of world (far s))) [
        | inl same ↦
            subst (λ (k : ℕ). get_or (with_signal world lanes (far s) sending.1) k [] ≡ get_or lanes k [] ++ tagged ∷ []) (sym same)
            (get_or-set_same lanes (lane_of world (far s)) (get_or lanes (lane_of world (far s)) [] ++ tagged ∷ []) [] inside)
            ∙ ap (λ (more : List Tagged). get_or lanes lane [] ++ more) (sym (on_its_lane world who lane s sending is (sym same)))
        | inr other ↦
            get_or-set_other lanes (lane_of world (far s)) lane (get_or lanes (lane_of world (far s)) [] ++ tagged ∷ []) [] other
            ∙ sym (ap (λ (more : List Tagged). get_or lanes lane [] ++ more) (on_no_other world who lane s sending is (λ same. other (sym same))) ∙ append-nil (get_or lanes lane []))
      ];
    }

-- a sending, and then the others
both_sent : (world : WorldState) (lanes middle after : List (List Tagged)) (who : ℕ) (sending : ℕ × Signal) (rest : List (ℕ × Signal))
    → Sent world lanes who (sending ∷ []) middle → Sent world middle who rest after → Sent world lanes who (sending ∷ rest) after
both_sent world lanes middle after who sending rest one two = record {
  count = two.count ∙ one.count;
  lists = λ t within.
      two.lists t within
      ∙ (ap (λ (l : List Signal). l ++ part_of who (place world (far t)) rest) (one.lists t within)
      ∙ (append_assoc (list_in world lanes t) (part_of who (place world (far t)) (sending ∷ [])) (part_of who (place world (far t)) rest)
      ∙ ap (λ (l : List Signal). list_in world lanes t ++ l) (sym (part_more who (place world (far t)) sending rest))));
  grown = λ lane.
      two.grown lane
      ∙ (ap (λ (l : List Tagged). l ++ sent_on world who lane rest) (one.grown lane)
      ∙ (append_assoc (get_or lanes lane []) (sent_on world who lane (sending ∷ [])) (sent_on world who lane rest)
      ∙ ap (λ (l : List Tagged). get_or lanes lane [] ++ l)
      (ap (λ (l : List Tagged). l ++ sent_on world who lane rest) (append-nil (signal_on world lane sending.1 (number world who sending.0))))));
}

-- what a box sends in a world with these boxes and lanes
abbrev pub SendsOut : WorldState → List BoxState → List (List Tagged) → ℕ → List (ℕ × Signal) → Type 0
SendsOut world boxes lanes who sendings =
    (after : List (List Tagged)) × (after_sends (record world { boxes = boxes; lanes = lanes }) who sendings ≡ record world { boxes = boxes; lanes = after }) × Sent world lanes who sendings after

-- where its first sending goes
first_sent : (found : Option ℕ) (world : WorldState) (boxes : List BoxState) (lanes : List (List Tagged)) (who : ℕ) (sending : ℕ × Signal) → AreOnce world → length lanes ≡ 2 * length world.channels
    → number world who sending.0 ≡ found
    → (middle : List (List Tagged))
    × (unwrap_or (option_map (λ s. after_push (record world { boxes = boxes; lanes = lanes }) sending.1 (far s)) found) (record world { boxes = boxes; lanes = lanes }) ≡ record world { boxes = boxes; lanes = middle })
    × Sent world lanes who (sending ∷ []) middle
first_sent None world boxes lanes who sending once count is = (lanes, refl, unknown_sends world lanes who sending once is)
first_sent (Some s) world boxes lanes who sending once count is = (with_signal world lanes (far s) sending.1, refl, slot_sends world lanes who s sending once count is)

pub sends_out : (sendings : List (ℕ × Signal)) (world : WorldState) (boxes : List BoxState) (lanes : List (List Tagged)) (who : ℕ) → AreOnce world → length lanes ≡ 2 * length world.channels
    → SendsOut world boxes lanes who sendings
sends_out [] world boxes lanes who once count = (lanes, refl, none_came world lanes who [] (λ t within. part_none who (place world (far t))) (λ lane. refl))
sends_out (sending ∷ rest) world boxes lanes who once count =
    let one = first_sent (number world who sending.0) world boxes lanes who sending once count refl in
    let two = sends_out rest world boxes one.0 who once (one.2.count ∙ count) in
    (two.0, ap (λ (w : WorldState). after_sends w who rest) one.1 ∙ two.1, both_sent world lanes one.0 two.0 who sending rest one.2 two.2)
