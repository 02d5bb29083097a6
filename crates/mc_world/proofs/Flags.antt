-- The flags of slots, where one lane changes.
use Rattle.std.proofs.Common.{◌≡◌, ◌≢◌, ◌<◌, ◌+◌, ◌*◌, ◌&&◌, nat_lt, inl, inr, ℕ, Bool, true, false, List, [], ◌∷◌, ◌++◌, length, get_or, Some, ◌≤◌, ◌-◌, refl, ap, sym, ◌∙◌, subst, arith}
use Rattle.std.specs.List.{slice_get}
use Rattle.std.specs.Option.{is_some}
use Rattle.std.proofs.Math.ListN.{replicate, set}
use Rattle.std.proofs.lemmas.Bool.{cases_eq}
use Rattle.std.proofs.lemmas.Grind.{common_steps}
use Rattle.std.proofs.lemmas.List.{get_or-replicate, get_or-set_other, get_or-set_same, length-set, set-set}
use Rattle.mc_signal.specs.declared.Tagged.{Tagged}
use Rattle.mc_laws.proofs.StepGoes.{below_test}
use Rattle.mc_model.specs.Worlds.{front_for}
use Rattle.mc_world.specs.Lanes.{IsLaid, lane_by, tunnel_by}
use Rattle.mc_world.specs.Waiting.{AreFlagged, FirstServed, IsForBy, waits_by}
use Rattle.mc_world.specs.declared.topology.Topology.{Topology}

-- ---- the front of one lane

front_own : (tagged : Tagged) (rest : List Tagged) (tunnel : ℕ) → tunnel ≡ tagged.tunnel → is_some (front_for tunnel (tagged ∷ rest)) ≡ true
front_own tagged rest tunnel is = grind (arith, common_steps)

front_apart : (tagged : Tagged) (rest : List Tagged) (tunnel : ℕ) → tunnel ≢ tagged.tunnel → is_some (front_for tunnel (tagged ∷ rest)) ≡ false
front_apart tagged rest tunnel apart = grind (arith, common_steps)

-- it is for one tunnel
front_once : (lane : List Tagged) (one other : ℕ) → is_some (front_for one lane) ≡ true → other ≢ one → is_some (front_for other lane) ≡ false
front_once [] one other is apart = refl
front_once (tagged ∷ rest) one other is apart = grind (arith, common_steps)

-- and stays while signals come after it
front_stays : (lane more : List Tagged) (tunnel : ℕ) → lane ≢ [] → front_for tunnel (lane ++ more) ≡ front_for tunnel lane
front_stays [] more tunnel some = absurd (some refl)
front_stays (tagged ∷ rest) more tunnel some = refl

-- ---- one lane among others

-- slots of one lane and one tunnel are the same
same_slot : (topology : Topology) (count s t : ℕ) → IsLaid topology count → s < length topology.places.items → t < length topology.places.items → lane_by topology s ≡ lane_by topology t
    → tunnel_by topology s ≡ tunnel_by topology t → s ≡ t
same_slot topology count s t laid one two lane tunnel = let run = laid.follow s t one two lane in omega (arith, run, tunnel)

waits_here : (topology : Topology) (lanes : List (List Tagged)) (k s : ℕ) (new : List Tagged) → lane_by topology s ≡ k → k < length lanes
    → waits_by topology (set lanes k new) s ≡ is_some (front_for (tunnel_by topology s) new)
waits_here topology lanes k s new is here =
    ap (λ (j : ℕ). is_some (front_for (tunnel_by topology s) (get_or (set lanes k new) j []))) is
    ∙ ap (λ (lane : List Tagged). is_some (front_for (tunnel_by topology s) lane)) (get_or-set_same lanes k new [] here)

waits_there : (topology : Topology) (lanes : List (List Tagged)) (k s : ℕ) (new : List Tagged) → lane_by topology s ≢ k
    → waits_by topology (set lanes k new) s ≡ waits_by topology lanes s
waits_there topology lanes k s new apart = ap (λ (lane : List Tagged). is_some (front_for (tunnel_by topology s) lane)) (get_or-set_other lanes k (lane_by topology s) new [] apart)

-- a slot takes the front of its lane: with nothing there, no slot of the lane has a flag
pub flags_taken : (topology : Topology) (lanes : List (List Tagged)) (flags : List Bool) (count s : ℕ) → IsLaid topology count → AreFlagged topology lanes flags → s < length topology.places.items
    → s < length flags → lane_by topology s < length lanes → waits_by topology lanes s ≡ true → AreFlagged topology (set lanes (lane_by topology s) []) (set flags s false)
flags_taken topology lanes flags count s laid flagged below here lane waits t inside = elim (cases_eq t s) [
  | inl is ↦
      subst (λ (n : ℕ). get_or (set flags s false) n false ≡ waits_by topology (set lanes (lane_by topology s) []) n) (sym is)
      (get_or-set_same flags s false false here ∙ sym (waits_here topology lanes (lane_by topology s) s [] refl lane))
  | inr apart ↦
      get_or-set_other flags s t false false apart
      ∙ (flagged t inside
      ∙ (elim (cases_eq (lane_by topology t) (lane_by topology s)) [
        | inl same ↦
            ap (λ (j : ℕ). is_some (front_for (tunnel_by topology t) (get_or lanes j []))) same
            ∙ (front_once (get_or lanes (lane_by topology s) []) (tunnel_by topology s) (tunnel_by topology t) waits (λ tunnel. apart (same_slot topology count t s laid inside below same tunnel))
            ∙ sym (waits_here topology lanes (lane_by topology s) t [] same lane))
        | inr other ↦ sym (waits_there topology lanes (lane_by topology s) t [] other)
      ]))
]

-- a signal is the first in a lane
pub flags_begun : (topology : Topology) (lanes : List (List Tagged)) (flags : List Bool) (count k s : ℕ) (tagged : Tagged) (rest : List Tagged) → IsLaid topology count → AreFlagged topology lanes flags
    → k < length lanes → get_or lanes k [] ≡ [] → s < length flags → IsForBy topology k tagged s → AreFlagged topology (set lanes k (tagged ∷ rest)) (set flags s true)
flags_begun topology lanes flags count k s tagged rest laid flagged lane none here for t inside = elim (cases_eq t s) [
  | inl is ↦
      subst (λ (n : ℕ). get_or (set flags s true) n false ≡ waits_by topology (set lanes k (tagged ∷ rest)) n) (sym is)
      (get_or-set_same flags s true false here ∙ sym (waits_here topology lanes k s (tagged ∷ rest) for.leads lane ∙ front_own tagged rest (tunnel_by topology s) for.within))
  | inr apart ↦
      get_or-set_other flags s t true false apart
      ∙ (flagged t inside
      ∙ (elim (cases_eq (lane_by topology t) k) [
        | inl same ↦
            ap (λ (j : ℕ). is_some (front_for (tunnel_by topology t) (get_or lanes j []))) same
            ∙ (ap (λ (l : List Tagged). is_some (front_for (tunnel_by topology t) l)) none
            ∙ sym (waits_here topology lanes k t (tagged ∷ rest) same lane
            ∙ front_apart tagged rest (tunnel_by topology t) (λ tunnel. apart (same_slot topology count t s laid inside for.inside (same ∙ sym for.leads) (tunnel ∙ sym for.within)))))
        | inr other ↦ sym (waits_there topology lanes k t (tagged ∷ rest) other)
      ]))
]

-- signals come after others
pub flags_stay : (topology : Topology) (lanes : List (List Tagged)) (flags : List Bool) (k : ℕ) (more : List Tagged) → AreFlagged topology lanes flags → k < length lanes → get_or lanes k [] ≢ []
    → AreFlagged topology (set lanes k (get_or lanes k [] ++ more)) flags
flags_stay topology lanes flags k more flagged lane some t inside =
    flagged t inside
    ∙ (elim (cases_eq (lane_by topology t) k) [
      | inl same ↦
          ap (λ (j : ℕ). is_some (front_for (tunnel_by topology t) (get_or lanes j []))) same
          ∙ (ap is_some (sym (front_stays (get_or lanes k []) more (tunnel_by topology t) some)) ∙ sym (waits_here topology lanes k t (get_or lanes k [] ++ more) same lane))
      | inr other ↦ sym (waits_there topology lanes k t (get_or lanes k [] ++ more) other)
    ])

-- in an empty lane no slot has a flag
pub no_flag : (topology : Topology) (lanes : List (List Tagged)) (flags : List Bool) (k s : ℕ) → AreFlagged topology lanes flags → s < length topology.places.items → lane_by topology s ≡ k → get_or lanes k [] ≡ []
    → get_or flags s false ≡ false
no_flag topology lanes flags k s flagged below is none =
    flagged s below
    ∙ (ap (λ (j : ℕ). is_some (front_for (tunnel_by topology s) (get_or lanes j []))) is ∙ ap (λ (l : List Tagged). is_some (front_for (tunnel_by topology s) l)) none)

-- nor has the next one of a lane that is emptied
pub none_next : (topology : Topology) (lanes : List (List Tagged)) (flags : List Bool) (count s next : ℕ) → IsLaid topology count → AreFlagged topology lanes flags → s < length topology.places.items
    → length flags ≡ length topology.places.items → lane_by topology s < length lanes → waits_by topology lanes s ≡ true → next < length topology.places.items → lane_by topology next ≡ lane_by topology s
    → get_or (set flags s false) next false ≡ false
none_next topology lanes flags count s next laid flagged below long lane waits inside leads =
    no_flag topology (set lanes (lane_by topology s) []) (set flags s false) (lane_by topology s) next (flags_taken topology lanes flags count s laid flagged below (omega (arith, below, long)) lane waits) inside leads
    (get_or-set_same lanes (lane_by topology s) [] [] lane)

-- ---- the front of a lane goes

-- the signal that comes first then is for some slot
first_served : (topology : Topology) (k : ℕ) (lane : List Tagged) (tagged : Tagged) → slice_get lane 0 ≡ Some tagged → FirstServed topology k lane → (s : ℕ) × IsForBy topology k tagged s
first_served topology k [] tagged is served = absurd (cc)
first_served topology k (first ∷ rest) tagged is served = let same : first ≡ tagged = cc in subst (λ (t : Tagged). (s : ℕ) × IsForBy topology k t s) same served

-- the number of that slot
pub record IsNext (topology : Topology) (s : ℕ) (tagged : Tagged) : Type 0 where
  pub low : 2 * tunnel_by topology s ≤ s + 2 * tagged.tunnel
  pub for : IsForBy topology (lane_by topology s) tagged (s + 2 * tagged.tunnel - 2 * tunnel_by topology s)

run_low : (s t own other tunnel : ℕ) → s + 2 * other ≡ t + 2 * own → other ≡ tunnel → 2 * own ≤ s + 2 * tunnel
run_low s t own other tunnel run is = omega arith

run_is : (s t own other tunnel : ℕ) → s + 2 * other ≡ t + 2 * own → other ≡ tunnel → t ≡ s + 2 * tunnel - 2 * own
run_is s t own other tunnel run is = omega arith

pub next_is : (topology : Topology) (count s : ℕ) (lane : List Tagged) (tagged : Tagged) → IsLaid topology count → s < length topology.places.items → slice_get lane 0 ≡ Some tagged
    → FirstServed topology (lane_by topology s) lane → IsNext topology s tagged
next_is topology count s lane tagged laid below is served =
    let first = first_served topology (lane_by topology s) lane tagged is served in
    let run : s + 2 * tunnel_by topology first.0 ≡ first.0 + 2 * tunnel_by topology s = laid.follow s first.0 below first.1.inside (sym first.1.leads) in
    record {
      low = run_low s first.0 (tunnel_by topology s) (tunnel_by topology first.0) tagged.tunnel run first.1.within;
      for = subst (λ (t : ℕ). IsForBy topology (lane_by topology s) tagged t) (run_is s first.0 (tunnel_by topology s) (tunnel_by topology first.0) tagged.tunnel run first.1.within) first.1;
    }

-- nothing is after it
pub flags_last : (topology : Topology) (lanes : List (List Tagged)) (old new : List Bool) (count s : ℕ) (rest : List Tagged) → IsLaid topology count → AreFlagged topology lanes old → s < length topology.places.items
    → s < length old → lane_by topology s < length lanes → waits_by topology lanes s ≡ true → new ≡ set old s false → rest ≡ [] → AreFlagged topology (set lanes (lane_by topology s) rest) new
flags_last topology lanes old new count s rest laid flagged below here lane waits is none =
    rw (is, none) (flags_taken topology lanes old count s laid flagged below here lane waits)

-- another signal is
next_flagged : (topology : Topology) (lanes : List (List Tagged)) (flags : List Bool) (count s next : ℕ) (rest : List Tagged) (tagged : Tagged) → IsLaid topology count → AreFlagged topology (set lanes (lane_by topology s) []) flags
    → lane_by topology s < length lanes → next < length flags → slice_get rest 0 ≡ Some tagged → IsForBy topology (lane_by topology s) tagged next → AreFlagged topology (set lanes (lane_by topology s) rest) (set flags next true)
next_flagged topology lanes flags count s next [] tagged laid flagged lane here is for = absurd (cc)
next_flagged topology lanes flags count s next (first ∷ rest) tagged laid flagged lane here is for =
    let same : tagged ≡ first = cc in
    subst (λ (l : List (List Tagged)). AreFlagged topology l (set flags next true)) (set-set lanes (lane_by topology s) [] (first ∷ rest))
    (flags_begun topology (set lanes (lane_by topology s) []) flags count (lane_by topology s) next first rest laid flagged (rw (length-set lanes (lane_by topology s) []) lane) (get_or-set_same lanes (lane_by topology s) [] [] lane) here
    (subst (λ (t : Tagged). IsForBy topology (lane_by topology s) t next) same for))

pub flags_next : (topology : Topology) (lanes : List (List Tagged)) (old mid new : List Bool) (count s next : ℕ) (rest : List Tagged) (tagged : Tagged) → IsLaid topology count → AreFlagged topology lanes old → s < length topology.places.items
    → length old ≡ length topology.places.items → lane_by topology s < length lanes → waits_by topology lanes s ≡ true → mid ≡ set old s false → new ≡ set mid next true → slice_get rest 0 ≡ Some tagged
    → FirstServed topology (lane_by topology s) rest → next ≡ s + 2 * tagged.tunnel - 2 * tunnel_by topology s → AreFlagged topology (set lanes (lane_by topology s) rest) new
flags_next topology lanes old mid new count s next rest tagged laid flagged below long lane waits mid_is new_is is served next_here =
    let for : IsForBy topology (lane_by topology s) tagged next = subst (λ (t : ℕ). IsForBy topology (lane_by topology s) tagged t) (sym next_here) (next_is topology count s rest tagged laid below is served).for in
    let taken : AreFlagged topology (set lanes (lane_by topology s) []) mid = rw mid_is (flags_taken topology lanes old count s laid flagged below (omega (arith, below, long)) lane waits) in
    let size : length mid ≡ length topology.places.items = ap length mid_is ∙ (length-set old s false ∙ long) in
    rw new_is (next_flagged topology lanes mid count s next rest tagged laid taken lane (omega (arith, for.inside, size)) is for)

-- ---- flags that are set one after another

-- the first so many slots have their flags, and the others have none
abbrev pub FlaggedTo : Topology → List (List Tagged) → List Bool → ℕ → Type 0
FlaggedTo topology lanes flags n = (s : ℕ) → s < length topology.places.items → get_or flags s false ≡ (nat_lt s n && waits_by topology lanes s)

not_below : (s n : ℕ) → n ≤ s → nat_lt s n ≡ false
not_below s n above = grind (arith, common_steps)

below_more : (s n : ℕ) → s ≢ n → nat_lt s n ≡ nat_lt s (n + 1)
below_more s n apart = grind (arith, common_steps)

-- at first there is none
pub flagged_none : (topology : Topology) (lanes : List (List Tagged)) (flags : List Bool) → flags ≡ replicate (length topology.places.items) false → FlaggedTo topology lanes flags 0
flagged_none topology lanes flags clear s below =
    ap (λ (l : List Bool). get_or l s false) clear
    ∙ (get_or-replicate (length topology.places.items) s false false below ∙ sym (ap (λ (b : Bool). b && waits_by topology lanes s) (not_below s 0 (omega arith))))

-- the next slot gets its flag
pub flagged_set : (topology : Topology) (lanes : List (List Tagged)) (flags after : List Bool) (n : ℕ) → FlaggedTo topology lanes flags n → n < length flags → waits_by topology lanes n ≡ true → after ≡ set flags n true
    → FlaggedTo topology lanes after (n + 1)
flagged_set topology lanes flags after n flagged inside waits is s below =
    ap (λ (l : List Bool). get_or l s false) is
    ∙ (elim (cases_eq s n) [
      | inl same ↦
          subst (λ (t : ℕ). get_or (set flags n true) t false ≡ (nat_lt t (n + 1) && waits_by topology lanes t)) (sym same)
          (get_or-set_same flags n true false inside ∙ sym (ap (λ (b : Bool). b && waits_by topology lanes n) (below_test n (n + 1) (omega arith)) ∙ waits))
      | inr apart ↦ get_or-set_other flags n s true false apart ∙ (flagged s below ∙ ap (λ (b : Bool). b && waits_by topology lanes s) (below_more s n apart))
    ])

-- or needs none
pub flagged_skip : (topology : Topology) (lanes : List (List Tagged)) (flags : List Bool) (n : ℕ) → FlaggedTo topology lanes flags n → n < length topology.places.items → waits_by topology lanes n ≡ false
    → FlaggedTo topology lanes flags (n + 1)
flagged_skip topology lanes flags n flagged here waits s below = elim (cases_eq s n) [
  | inl same ↦
      subst (λ (t : ℕ). get_or flags t false ≡ (nat_lt t (n + 1) && waits_by topology lanes t)) (sym same)
      (flagged n here
      ∙ (ap (λ (b : Bool). b && waits_by topology lanes n) (not_below n n (omega arith)) ∙ sym (ap (λ (b : Bool). b && waits_by topology lanes n) (below_test n (n + 1) (omega arith)) ∙ waits)))
  | inr apart ↦ flagged s below ∙ ap (λ (b : Bool). b && waits_by topology lanes s) (below_more s n apart)
]

-- at last each has it
pub flagged_all : (topology : Topology) (lanes : List (List Tagged)) (flags : List Bool) (n : ℕ) → length topology.places.items ≤ n → FlaggedTo topology lanes flags n → AreFlagged topology lanes flags
flagged_all topology lanes flags n all flagged s below =
    flagged s below ∙ ap (λ (b : Bool). b && waits_by topology lanes s) (below_test s n (omega (arith, below, all)))
