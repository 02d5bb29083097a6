-- No stamp is above the number of entries: below each stamp above 1 stands another, of the entry before it or of the one that sent what it took.
use Rattle.std.proofs.Common.{◌≡◌, ◌⊎◌, inl, inr, ℕ, zero, suc, ◌+◌, ◌<◌, ◌≤◌, max, List, [], ◌∷◌, ◌++◌, length, length-append, map, get_or, Option, Some, None, refl, ap, ap₂, sym, ◌∙◌, subst, arith}
use Rattle.std.specs.List.{AllByRecursion, Contains}
use Rattle.std.proofs.lemmas.Bool.{cases_lt}
use Rattle.std.proofs.lemmas.List.Elements.{All-contains, Contains-append_cases, Contains-append_left, Contains-append_right, Contains-get_or}
use Rattle.std.proofs.lemmas.List.Sums.{sum_by-cons}
use Rattle.mc_signal.specs.declared.Signal.{Signal}
use Rattle.mc_signal.specs.declared.Tagged.{Tagged}
use Rattle.mc_box.specs.BoxEvents.{box_event}
use Rattle.mc_box.specs.Boxes.{BoxState, no_box}
use Rattle.mc_box.specs.declared.event.Event.{Event}
use Rattle.mc_box.specs.declared.event.Event.TheVariants.{Take}
use Rattle.mc_box.proofs.Options.{map_some}
use Rattle.mc_laws.proofs.LanesKept.{lane_in}
use Rattle.mc_laws.proofs.Numbers.{number_is}
use Rattle.mc_port.specs.Entries.{AreMade, AreStamped, Claimed, Entry, claim_of, entries_of, signal_in, stamps_of}
use Rattle.mc_port.specs.Tunnels.{Tunnels, event_sends, log_sends, log_takes, sent_if}
use Rattle.mc_merge.specs.Claims.{ClaimedSendsFit, ClaimedStampsFit, IsClaimed, all_stamps, entry_count}
use Rattle.mc_merge.specs.LaneLogs.{claimed_of, claims_from, log_of, logs_of, sent_to}
use Rattle.mc_merge.specs.Lanes.{FitsTunnel, into_box, leads_from, leads_to, out_of_box}
use Rattle.mc_merge.proofs.Claims.{logs_at}
use Rattle.mc_merge.proofs.EntrySteps.{tagged_here, takes_from, takes_is}
use Rattle.mc_merge.proofs.LaneEnds.{taker_is}
use Rattle.mc_model.specs.Worlds.{WorldState, box_at, lane_of, number, tunnel_of}
use Rattle.mc_order.proofs.StampCounts.{stamps_fit}
use Rattle.mc_port.specs.Ends.{with_stamp}
use Rattle.mc_port.specs.declared.stamped.Stamped.{Stamped}

-- ---- members of lists

none_there : {X : Type 0} (x : X) → Contains [] x → ⊥
none_there x has =
    let below : has.0 < 0 = has.1 in
    omega arith

more_there : {X : Type 0} (first : X) (xs : List X) (x : X) → Contains xs x → Contains (first ∷ xs) x
more_there first xs x has =
    let below : has.0 < length xs = has.1 in
    (suc has.0, omega arith, has.2)

first_there : {X : Type 0} (first : X) (xs : List X) (x : X) → first ≡ x → Contains (first ∷ xs) x
first_there first xs x is = (0, omega arith, is)

-- ---- the stamps of all logs

to_all : (logs : List (List Claimed)) (who stamp : ℕ) → Contains (stamps_of (entries_of (claimed_of logs who))) stamp → Contains (all_stamps logs) stamp
to_all [] who stamp has = absurd (none_there stamp has)
to_all (log ∷ logs) zero stamp has = Contains-append_left (stamps_of (entries_of log)) (all_stamps logs) stamp has
to_all (log ∷ logs) (suc who) stamp has = Contains-append_right (stamps_of (entries_of log)) (all_stamps logs) stamp (to_all logs who stamp has)

abbrev FromOne : List (List Claimed) → ℕ → Type 0
FromOne logs stamp = (who : ℕ) × (who < length logs) × Contains (stamps_of (entries_of (claimed_of logs who))) stamp

from_all : (logs : List (List Claimed)) (stamp : ℕ) → Contains (all_stamps logs) stamp → FromOne logs stamp
from_all [] stamp has = absurd (none_there stamp has)
from_all (log ∷ logs) stamp has = elim (Contains-append_cases (stamps_of (entries_of log)) (all_stamps logs) stamp has) [
  | inl here ↦ (0, omega arith, here)
  | inr there ↦
      let rest = from_all logs stamp there in
      let below : rest.0 < length logs = rest.1 in
      (suc rest.0, omega arith, rest.2)
]

-- ---- where a stamp comes from

-- from the sending of what was taken
record Source (world : WorldState) (who : ℕ) (log : List Claimed) (k : ℕ) : Type 0 where
  local : ℕ
  s : ℕ
  tagged : Tagged
  numbered : number world who local ≡ Some s
  claims : Contains (log_takes (into_box world who (lane_of world s)) log) (with_stamp k tagged)

abbrev Origin : WorldState → ℕ → ℕ → List Claimed → ℕ → Type 0
Origin world who before log k = (before ≡ k) ⊎ (Contains (stamps_of (entries_of log)) k ⊎ Source world who log k)

max_is : (a b k : ℕ) → suc k ≡ max a b + 1 → (a ≡ k) ⊎ (b ≡ k)
max_is a b k is = elim (cases_lt a b) [
  | inl below ↦ inr (omega arith)
  | inr above ↦ inl (omega arith)
]

claim_source : (event : Event) (taken : Option Tagged) (world : WorldState) (who : ℕ) (box : BoxState) (claimed : Claimed) (log : List Claimed) (k : ℕ) → claimed.entry.event ≡ event → claimed.entry.taken ≡ taken
    → box_event box event (signal_in taken) ≡ Some (record { sent = claimed.entry.sent; after = claimed.entry.after }) → FitsTunnel world who event taken → claim_of taken claimed.claim ≡ suc k
    → Source world who (claimed ∷ log) (suc k)
claim_source (Take local) None world who box claimed log k event_is taken_is goes fits claim = absurd (cc)
claim_source (Take local) (Some tagged) world who box claimed log k event_is taken_is goes fits claim =
    let found = map_some (λ (s : ℕ). (tunnel_of world s).within) (number world who local) tagged.tunnel fits in
    let takes : takes_from world (lane_of world found.0) who claimed.entry.event claimed.entry.taken ≡ tagged ∷ [] =
    ap (λ (e : Event). takes_from world (lane_of world found.0) who e claimed.entry.taken) event_is
    ∙ (ap (λ (t : Option Tagged). takes_from world (lane_of world found.0) who (Take local) t) taken_is
    ∙ (takes_is world who local found.0 (lane_of world found.0) tagged found.1 ∙ tagged_here (lane_of world found.0) tagged (lane_of world found.0) refl)) in
    let all : log_takes (into_box world who (lane_of world found.0)) (claimed ∷ log) ≡ with_stamp claimed.claim tagged ∷ log_takes (into_box world who (lane_of world found.0)) log =
    ap (λ (l : List Tagged). map (with_stamp claimed.claim) l ++ log_takes (into_box world who (lane_of world found.0)) log) takes in
    record {
      local = local;
      s = found.0;
      tagged = tagged;
      numbered = found.1;
      claims = subst (λ (l : List Stamped). Contains l (with_stamp (suc k) tagged)) (sym all)
          (first_there (with_stamp claimed.claim tagged) (log_takes (into_box world who (lane_of world found.0)) log) (with_stamp (suc k) tagged) (ap (λ (n : ℕ). with_stamp n tagged) claim));
    }
claim_source event None world who box claimed log k event_is taken_is goes fits claim = absurd (cc)
claim_source event (Some tagged) world who box claimed log k event_is taken_is goes fits claim = absurd (cc)

origin_more : (world : WorldState) (who before k : ℕ) (claimed : Claimed) (log : List Claimed) → Origin world who claimed.entry.stamp log k → Origin world who before (claimed ∷ log) k
origin_more world who before k claimed log from = elim from [
  | inl here ↦ inr (inl (first_there claimed.entry.stamp (stamps_of (entries_of log)) k here))
  | inr later ↦ elim later [
    | inl there ↦ inr (inl (more_there claimed.entry.stamp (stamps_of (entries_of log)) k there))
    | inr source ↦
        inr (inr (record {
          local = source.local;
          s = source.s;
          tagged = source.tagged;
          numbered = source.numbered;
          claims = Contains-append_right (map (with_stamp claimed.claim) (takes_from world (lane_of world source.s) who claimed.entry.event claimed.entry.taken)) (log_takes (into_box world who (lane_of world source.s)) log) (with_stamp k source.tagged) source.claims;
        }))
  ]
]

origin : (log : List Claimed) (world : WorldState) (who before : ℕ) (box last : BoxState) (i d k : ℕ) → AreStamped before log → AreMade box (entries_of log) last
    → AllByRecursion (λ (claimed : Claimed). FitsTunnel world who claimed.entry.event claimed.entry.taken) log → i < length (stamps_of (entries_of log)) → get_or (stamps_of (entries_of log)) i d ≡ suc (suc k)
    → Origin world who before log (suc k)
origin [] world who before box last i d k stamps made fits below is = absurd (omega arith)
origin (claimed ∷ log) world who before box last zero d k stamps made fits below is = elim (max_is before (claim_of claimed.entry.taken claimed.claim) (suc k) (sym is ∙ stamps.0)) [
  | inl same ↦ inl same
  | inr claim ↦ inr (inr (claim_source claimed.entry.event claimed.entry.taken world who box claimed log k refl refl made.0 fits.0 claim))
]
origin (claimed ∷ log) world who before box last (suc i) d k stamps made fits below is =
    origin_more world who before (suc k) claimed log (origin log world who claimed.entry.stamp claimed.entry.after last i d k stamps.1 made.1 fits.1 (omega arith) is)

-- ---- the sending

in_unstamped : (lane : List Tagged) (x : Stamped) → Contains (map (with_stamp 0) lane) x → x.stamp ≡ 0
in_unstamped [] x has = absurd (none_there x has)
in_unstamped (tagged ∷ lane) x (zero, below, is) = ap (λ (s : Stamped). s.stamp) (sym is)
in_unstamped (tagged ∷ lane) x (suc i, below, is) = in_unstamped lane x (i, omega arith, is)

in_sent_if : (found : Option ℕ) (stamp : ℕ) (signal : Signal) (x : Stamped) → Contains (sent_if found stamp signal) x → stamp ≡ x.stamp
in_sent_if None stamp signal x has = absurd (none_there x has)
in_sent_if (Some tunnel) stamp signal x (zero, below, is) = ap (λ (s : Stamped). s.stamp) is
in_sent_if (Some tunnel) stamp signal x (suc i, below, is) = absurd (omega arith)

in_event : (sent : List (ℕ × Signal)) (tunnels : Tunnels) (stamp : ℕ) (x : Stamped) → Contains (event_sends tunnels stamp sent) x → stamp ≡ x.stamp
in_event [] tunnels stamp x has = absurd (none_there x has)
in_event (sending ∷ sent) tunnels stamp x has =
    elim (Contains-append_cases (sent_if (tunnels sending.0) stamp sending.1) (event_sends tunnels stamp sent) x has) [
      | inl here ↦ in_sent_if (tunnels sending.0) stamp sending.1 x here
      | inr there ↦ in_event sent tunnels stamp x there
    ]

-- what entries send has the stamps of these entries
in_sent : (log : List Entry) (tunnels : Tunnels) (x : Stamped) → Contains (log_sends tunnels log) x → Contains (stamps_of log) x.stamp
in_sent [] tunnels x has = absurd (none_there x has)
in_sent (entry ∷ log) tunnels x has =
    elim (Contains-append_cases (event_sends tunnels entry.stamp entry.sent) (log_sends tunnels log) x has) [
      | inl here ↦ first_there entry.stamp (stamps_of log) x.stamp (in_event entry.sent tunnels entry.stamp x here)
      | inr there ↦ more_there entry.stamp (stamps_of log) x.stamp (in_sent log tunnels x there)
    ]

from_source : (world : WorldState) (logs : List (List Claimed)) (boxes : List BoxState) (rests : List (List Stamped)) (who k : ℕ) → IsClaimed world logs boxes rests
    → Source world who (claimed_of logs who) (suc k) → Contains (all_stamps logs) (suc k)
from_source world logs boxes rests who k claimed source =
    let inside : lane_of world source.s < length world.lanes =
    subst (λ (n : ℕ). lane_of world source.s < n) (sym claimed.each_lane) (lane_in world source.s (number_is world who source.local source.s source.numbered).0) in
    let taker : leads_to world (lane_of world source.s) ≡ who = taker_is world who source.local source.s source.numbered in
    let claims : Contains (claims_from world logs (lane_of world source.s)) (with_stamp (suc k) source.tagged) =
    subst (λ (w : ℕ). Contains (log_takes (into_box world w (lane_of world source.s)) (claimed_of logs w)) (with_stamp (suc k) source.tagged)) (sym taker) source.claims in
    let all : Contains (map (with_stamp 0) (get_or world.lanes (lane_of world source.s) []) ++ sent_to world (logs_of logs) (lane_of world source.s)) (with_stamp (suc k) source.tagged) =
    subst (λ (l : List Stamped). Contains l (with_stamp (suc k) source.tagged)) (claimed.keeps (lane_of world source.s) inside)
    (Contains-append_left (claims_from world logs (lane_of world source.s)) (get_or rests (lane_of world source.s) []) (with_stamp (suc k) source.tagged) claims) in
    elim (Contains-append_cases (map (with_stamp 0) (get_or world.lanes (lane_of world source.s) [])) (sent_to world (logs_of logs) (lane_of world source.s)) (with_stamp (suc k) source.tagged) all) [
      | inl before ↦
          let none : suc k ≡ 0 = in_unstamped (get_or world.lanes (lane_of world source.s) []) (with_stamp (suc k) source.tagged) before in
          absurd (omega arith)
      | inr sent ↦
          to_all logs (leads_from world (lane_of world source.s)) (suc k)
          (subst (λ (l : List Entry). Contains (stamps_of l) (suc k)) (logs_at logs (leads_from world (lane_of world source.s)))
          (in_sent (log_of (logs_of logs) (leads_from world (lane_of world source.s))) (out_of_box world (leads_from world (lane_of world source.s)) (lane_of world source.s)) (with_stamp (suc k) source.tagged) sent))
    ]

-- ---- no gap

one_less : (world : WorldState) (logs : List (List Claimed)) (boxes : List BoxState) (rests : List (List Stamped)) (k : ℕ) → IsClaimed world logs boxes rests
    → Contains (all_stamps logs) (suc (suc k)) → Contains (all_stamps logs) (suc k)
one_less world logs boxes rests k claimed has =
    let one = from_all logs (suc (suc k)) has in
    let below : one.0 < length world.boxes = subst (λ (n : ℕ). one.0 < n) claimed.log_count one.1 in
    elim (origin (claimed_of logs one.0) world one.0 0 (box_at world one.0) (get_or boxes one.0 no_box) one.2.0 (suc (suc k)) k (claimed.stamps one.0 below) (claimed.made one.0 below) (claimed.tunnels one.0 below) one.2.1 one.2.2) [
      | inl zero_is ↦ absurd (omega arith)
      | inr later ↦ elim later [
        | inl there ↦ to_all logs one.0 (suc k) there
        | inr source ↦ from_source world logs boxes rests one.0 k claimed source
      ]
    ]

-- the stamps are as many as the entries
stamp_count : (log : List Claimed) → length (stamps_of (entries_of log)) ≡ length log
stamp_count [] = refl
stamp_count (claimed ∷ log) = ap suc (stamp_count log)

all_count : (logs : List (List Claimed)) → length (all_stamps logs) ≡ entry_count logs
all_count [] = refl
all_count (log ∷ logs) =
    length-append (stamps_of (entries_of log)) (all_stamps logs)
    ∙ (ap₂ (λ (m n : ℕ). m + n) (stamp_count log) (all_count logs) ∙ sym (sum_by-cons (λ (l : List Claimed). length l) log logs))

pub claimed_stamps_fit : ClaimedStampsFit
claimed_stamps_fit world logs boxes rests claimed k d below =
    subst (λ (n : ℕ). get_or (all_stamps logs) k d ≤ n) (all_count logs)
    (stamps_fit (all_stamps logs)
    (λ i has.
    let two : i + 2 ≡ suc (suc i) = omega arith in
    let one : suc i ≡ i + 1 = omega arith in
    subst (λ (n : ℕ). Contains (all_stamps logs) n) one (one_less world logs boxes rests i claimed (subst (λ (n : ℕ). Contains (all_stamps logs) n) two has)))
    k d below)

pub claimed_sends_fit : ClaimedSendsFit
claimed_sends_fit world logs boxes rests who tunnels claimed k d below =
    All-contains (λ (stamp : ℕ). stamp ≤ entry_count logs) (all_stamps logs) (get_or (log_sends tunnels (entries_of (claimed_of logs who))) k d).stamp (claimed_stamps_fit world logs boxes rests claimed)
    (to_all logs who (get_or (log_sends tunnels (entries_of (claimed_of logs who))) k d).stamp
    (in_sent (entries_of (claimed_of logs who)) tunnels (get_or (log_sends tunnels (entries_of (claimed_of logs who))) k d)
    (Contains-get_or (log_sends tunnels (entries_of (claimed_of logs who))) k d below)))
