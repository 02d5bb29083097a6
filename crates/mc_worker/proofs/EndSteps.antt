-- The ends of a box after a change at one of them.
use Rattle.std.proofs.Common.{Option, Some, None, IfNone, IsSome, MatchOption, slice_get, ◌≡◌, ◌≢◌, ℕ, zero, suc, ◌+◌, ◌<◌, ◌≤◌, Bool, true, false, if◌then◌else◌, ◌==◌, List, [], ◌∷◌, ◌++◌, inl, inr, refl, sym, ◌∙◌, ap, subst, length, map, take, slice_set, slice_index_or, arith}
use Rattle.std.proofs.lemmas.Grind.{common_steps}
use Rattle.std.proofs.lemmas.List.{append-nil, map-set}
use Rattle.std.specs.Option.{option_to_list}
use mathlib.Core.List.{IsPrefix}
use Rattle.mc_port.specs.Tunnels.{Tunnels, event_sends, sent_if}
use Rattle.mc_signal.specs.declared.Signal.{Signal}
use Rattle.mc_signal.specs.declared.Tagged.{Tagged}
use Rattle.mc_port.specs.Ends.{IsGiven, IsHandedBack, KnowsNothing, back_count, free_places, given, known, look_count, received}
use Rattle.mc_port.specs.declared.stamped.Stamped.{Stamped}
use Rattle.mc_port.specs.declared.ends.OutPort.{OutPort}
use Rattle.mc_port.specs.declared.ends.InPort.{InPort}
use Rattle.mc_worker.specs.Boxes.{box_of}
use Rattle.mc_worker.specs.Ends.{InAccount, InEnd, IsIdle, OutAccount, Passed, WasLookedAt, back_after, if_at, in_end, in_end_of, next_from, next_in, out_end, out_end_of, ring_end, unclaimed}
use Rattle.mc_worker.proofs.Joins.{back_waits, in_still, looked_on, out_still, took_on}

-- an element of a list that a function was applied to
pub at_map : {X Y : Type 0} (f : X → Y) (l : List X) (i : ℕ) (x : X) (d : Y) → i < length l → x ≡ slice_index_or l i x → slice_index_or (map f l) i d ≡ f x
at_map f l i x d h e = grind (arith, common_steps)

pub at_set : {X Y : Type 0} (f : X → Y) (l : List X) (i : ℕ) (y : X) (d : Y) → i < length l → slice_index_or (map f (slice_set l i y)) i d ≡ f y
at_set f l i y d h = grind (arith, common_steps, map-set)

pub at_other : {X Y : Type 0} (f : X → Y) (l : List X) (i s : ℕ) (y : X) (d : Y) → s ≢ i → slice_index_or (map f (slice_set l i y)) s d ≡ slice_index_or (map f l) s d
at_other f l i s y d h = grind (arith, common_steps, map-set)

-- ---- on the way out

pub out_here : (ports : List OutPort) (boxes : List (List Stamped)) (i : ℕ) (p : OutPort) → i < length ports → p ≡ slice_index_or ports i p → out_end ports boxes i ≡ out_end_of p (box_of boxes i)
out_here ports boxes i p h e = rw (at_map given ports i p [] h e, at_map free_places ports i p 0 h e, at_map back_count ports i p 0 h e) refl

pub out_set : (ports : List OutPort) (boxes : List (List Stamped)) (i : ℕ) (p : OutPort) → i < length ports → out_end (slice_set ports i p) boxes i ≡ out_end_of p (box_of boxes i)
out_set ports boxes i p h = rw (at_set given ports i p [] h, at_set free_places ports i p 0 h, at_set back_count ports i p 0 h) refl

pub out_other : (ports : List OutPort) (boxes new : List (List Stamped)) (i s : ℕ) (p : OutPort) → s ≢ i → box_of new s ≡ box_of boxes s → out_end (slice_set ports i p) new s ≡ out_end ports boxes s
out_other ports boxes new i s p off same = rw (at_other given ports i s p [] off, at_other free_places ports i s p 0 off, at_other back_count ports i s p 0 off, same) refl

out_by : (same : Bool) (ports : List OutPort) (boxes new : List (List Stamped)) (i s : ℕ) (p0 p : OutPort) (item : Stamped) → (i == s) ≡ same
    → i < length ports → p0 ≡ slice_index_or ports i p0 → ((e : ℕ) → e ≢ i → box_of new e ≡ box_of boxes e)
    → OutAccount (out_end_of p0 (box_of boxes i)) (out_end_of p (box_of new i)) (item ∷ []) → OutAccount (out_end ports boxes s) (out_end (slice_set ports i p) new s) (if same then item ∷ [] else [])
out_by true ports boxes new i s p0 p item is h e others account =
    let at : i ≡ s = grind (arith, common_steps) in
    subst (λ (t : ℕ). OutAccount (out_end ports boxes t) (out_end (slice_set ports i p) new t) (item ∷ [])) at (rw (out_here ports boxes i p0 h e, out_set ports new i p h) account)
out_by false ports boxes new i s p0 p item is h e others account =
    let off : s ≢ i = grind (arith, common_steps) in
    rw (out_other ports boxes new i s p off (others s off)) (out_still (out_end ports boxes s))

-- a change at one end sends there, and nothing elsewhere
pub out_put : (ports : List OutPort) (boxes new : List (List Stamped)) (i : ℕ) (p0 p : OutPort) (item : Stamped) → i < length ports → p0 ≡ slice_index_or ports i p0
    → ((e : ℕ) → e ≢ i → box_of new e ≡ box_of boxes e) → OutAccount (out_end_of p0 (box_of boxes i)) (out_end_of p (box_of new i)) (item ∷ [])
    → (s : ℕ) → OutAccount (out_end ports boxes s) (out_end (slice_set ports i p) new s) (if_at i s item)
out_put ports boxes new i p0 p item h e others account s = out_by (i == s) ports boxes new i s p0 p item refl h e others account

kept_by : (same : Bool) (ports : List OutPort) (boxes new : List (List Stamped)) (i s : ℕ) (item : Stamped) → (i == s) ≡ same → box_of boxes i ≢ []
    → box_of new i ≡ box_of boxes i ++ item ∷ [] → ((e : ℕ) → e ≢ i → box_of new e ≡ box_of boxes e) → OutAccount (out_end ports boxes s) (out_end ports new s) (if same then item ∷ [] else [])
kept_by true ports boxes new i s item is some more others =
    let at : i ≡ s = grind (arith, common_steps) in
    subst (λ (t : ℕ). OutAccount (out_end ports boxes t) (out_end ports new t) (item ∷ [])) at
    (record {
      put = [];
      kept = item ∷ [];
      ring = sym (append-nil _);
      outbox = more;
      order = refl;
      back = sym (back_waits (item ∷ []) (box_of boxes i) _ some);
      waits = λ h. (refl, refl);
      full = λ none h. absurd (some none);
      places = omega arith;
    })
kept_by false ports boxes new i s item is some more others =
    let off : s ≢ i = grind (arith, common_steps) in
    let same : box_of new s ≡ box_of boxes s = others s off in
    rw same (out_still (out_end ports boxes s))

-- where something waits, an item waits too
pub out_kept : (ports : List OutPort) (boxes new : List (List Stamped)) (i : ℕ) (item : Stamped) → box_of boxes i ≢ []
    → box_of new i ≡ box_of boxes i ++ item ∷ [] → ((e : ℕ) → e ≢ i → box_of new e ≡ box_of boxes e) → (s : ℕ) → OutAccount (out_end ports boxes s) (out_end ports new s) (if_at i s item)
out_kept ports boxes new i item some more others s = kept_by (i == s) ports boxes new i s item refl some more others

-- the ring took the item
pub gave : (p0 p : OutPort) (box : List Stamped) (item : Stamped) → box ≡ [] → IsGiven p0 p item → OutAccount (out_end_of p0 box) (out_end_of p box) (item ∷ [])
gave p0 p box item none put = record {
  put = item ∷ [];
  kept = [];
  ring = put.items;
  outbox = sym (append-nil box);
  order = refl;
  back = put.count;
  waits = λ some. absurd (some none);
  full = λ h some. absurd (some refl);
  places = put.places;
}

-- the ring was full
pub handed_back : (p0 p : OutPort) (box new : List Stamped) (item back : Stamped) → box ≡ [] → IsHandedBack p0 p item back → new ≡ box ++ item ∷ [] → OutAccount (out_end_of p0 box) (out_end_of p new) (item ∷ [])
handed_back p0 p box new item back none came more = record {
  put = [];
  kept = item ∷ [];
  ring = came.items ∙ sym (append-nil (given p0));
  outbox = more;
  order = refl;
  back = came.count ∙ ap (λ (l : List Stamped). back_after (item ∷ []) l (back_count p0)) (sym none);
  waits = λ some. absurd (some none);
  full = λ h some. came.full;
  places = let before = came.full_before in omega (arith, before);
}

sent_by_test : (test : Bool) (tunnel stamp : ℕ) (signal : Signal) → sent_if (if test then Some tunnel else None) stamp signal ≡ (if test then record { stamp = stamp; tunnel = tunnel; signal = signal } ∷ [] else [])
sent_by_test true tunnel stamp signal = refl
sent_by_test false tunnel stamp signal = refl

-- one sending more
pub sends_more : (tunnels : Tunnels) (stamp : ℕ) (sent : List (ℕ × Signal)) (i : ℕ) (sending : ℕ × Signal) → i < length sent → sending ≡ slice_index_or sent i sending
    → event_sends tunnels stamp (take (i + 1) sent) ≡ event_sends tunnels stamp (take i sent) ++ sent_if (tunnels sending.0) stamp sending.1
sends_more tunnels stamp sent i sending inside is = grind (arith, common_steps)

-- ---- on the way in

pub in_here : (ports : List InPort) (boxes : List (List Tagged)) (i : ℕ) (p : InPort) → i < length ports → p ≡ slice_index_or ports i p → in_end ports boxes i ≡ in_end_of p (box_of boxes i)
in_here ports boxes i p h e = rw (at_map received ports i p [] h e, at_map known ports i p [] h e, at_map look_count ports i p 0 h e) refl

pub in_set : (ports : List InPort) (boxes : List (List Tagged)) (i : ℕ) (p : InPort) → i < length ports → in_end (slice_set ports i p) boxes i ≡ in_end_of p (box_of boxes i)
in_set ports boxes i p h = rw (at_set received ports i p [] h, at_set known ports i p [] h, at_set look_count ports i p 0 h) refl

pub in_other : (ports : List InPort) (boxes new : List (List Tagged)) (i s : ℕ) (p : InPort) → s ≢ i → box_of new s ≡ box_of boxes s → in_end (slice_set ports i p) new s ≡ in_end ports boxes s
in_other ports boxes new i s p off same = rw (at_other received ports i s p [] off, at_other known ports i s p [] off, at_other look_count ports i s p 0 off, same) refl

in_by : (same : Bool) (ports : List InPort) (boxes new : List (List Tagged)) (i s : ℕ) (p0 p : InPort) (taken : List Stamped) → (i == s) ≡ same
    → i < length ports → p0 ≡ slice_index_or ports i p0 → ((e : ℕ) → e ≢ i → box_of new e ≡ box_of boxes e)
    → InAccount (in_end_of p0 (box_of boxes i)) (in_end_of p (box_of new i)) taken → InAccount (in_end ports boxes s) (in_end (slice_set ports i p) new s) (if same then taken else [])
in_by true ports boxes new i s p0 p taken is h e others account =
    let at : i ≡ s = grind (arith, common_steps) in
    subst (λ (t : ℕ). InAccount (in_end ports boxes t) (in_end (slice_set ports i p) new t) taken) at (rw (in_here ports boxes i p0 h e, in_set ports new i p h) account)
in_by false ports boxes new i s p0 p taken is h e others account =
    let off : s ≢ i = grind (arith, common_steps) in
    rw (in_other ports boxes new i s p off (others s off)) (in_still (in_end ports boxes s))

-- a taking at one end, from its ring
pub in_take : (ports : List InPort) (boxes new : List (List Tagged)) (i : ℕ) (p0 p : InPort) (taken : List Stamped) → i < length ports → p0 ≡ slice_index_or ports i p0
    → ((e : ℕ) → e ≢ i → box_of new e ≡ box_of boxes e) → InAccount (in_end_of p0 (box_of boxes i)) (in_end_of p (box_of new i)) taken
    → (s : ℕ) → InAccount (in_end ports boxes s) (in_end (slice_set ports i p) new s) (if i == s then taken else [])
in_take ports boxes new i p0 p taken h e others account s = in_by (i == s) ports boxes new i s p0 p taken refl h e others account

if_nothing : (test : Bool) → ◌≡◌ {A = List Stamped} (if test then [] else []) []
if_nothing true = refl
if_nothing false = refl

-- a look at one ring takes nothing
pub in_look : (ports : List InPort) (i : ℕ) (p0 p : InPort) → i < length ports → p0 ≡ slice_index_or ports i p0 → InAccount (in_end_of p0 []) (in_end_of p []) []
    → (s : ℕ) → InAccount (ring_end ports s) (ring_end (slice_set ports i p) s) []
in_look ports i p0 p h e account s =
    subst (λ (l : List Stamped). InAccount (ring_end ports s) (ring_end (slice_set ports i p) s) l) (if_nothing (i == s)) (in_take ports [] [] i p0 p [] h e (λ k off. refl) account s)

pub ring_looked : (p0 p : InPort) → received p ≡ received p0 → IsPrefix (known p0) (known p) → look_count p0 ≤ look_count p → InAccount (in_end_of p0 []) (in_end_of p []) []
ring_looked p0 p same more looks = record {
  gave = [];
  ring = same ∙ sym (append-nil (received p0));
  order = refl;
  whole = inl refl;
  knows = subst (λ (l : List Stamped). IsPrefix (received p0 ++ known p0) (l ++ known p)) (sym same) (looked_on (received p0) (known p0) (known p) more);
  looks = looks;
}

pub next_here : (ports : List InPort) (i : ℕ) (p : InPort) (item : Stamped) → i < length ports → slice_get (known p) 0 ≡ Some item → next_in (ring_end (slice_set ports i p) i) ≡ Some item
next_here ports i p item h front = ap next_in (in_set ports [] i p h) ∙ front

looked_from : (a b c : InEnd) → a.looks ≤ b.looks → WasLookedAt b c → WasLookedAt a c
looked_from a b c h (inl l) = inl (omega arith)
looked_from a b c h (inr e) = inr e

-- what is found idle is so since before
pub idle_from : (a b c : InEnd) → a.looks ≤ b.looks → IsIdle b c → IsIdle a c
idle_from a b c h idle = record { inbox = idle.inbox; known = idle.known; looked = looked_from a b c h idle.looked }

-- the ring that was looked at last is idle since the beginning
pub idle_here : (first : InEnd) (ports : List InPort) (i : ℕ) (p0 p : InPort) → i < length ports → p0 ≡ slice_index_or ports i p0 → first.looks ≤ (ring_end ports i).looks → IsIdle (in_end_of p0 []) (in_end_of p [])
    → IsIdle first (ring_end (slice_set ports i p) i)
idle_here first ports i p0 p h e before idle =
    let old : first.looks ≤ look_count p0 = subst (λ (end : InEnd). first.looks ≤ end.looks) (in_here ports [] i p0 h e) before in
    subst (λ (end : InEnd). IsIdle first end) (sym (in_set ports [] i p h)) (idle_from first (in_end_of p0 []) (in_end_of p []) old idle)

-- an end that was passed stays so where another end is looked at
pub passed_there : (from : ℕ) (first : InEnd) (ports : List InPort) (i s : ℕ) (p : InPort) → s ≢ i → Passed from s first (ring_end ports s) → Passed from s first (ring_end (slice_set ports i p) s)
passed_there from first ports i s p off passed = subst (λ (end : InEnd). Passed from s first end) (sym (in_other ports [] [] i s p off refl)) passed

-- what waited in the inbox is taken
pub popped : (ports : List InPort) (boxes new : List (List Tagged)) (i : ℕ) (tagged : Tagged) (item : Stamped) → item ≡ unclaimed tagged → box_of boxes i ≡ tagged ∷ box_of new i
    → ((e : ℕ) → e ≢ i → box_of new e ≡ box_of boxes e) → (s : ℕ) → InAccount (in_end ports boxes s) (in_end ports new s) (if i == s then item ∷ [] else [])
popped ports boxes new i tagged item is first others s = by (i == s) refl
  where
    here : InAccount (in_end ports boxes i) (in_end ports new i) (item ∷ [])
    here = record {
      gave = [];
      ring = sym (append-nil _);
      order = ap (λ (x : Stamped). x ∷ map unclaimed (box_of new i)) is ∙ (sym (ap (map unclaimed) first) ∙ sym (append-nil (map unclaimed (box_of boxes i))));
      whole = inl refl;
      knows = ([], append-nil _);
      looks = omega arith;
    }

    by : (same : Bool) → (i == s) ≡ same → InAccount (in_end ports boxes s) (in_end ports new s) (if same then item ∷ [] else [])
    by true at =
        let equal : i ≡ s = grind (arith, common_steps) in
        subst (λ (t : ℕ). InAccount (in_end ports boxes t) (in_end ports new t) (item ∷ [])) equal here
    by false at =
        let off : s ≢ i = grind (arith, common_steps) in
        rw (others s off) (in_still (in_end ports boxes s))

-- the ring gave what was taken, where nothing waited in the inbox
pub ring_took : (taken : Option Stamped) (p0 p : InPort) (box new : List Tagged) → box ≡ [] → new ≡ [] → MatchOption taken (received p ≡ received p0) (λ item. received p ≡ received p0 ++ item ∷ [])
    → MatchOption taken (known p ≡ []) (λ item. IsPrefix (known p0) (item ∷ known p)) → IfNone taken (KnowsNothing p0 p) → look_count p0 ≤ look_count p → InAccount (in_end_of p0 box) (in_end_of p new) (option_to_list taken)
ring_took None p0 p box new none gone got more nothing looks = record {
  gave = [];
  ring = got ∙ sym (append-nil (received p0));
  order = rw (none, gone) refl;
  whole = inl refl;
  knows = ([], append-nil _ ∙ (ap (λ (l : List Stamped). received p0 ++ l) nothing.before ∙ (append-nil (received p0) ∙ (sym got ∙ (sym (append-nil (received p)) ∙ ap (λ (l : List Stamped). received p ++ l) (sym nothing.now))))));
  looks = looks;
}
ring_took (Some item) p0 p box new none gone got more nothing looks = record {
  gave = item ∷ [];
  ring = got;
  order = rw (none, gone) refl;
  whole = inr gone;
  knows = subst (λ (l : List Stamped). IsPrefix (received p0 ++ known p0) (l ++ known p)) (sym got) (took_on (received p0) (known p0) (known p) item more);
  looks = looks;
}

first_taken : (taken : Option Stamped) (p0 p : InPort) → IsSome (slice_get (known p0) 0) → MatchOption taken (known p ≡ []) (λ item. IsPrefix (known p0) (item ∷ known p)) → IfNone taken (KnowsNothing p0 p) → taken ≡ slice_get (known p0) 0
first_taken None p0 p some more nothing = let none = rw nothing.before at some in cc
first_taken (Some item) p0 p some more nothing = by (known p0) some more
  where
    by : (before : List Stamped) → IsSome (slice_get before 0) → IsPrefix before (item ∷ known p) → Some item ≡ slice_get before 0
    by [] some more = cc
    by (first ∷ before) some more = let front = more.1 in cc

-- and that is what was next
pub took_next : (taken : Option Stamped) (ports : List InPort) (boxes : List (List Tagged)) (i : ℕ) (p0 p : InPort) → i < length ports → p0 ≡ slice_index_or ports i p0 → box_of boxes i ≡ []
    → IsSome (next_in (in_end ports boxes i)) → MatchOption taken (known p ≡ []) (λ item. IsPrefix (known p0) (item ∷ known p)) → IfNone taken (KnowsNothing p0 p) → taken ≡ next_in (in_end ports boxes i)
took_next taken ports boxes i p0 p h e none some more nothing =
    let next : next_in (in_end ports boxes i) ≡ slice_get (known p0) 0 = ap next_in (in_here ports boxes i p0 h e) ∙ ap (λ (l : List Tagged). next_from l (known p0)) none in
    first_taken taken p0 p (subst (λ (o : Option Stamped). IsSome o) next some) more nothing ∙ sym next

-- what is past the end of a list isn't there
pub past_end : {X : Type 0} (xs : List X) (i : ℕ) (x : X) → slice_get xs i ≡ Some x → i < length xs
past_end [] i x e = cc
past_end (y ∷ ys) zero x e = omega arith
past_end (y ∷ ys) (suc i) x e = let less = past_end ys i x e in omega (arith, less)
