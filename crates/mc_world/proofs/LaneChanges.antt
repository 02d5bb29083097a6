-- The signals of lanes, where one of them changes.
use Rattle.std.proofs.Common.{◌≡◌, ℕ, ◌<◌, ◌≤◌, zero, suc, List, [], ◌∷◌, ◌++◌, drop, length, get_or, Option, Some, None, slice_get, Vec, refl, sym, ◌∙◌, arith}
use Rattle.std.proofs.Math.ListN.{set}
use Rattle.std.specs.declared.alloc.Global.{Global}
use Rattle.std.specs.Vec.{with_items}
use Rattle.std.proofs.lemmas.List.{map-set, set-get_or, with_items_is}
use Rattle.mc_lane.specs.Queue.{Queue, TakesFirst}
use Rattle.mc_signal.specs.declared.Tagged.{Tagged}
use Rattle.mc_world.specs.Lanes.{HasRoom, signals_of}

abbrev pub Lane : Type 0
Lane = Queue Tagged

-- what is read is there
pub signals_at : (lanes : List Lane) (k : ℕ) (d : Lane) → k < length lanes → get_or (signals_of lanes) k [] ≡ (get_or lanes k d).items
signals_at [] k d here = absurd (omega arith)
signals_at (lane ∷ lanes) zero d here = refl
signals_at (lane ∷ lanes) (suc k) d here = signals_at lanes k d (omega arith)

-- a lane is written
pub signals_of-set : (lanes : List Lane) (k : ℕ) (lane : Lane) → signals_of (set lanes k lane) ≡ set (signals_of lanes) k lane.items
signals_of-set lanes k lane = map-set (λ (l : Lane). l.items) lanes k lane

-- a lane keeps its signals
pub signals_stay : (lanes : List Lane) (k : ℕ) (d new : Lane) → k < length lanes → new.items ≡ (get_or lanes k d).items → signals_of (set lanes k new) ≡ signals_of lanes
signals_stay lanes k d new here same = rw (signals_of-set lanes k new, same, ← signals_at lanes k d here) (set-get_or (signals_of lanes) k [])

-- what a pop leaves
pub popped_is : (old new : List Tagged) (result : Option Tagged) → TakesFirst result old new → new ≡ drop 1 old
popped_is old new None none = rw (none.0, none.1) refl
popped_is old new (Some item) is = rw is refl

-- the front of a lane goes
pub signals_popped : (lanes : List Lane) (k : ℕ) (d new : Lane) → k < length lanes → new.items ≡ drop 1 (get_or lanes k d).items
    → signals_of (set lanes k new) ≡ set (signals_of lanes) k (drop 1 (get_or (signals_of lanes) k []))
signals_popped lanes k d new here popped = rw (signals_of-set lanes k new, popped, signals_at lanes k d here) refl

-- signals go to the end of a lane
pub signals_added : (lanes : List Lane) (k : ℕ) (d new : Lane) (more : List Tagged) → k < length lanes → new.items ≡ (get_or lanes k d).items ++ more
    → signals_of (set lanes k new) ≡ set (signals_of lanes) k (get_or (signals_of lanes) k [] ++ more)
signals_added lanes k d new more here added = rw (signals_of-set lanes k new, added, signals_at lanes k d here) refl

-- each lane has as much room as before, or less, where this one has
pub room_changed : (lanes : List Lane) (j : ℕ) (d new : Lane) (before after : ℕ) → after ≤ before → (before ≤ (get_or lanes j d).spare → after ≤ new.spare) → (k : ℕ) → HasRoom lanes k before
    → HasRoom (set lanes j new) k after
room_changed [] j d new before after less here k room e = omega (arith, less, room e)
room_changed (lane ∷ lanes) zero d new before after less here zero room e = here (room e)
room_changed (lane ∷ lanes) zero d new before after less here (suc k) room e = omega (arith, less, room e)
room_changed (lane ∷ lanes) (suc j) d new before after less here zero room e = omega (arith, less, room e)
room_changed (lane ∷ lanes) (suc j) d new before after less here (suc k) room e = room_changed lanes j d new before after less here k room e

-- ---- a vector of lanes that is written as a slice

-- as long as the vector, the slice is what the vector has then
pub refilled : (lanes : Vec Lane Global) (new : List Lane) → length new ≡ length lanes.items → (with_items lanes new).items ≡ new
refilled lanes new long = with_items_is lanes new (long ∙ sym lanes.ok.0)

-- what stands at a place is what is read there
pub got_is : {A : Type 0} (items : List A) (i : ℕ) (item default : A) → Some item ≡ slice_get items i → item ≡ get_or items i default
got_is [] zero item default is = absurd (cc)
got_is [] (suc i) item default is = absurd (cc)
got_is (first ∷ items) zero item default is = cc
got_is (first ∷ items) (suc i) item default is = got_is items i item default is
