-- The turn from which a close came. Closes are counted: the k-th close that a slot takes is the k-th that its far slot
-- has sent. No lane is spoken of.
use Rattle.std.specs.Prelude.{ℕ, ◌+◌, ◌==◌, ◌&&◌, ◌++◌, not, Bool, true, false, if◌then◌else◌, List, [], ◌∷◌, replicate, slice_index, Option, Some, None}
use Rattle.std.specs.List.{last_or}
use Rattle.std.specs.Option.{option_and_then, unwrap_or}
use Rattle.mc_signal.specs.declared.Signal.{Signal}
use Rattle.mc_signal.specs.declared.Signal.TheVariants.{Close}
use Rattle.mc_slot.specs.Outlook.{closes}
use Rattle.mc_slot.specs.declared.State.{State}
use Rattle.mc_slot.specs.declared.State.TheVariants.{Closed}
use Rattle.mc_box.specs.Acting.{sent_by}
use Rattle.mc_box.specs.declared.event.Turn.{Turn}
use Rattle.mc_laws.specs.Sendings.{sendings, taker}
use Rattle.mc_model.specs.Steps.{step}
use Rattle.mc_model.specs.Worlds.{WorldState, far, front, place, slot_of}

-- ---- one turn

-- the slot that takes a signal in a turn, if one does
abbrev pub taking : WorldState → Turn → Option ℕ
taking world turn = taker world turn.who turn.event

-- the signal that it takes
abbrev pub taken : WorldState → Turn → Option Signal
taken world turn = option_and_then (front world) (taking world turn)

abbrev pub where_close : Option Signal → Option ℕ → Option ℕ
where_close (Some Close) slot = slot
where_close signal slot = None

-- the slot that takes a close in a turn, if one does
abbrev pub takes_close : WorldState → Turn → Option ℕ
takes_close world turn = where_close (taken world turn) (taking world turn)

-- what a slot sends in a turn
abbrev pub sends : WorldState → Turn → ℕ → List Signal
sends world turn s =
    if (place world s).0 == turn.who then sent_by (place world s).1 (sendings world turn.who turn.event) else []

-- the world after a turn that is enabled
abbrev pub next_world : WorldState → Turn → WorldState
next_world world turn = unwrap_or (step world turn) world

abbrev pub is_closed : State → Bool
is_closed Closed = true
is_closed state = false

-- a slot becomes closed by a turn where it was in another state before it, and is closed after it
abbrev pub becomes_closed : WorldState → Turn → ℕ → Bool
becomes_closed world turn s =
    not (is_closed (slot_of world s).state) && is_closed (slot_of (next_world world turn) s).state

-- ---- all turns so far

-- what is known of closes after some turns: how many turns there were, and of each slot from which turns the closes
-- came that it has sent, in order, how many closes it has taken, and from which turn the close came by which it last
-- became closed
pub record Known : Type 0 where
  pub turns : ℕ
  pub origins : ℕ → List ℕ
  pub taken : ℕ → ℕ
  pub why : ℕ → Option ℕ

-- before the first turn
abbrev pub none_known : Known
none_known = record { turns = 0; origins = λ s. []; taken = λ s. 0; why = λ s. None }

-- from which turn the closes of a turn came: from this turn where it takes no close, and else from where the close came
-- that it takes. That is the far slot's of the same number
abbrev pub origin : Known → Option ℕ → ℕ
origin known None = known.turns + 1
origin known (Some s) = slice_index (known.origins (far s)) (known.taken s)

-- from which turn the close came by which a slot becomes closed: where the turn takes a close, it is that one; else it
-- takes a closeack, and it is the last close that the slot itself has sent
abbrev pub cause : Known → Option ℕ → ℕ → Option ℕ
cause known (Some taker) s = Some (origin known (Some taker))
cause known None s = last_or None (known.origins s)

abbrev pub is_at : Option ℕ → ℕ → Bool
is_at None s = false
is_at (Some t) s = t == s

-- one turn more
abbrev pub known_after : Known → WorldState → Turn → Known
known_after known world turn = record {
  turns = known.turns + 1;
  origins = λ s. known.origins s ++ replicate (closes (sends world turn s)) (origin known (takes_close world turn));
  taken = λ s. known.taken s + (if is_at (takes_close world turn) s then 1 else 0);
  why = λ s. if becomes_closed world turn s then cause known (takes_close world turn) s else known.why s;
}

-- and turns one after another
abbrev pub known_from : Known → WorldState → List Turn → Known
known_from known world [] = known
known_from known world (turn ∷ turns) = known_from (known_after known world turn) (next_world world turn) turns

-- why a slot is closed after turns of a world: the number of the turn from which the close came by which it last became
-- closed, counted from 1, or none where it never did
abbrev pub why : WorldState → List Turn → ℕ → Option ℕ
why world turns s = (known_from none_known world turns).why s
