use Rattle.std.proofs.Common.{◌≡◌, ◌+◌, ◌++◌, ◌∙◌, ℕ, Option, List, [], ◌∷◌, length, refl, ap, sym, subst}
use Rattle.std.specs.Vec.{with_items}
use Rattle.mc_box.specs.declared.event.Turn.{Turn}
use Rattle.mc_model.specs.Worlds.{WorldState}
use Rattle.mc_cause.specs.Carried.{AreOfSlots, HasHappened, IsAfterTurn, TellsCauses, WhysState}
use Rattle.mc_cause.specs.Notes.{Notes}
use Rattle.mc_cause.proofs.Noted.{after_here, after_slots, tells_noted, turn_inside}
use Rattle.mc_cause.proofs.Tells.{written}
use Rattle.mc_cause.proofs.whys.Whys.note.Goals as goal

pub note-requires-clause-origins : goal.note-requires-clause-origins
note-requires-clause-origins c =
    ap length c.deref_mut.ensures.value
    ∙ (after_slots c.args.world.now c.args.turn (record { turns = c.self.inside.turns; origins = c.self.inside.origins.items; whys = c.self.inside.whys.items }) (subst (IsAfterTurn c.args.world.now c.args.turn) (sym c.self.view_is) c.requires.after)).origins

pub note-requires-clause-whys : goal.note-requires-clause-whys
note-requires-clause-whys c =
    ap length c.deref_mut-2.ensures.value
    ∙ (after_slots c.args.world.now c.args.turn (record { turns = c.self.inside.turns; origins = c.self.inside.origins.items; whys = c.self.inside.whys.items }) (subst (IsAfterTurn c.args.world.now c.args.turn) (sym c.self.view_is) c.requires.after)).whys

pub note-requires-clause-inside : goal.note-requires-clause-inside
note-requires-clause-inside c = turn_inside c.args.world.now c.args.turn c.args.self.now c.requires.after

pub note-requires-clause-here : goal.note-requires-clause-here
note-requires-clause-here c = after_here c.args.world.now c.args.turn c.args.self.now c.requires.after

-- both lists are as long as before
origins_long : (c : goal.After-self-3-1) → length c.note.new.origins ≡ length c.self.inside.origins.items
origins_long c = c.note.auto.origins ∙ ap length c.deref_mut.ensures.value

whys_long : (c : goal.After-self-3-1) → length c.note.new.whys ≡ length c.self.inside.whys.items
whys_long c = c.note.auto.whys ∙ ap length c.deref_mut-2.ensures.value

origins_are : (c : goal.After-self-3-1) → (with_items c.self.inside.origins c.note.new.origins).items ≡ c.note.new.origins
origins_are c = written c.self.inside.origins c.note.new.origins (origins_long c)

whys_are : (c : goal.After-self-3-1) → (with_items c.self.inside.whys c.note.new.whys).items ≡ c.note.new.whys
whys_are c = written c.self.inside.whys c.note.new.whys (whys_long c)

-- the tables of before had a place for each slot
had_slots : (c : goal.After-self-3-1) → AreOfSlots c.args.world.now (record { turns = c.self.inside.turns; origins = c.self.inside.origins.items; whys = c.self.inside.whys.items })
had_slots c = after_slots c.args.world.now c.args.turn (record { turns = c.self.inside.turns; origins = c.self.inside.origins.items; whys = c.self.inside.whys.items }) (subst (IsAfterTurn c.args.world.now c.args.turn) (sym c.self.view_is) c.requires.after)

pub returns-clause-slots : goal.returns-clause-slots
returns-clause-slots c = record {
  origins = ap length (origins_are c) ∙ (origins_long c ∙ (had_slots c).origins);
  whys = ap length (whys_are c) ∙ (whys_long c ∙ (had_slots c).whys);
}

pub returns-clause-tells : goal.returns-clause-tells
returns-clause-tells c =
    let notes : Notes c.args.world.now c.args.turn.who c.args.turn.event (c.self.inside.turns + 1) c.self.inside.origins.items c.note.new.origins c.self.inside.whys.items c.note.new.whys =
    subst (λ (l : List (Option ℕ)). Notes c.args.world.now c.args.turn.who c.args.turn.event (c.self.inside.turns + 1) l c.note.new.origins c.self.inside.whys.items c.note.new.whys) c.deref_mut.ensures.value
    (subst (λ (l : List (Option ℕ)). Notes c.args.world.now c.args.turn.who c.args.turn.event (c.self.inside.turns + 1) c.deref_mut.result.now c.note.new.origins l c.note.new.whys) c.deref_mut-2.ensures.value c.note.ensures) in
    subst (λ (st : WhysState). (first before : WorldState) (turns : List Turn) → TellsCauses first turns before st → HasHappened before c.args.world.now c.args.turn
    → TellsCauses first (turns ++ c.args.turn ∷ []) c.args.world.now
    (record { turns = c.self.inside.turns + 1; origins = (with_items c.self.inside.origins c.note.new.origins).items; whys = (with_items c.self.inside.whys c.note.new.whys).items })) c.self.view_is
    (λ first before turns tells happened.
    subst (λ (o : List (Option ℕ)). TellsCauses first (turns ++ c.args.turn ∷ []) c.args.world.now (record { turns = c.self.inside.turns + 1; origins = o; whys = (with_items c.self.inside.whys c.note.new.whys).items })) (sym (origins_are c))
    (subst (λ (w : List (Option ℕ)). TellsCauses first (turns ++ c.args.turn ∷ []) c.args.world.now (record { turns = c.self.inside.turns + 1; origins = c.note.new.origins; whys = w })) (sym (whys_are c))
    (tells_noted first before c.args.world.now turns c.args.turn (record { turns = c.self.inside.turns; origins = c.self.inside.origins.items; whys = c.self.inside.whys.items }) (record { turns = c.self.inside.turns + 1; origins = c.note.new.origins; whys = c.note.new.whys })
    tells (had_slots c) happened refl notes)))
