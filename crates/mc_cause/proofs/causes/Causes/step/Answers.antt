use Rattle.std.proofs.Common.{◌++◌, List, [], ◌∷◌, subst}
use Rattle.mc_box.specs.declared.event.Turn.{Turn}
use Rattle.mc_model.specs.Worlds.{WorldState}
use Rattle.mc_cause.specs.Carried.{CausesState, TellsCauses}
use Rattle.mc_cause.proofs.causes.Causes.step.Goals as goal

pub returns-clause-tells : goal.returns-clause-tells
returns-clause-tells c =
    subst (λ (st : CausesState). (first : WorldState) (turns : List Turn) → TellsCauses first turns st.world st.whys → TellsCauses first (turns ++ c.args.turn ∷ []) c.step.new.self c.note.new.self) c.self.view_is
    (λ first turns tells. c.note.ensures.tells first c.self.inside.world turns tells (record { sound = c.keeps.ensures.sound; goes = c.in_ok-step.ensures.ok }))
