use Rattle.std.proofs.Common.{◌≡◌, ℕ, Bool, not, true, Option, Some, None, sym, subst}
use Rattle.std.specs.Option.{is_some}
use Rattle.mc_model.specs.Rings.{IsLeastOnRing}
use Rattle.mc_model.specs.Worlds.{WorldState}
use Rattle.mc_world.proofs.network.World.find_ring.Goals as goal

-- where none is found there is none
none_found : (world : WorldState) (found : Option ℕ) (none : Bool) → IsLeastOnRing world found → is_some found ≡ not none → none ≡ true → IsLeastOnRing world None
none_found world None none least is remembered = least
none_found world (Some s) none least is remembered = absurd (cc)

pub invariant_of-self : goal.invariant_of-self
invariant_of-self c =
    let has = c.self.invariant in
    record {
      channels = has.channels;
      topology = has.topology;
      lanes = has.lanes;
      waiting = has.waiting;
      scratch = has.scratch;
      sound = has.sound;
      ringless = λ remembered.
          subst (λ (w : WorldState). IsLeastOnRing w None) (sym c.self.view_is)
          (none_found c.args.self.now c.ring-found.result c.is_none-self-inside.result c.ring-found.ensures.least c.is_none-self-inside.ensures remembered);
    }
