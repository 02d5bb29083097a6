-- The parties of a conference have names.
use Rattle.std.proofs.Common.{◌<◌, ℕ, Bool, All, map, slice_index_or, subst, sym}
use Rattle.std.proofs.lemmas.List.Elements.{All-map}
use Rattle.mc_box.specs.Boxes.{media_at}
use Rattle.mc_conf.specs.Printed.{AreNamedEnds, IsNamedParty}
use Rattle.mc_model.specs.Paths.{PathEnds, paths}
use Rattle.mc_model.specs.Sound.{IsSound}
use Rattle.mc_model.specs.Worlds.{WorldState, box_at, place, slot_count}
use Rattle.mc_net.specs.Nets.{NamesAll}
use Rattle.mc_path.specs.Views.{end_view, path_flows, view_of}
use Rattle.mc_settle_text.proofs.Shown.{are_inside, offered}
use Rattle.mc_text.specs.NameLists.{NameLists}

-- the box, the slot and the own codecs of an end have names
party_named : (names : NameLists) (world : WorldState) (flowing : Bool) (s : ℕ) → NamesAll names world → IsSound world → s < slot_count world → IsNamedParty names (end_view world flowing s)
party_named names world flowing s all sound inside = record {
  box = subst (λ (n : ℕ). (place world s).0 < n) (sym all.boxes) (sound.numbered.placed s inside);
  slot = subst (λ (n : ℕ). (place world s).1 < n) (sym (all.slots (place world s).0 (sound.numbered.placed s inside))) (sound.numbered.slots s inside);
  codecs =
      offered (box_at world (place world s).0).kind names (box_at world (place world s).0) (media_at (box_at world (place world s).0) (place world s).1) (place world s).1
      (all.codecs (place world s).0);
}

-- so have those of all ends that are shown
pub parties_named : (names : NameLists) (world : WorldState) → NamesAll names world → IsSound world → All (AreNamedEnds names) (map (view_of world) (paths world))
parties_named names world all sound =
    All-map (AreNamedEnds names) (view_of world) (paths world)
    (λ k path within.
    let inside = are_inside world sound k path within in
    let there : PathEnds = slice_index_or (paths world) k path in
    record {
      low = party_named names world (path_flows world there) there.low all sound inside.0;
      high = party_named names world (path_flows world there) there.high all sound inside.1;
    })
