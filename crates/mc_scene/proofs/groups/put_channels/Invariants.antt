use Rattle.std.proofs.Common.{◌≡◌, ◌++◌, codes, flat_map, string_bytes}
use Rattle.std.specs.List.{range_with_len}
use Rattle.mc_scene.specs.Groups.{channel_text, feature_name}
use Rattle.mc_scene.proofs.groups.put_channels.Given as goal

-- the channels to the features so far are appended
abbrev pub invariant-loop-place : goal.invariant-loop-place
invariant-loop-place l = string_bytes l.text
    ≡ string_bytes l.initial.text ++ flat_map (λ place. channel_text l.chain place (feature_name l.chain place) (codes "w")) (range_with_len 0 l.place)
