use Rattle.std.proofs.Common.{◌≡◌, ◌++◌, flat_map, string_bytes}
use Rattle.std.specs.List.{range_with_len}
use Rattle.mc_scene.specs.Groups.{feature_text}
use Rattle.mc_scene.proofs.groups.put_features.Given as goal

-- the features so far are appended
abbrev pub invariant-loop-place : goal.invariant-loop-place
invariant-loop-place l = string_bytes l.text ≡ string_bytes l.initial.text ++ flat_map (feature_text l.chain) (range_with_len 0 l.place)
