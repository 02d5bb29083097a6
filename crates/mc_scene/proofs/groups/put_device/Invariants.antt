use Rattle.std.proofs.Common.{◌≡◌, ◌++◌, flat_map, string_bytes}
use Rattle.std.specs.List.{range_with_len}
use Rattle.mc_scene.proofs.Devices.{codec_behind}
use Rattle.mc_scene.proofs.groups.put_device.Given as goal

-- the codecs so far are appended, each after a space
abbrev pub invariant-loop-place : goal.invariant-loop-place
invariant-loop-place l = string_bytes l.text ≡ string_bytes l.initial.text ++ flat_map (codec_behind l.codecs) (range_with_len 0 l.place)
