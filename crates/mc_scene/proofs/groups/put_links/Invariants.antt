use Rattle.std.proofs.Common.{◌≡◌, ◌++◌, flat_map, string_bytes}
use Rattle.std.specs.List.{range_with_len}
use Rattle.mc_scene.specs.Groups.{link_text}
use Rattle.mc_scene.proofs.groups.put_links.Given as goal

-- the links so far are appended
abbrev pub invariant-loop-place : goal.invariant-loop-place
invariant-loop-place l = string_bytes l.text ≡ string_bytes l.initial.text ++ flat_map (link_text l.chain) (range_with_len 0 l.place)
