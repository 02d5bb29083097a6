use Rattle.std.proofs.Common.{◌≡◌, ◌++◌, flat_map, string_bytes, take}
use Rattle.mc_scene.specs.Groups.{chain_text}
use Rattle.mc_scene.proofs.groups.put_group.Given as goal

-- the lines of the chains so far are appended
abbrev pub invariant-loop-chain : goal.invariant-loop-chain
invariant-loop-chain l = string_bytes l.text ≡ string_bytes l.initial.text ++ flat_map (chain_text l.group) (take l.chain-index l.chains)
