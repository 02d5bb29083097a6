use Rattle.std.proofs.Common.{◌≡◌, ◌++◌, flat_map}
use Rattle.std.specs.List.{range_with_len}
use Rattle.mc_ladder.specs.Glyphs.{glyph_bytes}
use Rattle.mc_ladder.proofs.glyph.put_cells.Given as goal

-- so many cells stand after what was there
abbrev pub invariant-loop-done : goal.invariant-loop-done
invariant-loop-done l = l.out.items ≡ l.initial.out.items ++ flat_map (λ place. glyph_bytes l.style l.glyph) (range_with_len 0 l._done)
