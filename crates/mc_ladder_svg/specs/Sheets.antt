-- What a picture begins with: its size, its stylesheet, the ground, and the lines of the boxes.
use Rattle.std.specs.Prelude.{ℕ, ◌+◌, List, [], ◌∷◌, ◌++◌, codes}
use Rattle.std.specs.Fmt.{decimal}
use Rattle.std.specs.List.{concat}
use Rattle.mc_ladder_svg.specs.Elements.{uprights}
use Rattle.mc_ladder_svg.specs.Measures.{width_of}

-- a line, and its end
abbrev pub line : List ℕ → List ℕ
line words = words ++ 10 ∷ []

-- a class for each look, in light and in dark
abbrev pub style_sheet : List ℕ
style_sheet = concat (
    line (codes "<style>") ∷
    line (codes "svg{background:#fff;color:#1c2128;font:11px ui-monospace,\"DejaVu Sans Mono\",Menlo,Consolas,\"Liberation Mono\",monospace}") ∷
    line (codes "text{fill:currentColor;white-space:pre}") ∷
    line (codes ".m{text-anchor:middle}.e{text-anchor:end}.h{font-weight:bold}.hd .h{font-size:12px}.z{font-size:10px}")
    ∷
    line (codes ".o{paint-order:stroke;stroke:#fff;stroke-width:5px;stroke-linejoin:round}") ∷
    line (codes ".p{fill:#fff}.v{fill:none;stroke:#8b939e}.u{fill:#f3f5f8}") ∷
    line (codes ".se .o{stroke:#f3f5f8}.g{stroke-dasharray:6 3}") ∷
    line (codes ".l{fill:none;stroke:currentColor;stroke-width:1.5px}.f{fill:currentColor}") ∷
    line (codes ".x{fill:#fff;stroke:currentColor;stroke-width:2px}") ∷
    line (codes ".k{fill:none;stroke:currentColor;stroke-width:4px}.q{fill:none;stroke:currentColor;stroke-width:1.5px;stroke-dasharray:2 4}") ∷
    line (codes ".d{color:#57606a}.op{color:#0a53c4}.me{color:#7a3aa8}.cl{color:#b3261e}.cm{color:#1c2128}.pr{color:#8a4b00}.fl{color:#0f6b34}.si{color:#57606a}") ∷
    line (codes "@media (prefers-color-scheme:dark){svg{background:#0f1318;color:#e3e8ee}.o{stroke:#0f1318}.se .o{stroke:#191f27}.p,.x{fill:#0f1318}.v{stroke:#66707d}.u{fill:#191f27}") ∷
    line (codes ".d{color:#a0a9b5}.op{color:#7db1ff}.me{color:#d0a1f7}.cl{color:#ff938a}.cm{color:#e3e8ee}.pr{color:#f0b266}.fl{color:#5fd08a}.si{color:#a0a9b5}}") ∷
    line (codes "</style>") ∷ [])

abbrev pub size : (width height : ℕ) → List ℕ
size width height = concat (
    codes "<svg xmlns=\"http://www.w3.org/2000/svg\" viewBox=\"0 0 " ∷ decimal width ∷ codes " " ∷ decimal height
    ∷ codes "\" width=\"" ∷ decimal width ∷ codes "\" height=\"" ∷ decimal height ∷ codes "\" role=\"img\">"
    ∷ line [] ∷ line (codes "<title>Call ladder</title>") ∷ [])

abbrev pub ground : (width height : ℕ) → List ℕ
ground width height =
    concat (codes "<rect class=\"p\" width=\"" ∷ decimal width ∷ codes "\" height=\"" ∷ decimal height
    ∷ line (codes "\"/>") ∷ [])

-- a page of a size, with the lines of the boxes down to a height
abbrev pub page : (columns width height end : ℕ) → List ℕ
page columns width height end =
    size width height ++ style_sheet ++ ground width height ++ uprights columns 34 end ++ codes "\n"

-- all that stands before the heads, of so many columns, where the last row ends at a height
abbrev pub opening : (columns end : ℕ) → List ℕ
opening columns end = page columns (width_of columns) (end + 8) end
