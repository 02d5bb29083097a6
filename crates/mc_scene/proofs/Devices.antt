-- The line of a device, codec by codec.
use Rattle.std.proofs.Common.{◌≡◌, ◌≤◌, ◌%◌, ◌+◌, ℕ, List, [], ◌∷◌, ◌++◌, codes, map, flat_map, sym, ap, ◌∙◌, append_assoc, append-nil, arith}
use Rattle.std.specs.List.{join_with_byte, range_with_len}
use Rattle.mc_scene.specs.Chains.{run_codecs}
use Rattle.mc_scene.specs.Groups.{device_text, numbered_codec}
use Rattle.mc_scene.specs.declared.chains.CodecRun.{CodecRun}

-- the codec at a place, after a space
abbrev pub codec_behind : CodecRun → ℕ → List ℕ
codec_behind run place = 32 ∷ numbered_codec ((run.first + place) % 8)

joined : (run : CodecRun) (name : List ℕ) (places : List ℕ)
    → join_with_byte 32 (name ∷ map numbered_codec (map (λ place. (run.first + place) % 8) places)) ≡ name ++ flat_map (codec_behind run) places
joined run name [] = sym (append-nil name)
joined run name (place ∷ places) = ap (λ (rest : List ℕ). name ++ 32 ∷ rest) (joined run (numbered_codec ((run.first + place) % 8)) places)

-- a name after `dev`, what stands after it, and a line end
ended : (before name others line : List ℕ) → line ≡ name ++ others → ((before ++ (codes "dev " ++ name)) ++ others) ++ 10 ∷ [] ≡ before ++ (codes "dev " ++ (line ++ 10 ∷ []))
ended before name others line is =
    append_assoc (before ++ (codes "dev " ++ name)) others (10 ∷ [])
    ∙ append_assoc before (codes "dev " ++ name) (others ++ 10 ∷ [])
    ∙ ap (λ (rest : List ℕ). before ++ (codes "dev " ++ rest)) (sym (append_assoc name others (10 ∷ [])))
    ∙ ap (λ (whole : List ℕ). before ++ (codes "dev " ++ (whole ++ 10 ∷ []))) (sym is)

-- so the name, all codecs after spaces, and a line end are the line
device_is : (run : CodecRun) (before name : List ℕ)
    → ((before ++ (codes "dev " ++ name)) ++ flat_map (codec_behind run) (range_with_len 0 run.count)) ++ 10 ∷ [] ≡ before ++ device_text name run
device_is run before name =
    ended before name (flat_map (codec_behind run) (range_with_len 0 run.count)) (join_with_byte 32 (name ∷ map numbered_codec (run_codecs run))) (joined run name (range_with_len 0 run.count))

-- the same of a text with all codecs
pub device_done : (run : CodecRun) (before name start text : List ℕ) (place : ℕ) → run.count ≤ place → place ≤ run.count
    → start ≡ before ++ (codes "dev " ++ name) → text ≡ start ++ flat_map (codec_behind run) (range_with_len 0 place)
    → text ++ 10 ∷ [] ≡ before ++ device_text name run
device_done run before name start text place past within starts goes =
    let same : place ≡ run.count = omega arith in
    rw (goes, starts, same) (device_is run before name)
