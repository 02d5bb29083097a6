use Rattle.std.proofs.Common.{◌≡◌, ◌++◌, ◌∙◌, ℕ, List, ap, arith, codes, decimal, flat_map, string_bytes, subst, sym, append_assoc}
use Rattle.std.specs.List.{range_with_len}
use Rattle.mc_scene.specs.Groups.{channel_text, feature_letter, feature_name, near_name, near_slot, right_name}
use Rattle.mc_scene.specs.declared.chains.Chain.{Chain}
use Rattle.mc_scene.proofs.Channels.{next_to_feature, next_to_right}
use Rattle.mc_scene.proofs.Numbered.{each_more}
use Rattle.mc_scene.proofs.Outcomes.{on_ok}
use Rattle.mc_scene.proofs.groups.put_channels.Goals as goal

-- the channel to a feature
abbrev line : Chain → ℕ → List ℕ
line chain place = channel_text chain place (feature_name chain place) (codes "w")

-- the channel to the right device
abbrev last_line : Chain → List ℕ
last_line chain = channel_text chain chain.features (right_name chain) (codes "s")

pub loop-place-preserved : goal.loop-place-preserved
loop-place-preserved c =
    let place = c.loop-place.place in
    next_to_feature (string_bytes c.loop-place.text) (near_name c.args.chain.now place) (near_slot place) (decimal c.args.chain.now.number) (feature_letter place) c.feature_letter-letter.result.now (string_bytes c.put_near_end.new.text) (string_bytes c.writeln.new.self) c.feature_letter-letter.ensures c.in_ok-put_near_end.ensures c.in_ok-writeln.ensures.bytes
    ∙ ap (λ (so_far : List ℕ). so_far ++ line c.args.chain.now place) c.loop-place.invariant
    ∙ sym (each_more (line c.args.chain.now) (string_bytes c.args.text.now) place)

-- all channels to features stand there after the loop
all_features : (c : goal.After-writeln-2) → string_bytes c.loop-place.text ≡ string_bytes c.args.text.now ++ flat_map (line c.args.chain.now) (range_with_len 0 c.args.chain.now.features)
all_features c =
    let same : c.loop-place.place ≡ c.args.chain.now.features = omega (arith, c.loop-place-test.false, c.loop-place.auto.place-end) in
    subst (λ (n : ℕ). string_bytes c.loop-place.text ≡ string_bytes c.args.text.now ++ flat_map (line c.args.chain.now) (range_with_len 0 n)) same c.loop-place.invariant

pub returns : goal.returns
returns c =
    on_ok c.writeln-2.result
    (λ goes.
    next_to_right (string_bytes c.loop-place.text) (near_name c.args.chain.now c.args.chain.now.features) (near_slot c.args.chain.now.features) (decimal c.args.chain.now.number) (string_bytes c.put_near_end-2.new.text) (string_bytes c.writeln-2.new.self) c.in_ok-put_near_end-2.ensures goes
    ∙ ap (λ (so_far : List ℕ). so_far ++ last_line c.args.chain.now) (all_features c)
    ∙ append_assoc (string_bytes c.args.text.now) (flat_map (line c.args.chain.now) (range_with_len 0 c.args.chain.now.features)) (last_line c.args.chain.now))
    c.writeln-2.ensures.bytes
