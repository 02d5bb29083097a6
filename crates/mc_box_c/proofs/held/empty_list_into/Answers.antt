use Rattle.std.specs.Prelude.{replicate}
use Rattle.std.proofs.Common.{ℕ, ◌≡◌, ◌+◌, ◌≤◌, ap, ◌<◌, ◌∷◌, ◌∙◌, ◌-◌, arith, length, drop, refl, rules, sym}
use Rattle.std.proofs.lemmas.List.{length-set}
use Rattle.mc_plain.specs.Numbers.{sent_of}
use Rattle.mc_box_c.proofs.Blanks.{nothing, blank}
use Rattle.mc_plain.proofs.Written.{all_blank, drop_after, drop_read, long, same_length, written_next}
use Rattle.mc_box_c.proofs.held.empty_list_into.Goals as goal

pub loop-i-init : goal.loop-i-init
loop-i-init c = record {
  len = refl;
  within = omega arith;
  places = long c.args.sends.now.len c.args.sends.now.at (sym (ap length c.as_slice-count.ensures.sends) ∙ c.as_slice-count.ensures.len);
  blank = refl;
  written = refl;
}

pub loop-i-preserved : goal.loop-i-preserved
loop-i-preserved c =
    let i = c.loop-i.i in
    let more : i < c.args.sends.now.len = search rules in
    let here : i < length c.loop-i.sends.at = omega (arith, more, c.loop-i.invariant.places) in
    let same : length c.args.sends.now.at ≡ length c.loop-i.sends.at = sym (same_length nothing i c.args.sends.now.at) ∙ sym (ap length c.loop-i.invariant.blank) in
    let there : i < length c.args.sends.now.at = omega (arith, here, same) in
    let room : i < length c.args.out.now = omega (arith, more, c.requires.room) in
    let read : drop i c.loop-i.sends.at ≡ c.index-sends-i.result ∷ drop (i + 1) c.loop-i.sends.at = drop_read c.loop-i.sends.at i c.index-sends-i.result here c.index-sends-i.is in
    let first : drop i c.args.sends.now.at ≡ c.index-sends-i.result ∷ drop (i + 1) c.loop-i.sends.at = sym (drop_after nothing i c.args.sends.now.at c.loop-i.sends.at (omega (arith, there)) c.loop-i.invariant.blank) ∙ read in
    record {
      len = c.loop-i.invariant.len;
      within = omega (arith, more);
      places = omega (arith, c.loop-i.invariant.places, length-set c.loop-i.sends.at i nothing);
      blank = written_next blank i c.args.sends.now.at c.args.sends.now.at c.loop-i.sends.at c.index-sends-i.result _ first there c.loop-i.invariant.blank;
      written = rw c.set.ensures (rw (sym c.index-sends-i.is) (written_next sent_of i c.args.sends.now.at c.args.out.now c.loop-i.out c.index-sends-i.result _ first room c.loop-i.invariant.written));
    }

pub invariant_of-sends-2 : goal.invariant_of-sends-2
invariant_of-sends-2 c =
    let short : c.args.sends.now.len ≤ 4 = c.args.sends.now.short in
    let end : c.loop-i.i ≡ c.args.sends.now.len = search rules in
    let same : length c.args.sends.now.at ≡ length c.loop-i.sends.at = sym (same_length nothing c.loop-i.i c.args.sends.now.at) ∙ sym (ap length c.loop-i.invariant.blank) in
    let within : c.loop-i.i ≤ length c.args.sends.now.at = omega (arith, end, same, c.loop-i.invariant.places) in
    let rest : drop c.loop-i.i c.args.sends.now.at ≡ replicate (4 - c.loop-i.i) nothing = rw end c.args.sends.now.blank in
    let all : c.loop-i.i + (4 - c.loop-i.i) ≡ 4 = omega (arith, short, end) in
    let alike : c.loop-i.sends.at ≡ replicate (c.loop-i.i + (4 - c.loop-i.i)) nothing = all_blank nothing c.loop-i.i (4 - c.loop-i.i) c.args.sends.now.at c.loop-i.sends.at within rest c.loop-i.invariant.blank in
    record {
      short = search rules;
      blank = alike ∙ ap (λ (n : ℕ). replicate n nothing) all;
    }
