use Rattle.std.proofs.Common.{◌≡◌, ◌<◌, List, ℕ, length, arith, refl, sym, subst}
use Rattle.std.proofs.lemmas.List.{length-map}
use Rattle.mc_sums.specs.Sums.{levels_of}
use Rattle.mc_sums.proofs.TreePuts.{put_ends, put_first, put_fits, put_more}
use Rattle.mc_sums.proofs.levels.change.Goals as goal

pub up-init : goal.up-init
up-init c = record {
  puts = put_first (levels_of c.args.levels.now) c.args.place c.args.less c.args.more c.requires.less c.requires.inside;
  begins = λ none. refl;
}

pub up-preserved : goal.up-preserved
up-preserved c =
    let start : List (List ℕ) = levels_of c.args.levels.now in
    let low : c.up.depth < length start = subst (λ (n : ℕ). c.up.depth < n) (sym (length-map c.args.levels.now (λ level. level.items))) c.up-test.true in
    record {
      puts = put_more start (levels_of c.up.levels) (levels_of c.change_at.new.levels) c.args.place c.args.less c.args.more c.up.depth c.up.here
          c.requires.sums c.up.invariant.begins low c.up.invariant.puts c.change_at.ensures;
      begins = λ none. absurd (omega arith);
    }

pub change_at-requires-clause-fits : goal.change_at-requires-clause-fits
change_at-requires-clause-fits c =
    let start : List (List ℕ) = levels_of c.args.levels.now in
    let low : c.up.depth < length start = subst (λ (n : ℕ). c.up.depth < n) (sym (length-map c.args.levels.now (λ level. level.items))) c.up-test.true in
    put_fits start (levels_of c.up.levels) c.args.place c.args.less c.args.more c.up.depth c.up.here c.requires.sums low c.requires.fits c.up.invariant.puts

pub returns-clause-sums : goal.returns-clause-sums
returns-clause-sums c =
    let start : List (List ℕ) = levels_of c.args.levels.now in
    let is : c.up.depth ≡ length start = subst (λ (n : ℕ). c.up.depth ≡ n) (sym (length-map c.args.levels.now (λ level. level.items))) (omega arith) in
    put_ends start (levels_of c.up.levels) c.args.place c.args.less c.args.more c.up.depth c.up.here c.requires.sums is c.up.invariant.puts
