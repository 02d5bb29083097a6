use Rattle.std.proofs.Common.{◌++◌, ◌∷◌, ◌∙◌, ◌+◌, ℕ, List, [], length, ap, sym, subst, arith}
use Rattle.std.proofs.lemmas.List.{length-append}
use Rattle.std.specs.List.{AllByRecursion}
use Rattle.mc_shard.specs.declared.entry.AtEnd.{AtEnd}
use Rattle.mc_entry.specs.Wire.{FitsAt}
use Rattle.mc_entry.proofs.Listing.{fits_more, sent_more}
use Rattle.mc_entry.proofs.reading.read_sent.Goals as goal

pub loop-preserved : goal.loop-preserved
loop-preserved c =
    let pushed = c.push.ensures.items ∙ ap (λ (l : List AtEnd). l ++ c.read_at.result ∷ []) c.in_ok-reserve.ensures.items in
    record {
      few = ap (λ (l : List AtEnd). length l) pushed ∙ (length-append c.loop.sent.items (c.read_at.result ∷ []) ∙ ap (λ (n : ℕ). n + 1) c.loop.invariant.few);
      fits = subst (AllByRecursion FitsAt) (sym pushed) (fits_more c.loop.sent.items c.read_at.result c.loop.invariant.fits c.read_at.ensures.fits);
      reads = λ items more long fits form.
          sent_more items c.loop.sent.items c.push.new.self.items more c.loop.bytes c.read_at.new.bytes c.loop.counter c.read_at.result
          (omega (arith, c.loop-test.true)) fits c.read_at.ensures.reads pushed (c.loop.invariant.reads items more long fits form);
    }
