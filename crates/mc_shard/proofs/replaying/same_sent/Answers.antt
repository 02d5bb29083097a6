use Rattle.std.proofs.Common.{◌≡◌, ◌∙◌, inl, inr, ℕ, Some, true, slice_get, ap, sym, arith}
use Rattle.std.proofs.lemmas.Bool.{cases_eq}
use Rattle.std.proofs.lemmas.Grind.{common_steps}
use Rattle.mc_shard.specs.Same.{is_same_at}
use Rattle.mc_shard.specs.declared.entry.AtEnd.{AtEnd}
use Rattle.mc_shard.proofs.Same.{at_eq, same_by_get}
use Rattle.mc_shard.proofs.replaying.same_sent.Goals as goal

pub loop-i-preserved : goal.loop-i-preserved
loop-i-preserved c k below = elim (cases_eq k c.loop-i.i) [
  | inl same ↦
      let is : is_same_at c.get.result c.get-in-loop-i.result ≡ true = grind (arith, common_steps) in
      ap (λ (n : ℕ). slice_get c.args.a.now.items n) same
      ∙ (sym c.get.ensures ∙ (ap (λ (x : AtEnd). Some x) (at_eq c.get.result c.get-in-loop-i.result is)
      ∙ (c.get-in-loop-i.ensures ∙ ap (λ (n : ℕ). slice_get c.args.b.now.items n) (sym same))))
  | inr apart ↦ c.loop-i.invariant k (omega arith)
]

pub returns : goal.returns
returns c =
    same_by_get c.args.a.now.items c.args.b.now.items (sym c.len-len.ensures ∙ (c.if-len.false ∙ c.len.ensures))
    (λ k inside. c.loop-i.invariant k (omega (arith, c.len-len.ensures)))
