-- Shards that stay or go.
use Rattle.std.proofs.Common.{◌≡◌, ℕ, List, Option, Some, None, inl, inr, sym, subst}
use Rattle.mc_shard.specs.declared.refused.Refused.{Refused}
use Rattle.mc_shard_writer.specs.Writers.{WriterState}
use Rattle.mc_shard_c.specs.Entries.{RefusesReplay, StaysOrGone, WhyGone, WhyNotBegun}
use Rattle.mc_shard_c.specs.Entries.WhyGone.{refused}
use Rattle.mc_shard_c.specs.Handles.{Of}
use Rattle.mc_shard_c.specs.Texts.{code_of}

module _ (old new : Option WriterState) (writer : WriterState) (bytes : List ℕ) (code : ℕ) where
  pub stays_of : Some writer ≡ old → new ≡ Some writer → WhyNotBegun writer bytes code
      → Of old (λ w. StaysOrGone w new bytes code)
  stays_of is same why = subst (λ (o : Option WriterState). Of o (λ w. StaysOrGone w new bytes code)) is (inl (same, why))

  pub gone_of : Some writer ≡ old → new ≡ None → WhyGone writer bytes code
      → Of old (λ w. StaysOrGone w new bytes code)
  gone_of is none why = subst (λ (o : Option WriterState). Of o (λ w. StaysOrGone w new bytes code)) is (inr (none, why))

  pub gone_refused : (why : Refused) → Some writer ≡ old → new ≡ None → code ≡ code_of why → RefusesReplay writer bytes why
      → Of old (λ w. StaysOrGone w new bytes code)
  gone_refused why is none coded refuses =
      gone_of is none (subst (λ (n : ℕ). WhyGone writer bytes n) (sym coded) (refused why refuses))
