-- One place fewer is blank after a push.
use Rattle.std.proofs.Common.{◌≡◌, ◌+◌, ◌-◌, ◌<◌, ℕ, List, drop, slice_set, arith}
use Rattle.std.proofs.Math.ListN.{replicate}
use Rattle.std.proofs.lemmas.List.{drop-set-lt, drop-replicate}
use Rattle.std.proofs.lemmas.Grind.{common_steps}

-- what is left of the blank places
pub blank-push : {A : Type 0} (at : List A) (len : ℕ) (blank item : A) → len < 4
    → drop len at ≡ replicate (4 - len) blank → drop (len + 1) (slice_set at len item) ≡ replicate (4 - (len + 1)) blank
blank-push at len blank item room e = grind (arith, common_steps, drop-set-lt, drop-replicate)
