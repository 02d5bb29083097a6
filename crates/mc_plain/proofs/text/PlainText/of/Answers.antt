use Rattle.std.proofs.Common.{◌≡◌, ◌++◌, ℕ, length, List, ap}
use Rattle.std.proofs.lemmas.List.{drop-replicate}
use Rattle.mc_plain.proofs.text.PlainText.of.Goals as goal

pub returns : goal.returns
returns c =
    let bytes : c.as_bytes-bytes.result.now ≡ c.args.text.now = c.as_bytes-bytes.ensures.value in
    rw c.copy_from_slice.ensures.after (rw bytes (ap (λ (zeros : List ℕ). c.args.text.now ++ zeros) (drop-replicate (length c.args.text.now) 48 0)))
