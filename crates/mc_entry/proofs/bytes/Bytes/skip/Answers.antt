use Rattle.std.proofs.Common.{◌∙◌, arith}
use Rattle.mc_entry.proofs.Listing.{zeros_read}
use Rattle.mc_entry.proofs.bytes.Bytes.skip.Goals as goal

pub returns : goal.returns
returns c more form = zeros_read c.args.count c.min-skipped.result c.self.inside.rest.now more (λ low. omega (arith, c.min-skipped.ensures)) (c.self.view_is ∙ form)
