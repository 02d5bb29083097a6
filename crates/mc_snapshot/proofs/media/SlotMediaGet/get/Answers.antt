use Rattle.std.proofs.Common.{Bool, Option, ap, ℕ}
use Rattle.mc_box.specs.declared.setup.MediaAddress.{MediaAddress}
use Rattle.mc_box.specs.declared.setup.SlotMedia.{SlotMedia}
use Rattle.mc_snapshot.proofs.media.SlotMediaGet.get.Goals as goal

abbrev media_of : ℕ × (ℕ × (Bool × (Bool × Option MediaAddress))) → SlotMedia
media_of fields = record {
  origin = fields.0;
  version = fields.1.0;
  hears = fields.1.1.0;
  talks = fields.1.1.1.0;
  address = fields.1.1.1.1;
}

pub returns-clause-reads : goal.returns-clause-reads
returns-clause-reads c media more fits form =
    let both = c.in_ok-origin.ensures.reads (media.origin, (media.version, (media.hears, (media.talks, media.address)))) more
    (fits.origin, (fits.version, (tt, (tt, fits.address)))) form in
    (ap media_of both.0, both.1)
