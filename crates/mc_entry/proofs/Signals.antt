-- A signal is read from the bytes in which it was written.
use Rattle.std.proofs.Common.{◌≡◌, ◌≢◌, refl, ◌∙◌}
