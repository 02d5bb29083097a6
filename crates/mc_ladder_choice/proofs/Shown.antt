-- The elements of a list that pass a test, for one more.
use Rattle.std.proofs.Common.{◌≡◌, ◌<◌, ◌≤◌, ◌+◌, ◌∙◌, ◌++◌, [], ◌∷◌, refl, if◌then◌else◌}
