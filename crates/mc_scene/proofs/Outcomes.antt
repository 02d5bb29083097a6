-- What holds of a call that succeeded.
use Rattle.std.proofs.Common.{OnOk, Result, Ok, Err}

-- what follows for an `Ok` of what is known of it
pub on_ok : {X E P Q : Type 0} (result : Result X E) → (P → Q) → OnOk result P → OnOk result Q
on_ok (Ok x) f known = f known
on_ok (Err e) f known = known
