-- Names are short.
use Rattle.std.proofs.Common.{◌≤◌, ℕ, List, length, IsTrue}
use Rattle.std.proofs.lemmas.Bool.{and_parts, leb-true}
use Rattle.mc_text.specs.Spelling.{is_name, is_spelt}
use Rattle.mc_text.specs.declared.limit.TheConstants.{NAME_LIMIT}
use Rattle.std.specs.Prelude.{nat_le}

-- a name has no more bytes than its limit
pub name_few : (word : List ℕ) → IsTrue (is_name word) → length word ≤ NAME_LIMIT
name_few word is = leb-true (length word) NAME_LIMIT (and_parts (is_spelt word) (nat_le (length word) NAME_LIMIT) is).1
