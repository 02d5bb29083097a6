-- What a code says, and the codes of a shard's refusals.
use Rattle.std.specs.Prelude.{ℕ, Bool, ◌==◌, codes, if◌then◌else◌, List, nat_lt}
use Rattle.mc_plain.specs.Texts.{text_of as plain_text_of}
use Rattle.mc_shard.specs.declared.refused.Refused.{Refused}
use Rattle.mc_shard.specs.declared.refused.Refused.TheVariants.{Ahead, Differs, Digest, NoAsker, NoBox, NoEnd, NoMemory, NoTunnel, NotEnabled, Stamp, Unlawful, VersionEnd}
use Rattle.mc_shard_c.specs.declared.answer.TheConstants.{NO_BOX, MEMORY, UNLAWFUL, DISABLED, VERSION_END, NO_SHARD, HAS_SHARD, WAITS, NONE_WAITS, NO_ASKER, NO_END, NO_TUNNEL, AHEAD, DIGEST, STAMP, NO_ENTRY, DIFFERS, NO_SNAPSHOT}

-- the number is a code
abbrev pub is_code : ℕ → Bool
is_code code = nat_lt code 23

-- what a code says, and nothing where the number is none
abbrev pub text_of : ℕ → List ℕ
text_of code =
    if code == NO_SHARD then codes "there is no shard" else
    if code == HAS_SHARD then codes "there is a shard already" else
    if code == WAITS then codes "an entry waits" else
    if code == NONE_WAITS then codes "no entry waits" else
    if code == NO_ASKER then codes "there is no such asker" else
    if code == NO_END then codes "there is no such channel end" else
    if code == NO_TUNNEL then codes "no slot has this tunnel of the channel end" else
    if code == AHEAD then codes "it isn't the next, but a later one" else
    if code == DIGEST then codes "the digest doesn't go on from the last one" else
    if code == STAMP then codes "there is no stamp for the turn" else
    if code == NO_ENTRY then codes "the bytes don't begin with an entry" else
    if code == DIFFERS then codes "the boxes don't make this entry" else
    if code == NO_SNAPSHOT then codes "the bytes are no snapshot" else plain_text_of code

-- the code of a shard's refusal
abbrev pub code_of : Refused → ℕ
code_of NoBox = NO_BOX
code_of NoAsker = NO_ASKER
code_of NoEnd = NO_END
code_of NoTunnel = NO_TUNNEL
code_of NotEnabled = DISABLED
code_of VersionEnd = VERSION_END
code_of Unlawful = UNLAWFUL
code_of Ahead = AHEAD
code_of Digest = DIGEST
code_of Stamp = STAMP
code_of Differs = DIFFERS
code_of NoMemory = MEMORY
