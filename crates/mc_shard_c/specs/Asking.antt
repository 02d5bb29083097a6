-- What the numbers of a request and of a signal at a channel end say, and the numbers that C is handed.
use Rattle.std.specs.Prelude.{◌≡◌, ◌==◌, Bool, true, if◌then◌else◌, nat_lt, Option, Some, None}
use Rattle.mc_plain.specs.Numbers.{Says, is_signal, no_list, plain_of}
use Rattle.mc_shard.specs.declared.entry.Asked.{Asked}
use Rattle.mc_shard.specs.declared.entry.AtEnd.{AtEnd}
use Rattle.mc_shard_c.specs.declared.at_end.PlainAsked.{PlainAsked}
use Rattle.mc_shard_c.specs.declared.at_end.PlainAtEnd.{PlainAtEnd}

-- ---- requests

abbrev pub is_asked : PlainAsked → Bool
is_asked plain = nat_lt plain.has_asker 2

-- the request of an asker, if it is one's
abbrev pub asked_of : PlainAsked → Option Asked
asked_of plain = if plain.has_asker == 1 then Some record { asker = plain.asker; number = plain.number } else None

abbrev pub plain_asked : Option Asked → PlainAsked
plain_asked None = record { has_asker = 0; asker = 0; number = 0 }
plain_asked (Some asked) = record { has_asker = 1; asker = asked.asker; number = asked.number }

-- ---- signals

-- the numbers say this signal, and where it is
pub record SaysAt (plain : PlainAtEnd) (at : AtEnd) : Type 0 where
  pub end : at.end ≡ plain.end
  pub number : at.item.number ≡ plain.number
  pub stamp : at.item.stamp ≡ plain.stamp
  pub digest : at.item.digest ≡ plain.digest
  pub tunnel : at.item.tunnel ≡ plain.tunnel
  pub signal : Says plain.signal at.item.signal

-- the numbers of a signal
abbrev pub plain_at : AtEnd → PlainAtEnd
plain_at at = record {
  number = at.item.number;
  stamp = at.item.stamp;
  digest = at.item.digest;
  end = at.end;
  tunnel = at.item.tunnel;
  signal = plain_of at.item.signal;
}

-- no signal
abbrev pub no_plain_at : PlainAtEnd
no_plain_at = record {
  number = 0;
  stamp = 0;
  digest = 0;
  end = 0;
  tunnel = 0;
  signal = record { kind = 0; medium = 0; codecs = no_list; port = 0; origin = 0; version = 0; addr = 0 };
}

-- the numbers of a signal say that signal alone
abbrev pub ToldAgain : Type 0
ToldAgain = (given taken : AtEnd) → SaysAt (plain_at given) taken → taken ≡ given

-- and they say one
abbrev pub IsToldAgain : Type 0
IsToldAgain = (given : AtEnd) → is_signal (plain_at given).signal ≡ true
