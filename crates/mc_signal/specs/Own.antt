-- What an end offers and what it can send: its own descriptor and its sender.
use Rattle.std.specs.Prelude.{ℕ, ◌+◌, Bool, if◌then◌else◌}
use Rattle.mc_signal.specs.declared.codec_list.CodecList.{CodecList}
use Rattle.mc_signal.specs.declared.Descriptor.{Descriptor}
use Rattle.mc_signal.specs.declared.Sender.{Sender}
use Rattle.mc_signal.specs.Empty.{no_codecs}

-- the address of a device that was given none, by its box number
abbrev pub address_of : ℕ → ℕ
address_of who = who + 1

-- the port of a device's slot that was given none, by its local number
abbrev pub port_of : ℕ → ℕ
port_of local = 5000 + local

-- the newest descriptor of a device's slot: it offers the list that the device receives, and nothing where hearing is
-- off
abbrev pub device_descriptor : (origin version addr port : ℕ) → Bool → CodecList → Descriptor
device_descriptor origin version addr port hears receives = record {
  origin = origin;
  version = version;
  addr = addr;
  port = port;
  codecs = if hears then receives else no_codecs;
}

-- the sender of a device's slot: it sends the device's list, and nothing where talking is off
abbrev pub device_sender : (addr port : ℕ) → Bool → CodecList → Sender
device_sender addr port talks sends = record { addr = addr; port = port; codecs = if talks then sends else no_codecs }

-- a feature's slot asks for no media
abbrev pub feature_descriptor : (origin : ℕ) → Descriptor
feature_descriptor origin = record { origin = origin; version = 1; addr = 0; port = 0; codecs = no_codecs }

-- and sends none
abbrev pub feature_sender : Sender
feature_sender = record { addr = 0; port = 0; codecs = no_codecs }
