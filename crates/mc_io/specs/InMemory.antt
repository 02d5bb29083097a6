-- What one call of a source or a sink in memory moves, where it doesn't fail.
use Rattle.std.specs.Prelude.{ℕ, ◌-◌, List, drop, min, vec_len}
use Rattle.mc_io.specs.declared.memory_sink.MemSink.{MemSink}
use Rattle.mc_io.specs.declared.memory_source.MemSource.{MemSource}

-- what a source still has
abbrev pub left_of : MemSource → List ℕ
left_of source = drop source.at source.bytes.items

-- how many bytes it gives into so much room: what is left, as far as there is room and a call gives
abbrev pub read_count : MemSource → ℕ → ℕ
read_count source room = min (min (vec_len source.bytes - source.at) room) source.per_call

-- how many of so many bytes a sink takes: all, as far as it has room and a call takes
abbrev pub write_count : MemSink → ℕ → ℕ
write_count sink count = min (min count (sink.room - vec_len sink.bytes)) sink.per_call
