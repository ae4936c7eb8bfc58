-- What a source and a sink in memory hold.
use Rattle.std.specs.Prelude.{ℕ, ◌-◌, List, take, drop, vec_len}
use Rattle.p3_calculator_text.specs.declared.memory.MemSource.{MemSource}
use Rattle.p3_calculator_text.specs.declared.memory.MemSink.{MemSink}

-- the bytes that are still to be read
abbrev pub unread : MemSource → List ℕ
unread source = drop source.at source.bytes.items

-- how many they are
abbrev pub unread_count : MemSource → ℕ
unread_count source = vec_len source.bytes - source.at

-- the bytes that were written
abbrev pub written : MemSink → List ℕ
written sink = take sink.used sink.store.items

-- how many more the sink takes
abbrev pub room_left : MemSink → ℕ
room_left sink = vec_len sink.store - sink.used
