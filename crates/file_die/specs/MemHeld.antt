-- What a mirror in memory keeps.
use Rattle.std.specs.Prelude.{ℕ, List}
use Rattle.file_die.specs.declared.mirror.MemMirror.{MemMirror}

abbrev pub mem_held : MemMirror → List ℕ
mem_held mirror = mirror.bytes.items
