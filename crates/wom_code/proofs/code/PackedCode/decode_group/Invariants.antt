-- The chunks so far are decoded, and no higher bit is set.
use Rattle.std.proofs.Common.{◌≡◌, ℕ, ◌*◌, ◌<◌, ◌^◌}
use Rattle.wom_code.specs.Groups.{chunk_of}
use Rattle.wom_code.proofs.code.PackedCode.decode_group.Given as goal

abbrev pub invariant-loop-j : goal.invariant-loop-j
invariant-loop-j g l = record {
  narrow : l.messages < 2 ^ (l.j * g.row.K);
  decoded : (i : ℕ) → i < l.j → chunk_of g.row.K l.messages i ≡ g.Self.WomCode.decoding l.self (chunk_of g.row.N l.cells i);
}
