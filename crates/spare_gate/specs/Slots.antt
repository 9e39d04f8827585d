-- The slots of a spare area, 16 bytes each: a gate byte, a header word and a seal byte.
use Rattle.std.specs.Prelude.{ℕ, ◌+◌, ◌*◌, Bool, List, ◌++◌, take, drop, ◌&&◌, ◌==◌, slice_index, slice_range, Option}
use Rattle.cell_bits.specs.Cells.{is_charged, is_blank, with_charged}
use Rattle.zero_count.specs.declared.Header.{Header}
use Rattle.zero_count.specs.HeaderWord.{spelling, header_of}

-- the 14 bytes of a slot's header word
abbrev pub word_at : List ℕ → ℕ → List ℕ
word_at spare slot = slice_range spare (16 * slot + 1) (16 * slot + 15)

-- the gate is the lowest bit of the slot's first byte
abbrev pub is_gate_charged : List ℕ → ℕ → Bool
is_gate_charged spare slot = is_charged spare (128 * slot)

-- the seal is the lowest bit of slot 1's last byte
abbrev pub is_seal_charged : List ℕ → Bool
is_seal_charged spare = is_charged spare 248

-- a slot is blank: its gate byte and its header word are all zero; its last byte is not looked at
abbrev pub is_slot_blank : List ℕ → ℕ → Bool
is_slot_blank spare slot = slice_index spare (16 * slot) == 0 && is_blank (word_at spare slot)

-- the header of a slot whose word is valid
abbrev pub header_at : List ℕ → ℕ → Option Header
header_at spare slot = header_of (word_at spare slot)

-- the spare area with a header's word in a slot
abbrev pub with_header : List ℕ → ℕ → Header → List ℕ
with_header spare slot header = take (16 * slot + 1) spare ++ spelling header ++ drop (16 * slot + 15) spare

-- the spare area with a record in a slot: the word of its header, and its gate
abbrev pub with_record : List ℕ → ℕ → Header → List ℕ
with_record spare slot header = with_charged (with_header spare slot header) (128 * slot)

-- the gate of a slot as a cell of a page with this many main bytes
abbrev pub gate_cell_of : ℕ → ℕ → ℕ
gate_cell_of main_bytes slot = 8 * main_bytes + 128 * slot

-- the seal as a cell of such a page
abbrev pub seal_cell_of : ℕ → ℕ
seal_cell_of main_bytes = 8 * main_bytes + 248
