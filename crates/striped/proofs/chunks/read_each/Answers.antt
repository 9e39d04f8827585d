-- One more chunk: its bits are what the code decodes, and those of earlier chunks stay.
use Rattle.std.proofs.Common.{◌≡◌, ℕ, ◌+◌, ◌*◌, ◌<◌, ◌≤◌, length, arith}
use Rattle.std.proofs.lemmas.Grind.{div_ceil_times}
use Rattle.std.proofs.lemmas.Nat.{mul-le}
use Rattle.striped.specs.Striping.{Striping, striping, chunks, page_bytes}
use Rattle.striped.proofs.ChunkLemmas.{start_below, chunk_within, chunk_is}
use Rattle.striped.specs.Carried.{decoded_is}
use Rattle.striped.proofs.ReadLemmas.{read_more}
use Rattle.striped.proofs.chunks.read_each.Goals as goal

within : (s : Striping) (i n pb : ℕ) → n ≡ chunks s → pb ≡ page_bytes s → i < n → i * s.page_cells + s.page_cells ≤ 8 * pb
within s i n pb e f h = omega (arith, chunk_within s i (omega arith))

at_end : (i n k m x : ℕ) → n ≤ i → m ≤ n * k → x < m → x < i * k
at_end i n k m x h a l = omega (arith, mul-le n k i k h (le_self k))
  where
    le_self : (t : ℕ) → t ≤ t
    le_self t = omega arith

pub overflow_mul-i : goal.overflow_mul-i
overflow_mul-i g c =
    let fits : c.loop-i.i * c.args.layout.page_cells + c.args.layout.page_cells ≤ 8 * c.args.layout.page_bytes =
    within (striping g.row.K c.args.layout.page_cells g.row.N
    (length c.args.sector.now)) c.loop-i.i c.args.layout.chunks c.args.layout.page_bytes c.requires.layout.chunks_are c.requires.layout.page_is c.loop-i-test.true in
    omega (arith, c.requires.layout.short_page)

pub take_chunk-requires-clause-within : goal.take_chunk-requires-clause-within
take_chunk-requires-clause-within g c =
    within (striping g.row.K c.args.layout.page_cells g.row.N
    (length c.args.sector.now)) c.loop-i.i c.args.layout.chunks c.args.layout.page_bytes c.requires.layout.chunks_are c.requires.layout.page_is c.loop-i-test.true

pub put_message-requires-clause-starts : goal.put_message-requires-clause-starts
put_message-requires-clause-starts g c =
    let starts : c.loop-i.i * g.row.K < 8 * length c.args.sector.now =
    start_below (8 * length c.args.sector.now) g.row.K c.loop-i.i c.requires.layout.some_bits (omega (arith, c.requires.layout.chunks_are)) in
    omega (arith, c.loop-i.auto.sector)

pub loop-i-preserved : goal.loop-i-preserved
loop-i-preserved g c = record {
  read =
      read_more (striping g.row.K c.args.layout.page_cells g.row.N (length c.args.sector.now)) g.row.N (g.C.WomCode.decoding c.args.code.now) c.args.bytes.now c.loop-i.sector c.put_message.new.sector
      c.take_chunk.new.words c.decode_words.new.msg c.loop-i.i c.decode_words.ensures.message
      (chunk_is (striping g.row.K c.args.layout.page_cells g.row.N
      (length c.args.sector.now)) g.row.N c.args.bytes.now c.loop-i.i c.args.layout.page_bytes c.take_chunk.new.words c.requires.layout.page_is
      (λ n h. c.take_chunk.ensures.taken n (omega (arith, c.requires.layout.spans))))
      (omega (arith, c.loop-i.auto.sector)) c.put_message.ensures.put c.put_message.ensures.below c.loop-i.invariant.read;
  are = λ k. (c.type_inv.sector k).fits;
}

pub returns : goal.returns
returns g c =
    let all : 8 * length c.args.sector.now ≤ chunks (striping g.row.K c.args.layout.page_cells g.row.N (length c.args.sector.now)) * g.row.K =
    (div_ceil_times (8 * length c.args.sector.now) g.row.K c.requires.layout.some_bits).0 in
    decoded_is (striping g.row.K c.args.layout.page_cells g.row.N (length c.args.sector.now)) g.row.N (g.C.WomCode.decoding c.args.code.now) c.args.bytes.now c.loop-i.sector
    (omega (arith, c.loop-i.auto.sector)) c.loop-i.invariant.are
    (λ x l. c.loop-i.invariant.read x (at_end c.loop-i.i (chunks (striping g.row.K c.args.layout.page_cells g.row.N (length c.args.sector.now))) g.row.K (8 * length c.args.sector.now) x
    (omega (arith, c.requires.layout.chunks_are)) all l) l)
