-- One more chunk: the earlier ones keep their cells, and the later ones still have the old cells.
use Rattle.std.proofs.Common.{◌≡◌, ℕ, ◌+◌, ◌*◌, ◌<◌, ◌≤◌, length, ◌∙◌, refl, inr, arith}
use Rattle.cell_bits.proofs.Above.{above_trans}
use Rattle.wom_code.specs.Packed.{cells_of}
use Rattle.striped.specs.Striping.{Striping, striping, chunks, page_bytes, chunk_cells, chunk_message}
use Rattle.striped.proofs.ChunkLemmas.{start_below, chunk_within, chunk_is, message_is, chunk_stays, IsWrite, write_above, none_carries, carried_more, given_more}
use Rattle.striped.proofs.chunks.write_each.Goals as goal

within : (s : Striping) (i n pb : ℕ) → n ≡ chunks s → pb ≡ page_bytes s → i < n → i * s.page_cells + s.page_cells ≤ 8 * pb
within s i n pb e f h = omega (arith, chunk_within s i (omega arith))

pub overflow_mul-i : goal.overflow_mul-i
overflow_mul-i g c =
    let fits : c.loop-i.i * c.args.layout.page_cells + c.args.layout.page_cells ≤ 8 * c.args.layout.page_bytes =
    within (striping g.row.K c.args.layout.page_cells g.row.N
    (length c.args.sector.now)) c.loop-i.i c.args.layout.chunks c.args.layout.page_bytes c.requires.layout.chunks_are c.requires.layout.page_is c.loop-i-test.true in
    omega (arith, c.requires.layout.short_page)

pub overflow_mul-i-in-Carried : goal.overflow_mul-i-in-Carried
overflow_mul-i-in-Carried g c =
    let fits : c.loop-i.i * c.args.layout.page_cells + c.args.layout.page_cells ≤ 8 * c.args.layout.page_bytes =
    within (striping g.row.K c.args.layout.page_cells g.row.N
    (length c.args.sector.now)) c.loop-i.i c.args.layout.chunks c.args.layout.page_bytes c.requires.layout.chunks_are c.requires.layout.page_is c.loop-i-test.true in
    omega (arith, c.requires.layout.short_page)

pub take_chunk-requires-clause-within : goal.take_chunk-requires-clause-within
take_chunk-requires-clause-within g c =
    within (striping g.row.K c.args.layout.page_cells g.row.N
    (length c.args.sector.now)) c.loop-i.i c.args.layout.chunks c.args.layout.page_bytes c.requires.layout.chunks_are c.requires.layout.page_is c.loop-i-test.true

pub take_message-requires-clause-starts : goal.take_message-requires-clause-starts
take_message-requires-clause-starts g c = start_below (8 * length c.args.sector.now) g.row.K c.loop-i.i c.requires.layout.some_bits (omega (arith, c.requires.layout.chunks_are))

pub returns-in-Declined-clause-declined : goal.returns-in-Declined-clause-declined
returns-in-Declined-clause-declined g c = λ answer.
    let below : c.loop-i.i < chunks (striping g.row.K c.args.layout.page_cells g.row.N (length c.args.sector.now)) = omega (arith, c.requires.layout.chunks_are) in (
      c.loop-i.i,
      below,
      none_carries g.row.N (g.C.WomCode.decoding c.loop-i.code) (g.C.WomCode.decoding c.args.code.now) (cells_of g.row.N c.take_chunk.new.words)
          (chunk_cells (striping g.row.K c.args.layout.page_cells g.row.N (length c.args.sector.now)) g.row.N c.args.bytes.now c.loop-i.i)
          (cells_of g.row.K c.take_message.new.words)
          (chunk_message (striping g.row.K c.args.layout.page_cells g.row.N (length c.args.sector.now)) c.args.sector.now c.loop-i.i)
          c.loop-i.invariant.code
          (chunk_is (striping g.row.K c.args.layout.page_cells g.row.N
          (length c.args.sector.now)) g.row.N c.loop-i.bytes c.loop-i.i c.args.layout.page_bytes c.take_chunk.new.words c.requires.layout.page_is
          (λ n h. c.take_chunk.ensures.taken n (omega (arith, c.requires.layout.spans)))
          ∙ chunk_stays (striping g.row.K c.args.layout.page_cells g.row.N (length c.args.sector.now)) g.row.N c.loop-i.bytes c.args.bytes.now c.args.layout.page_bytes c.loop-i.i
          (λ n. c.loop-i.i * c.args.layout.page_cells ≤ n) c.requires.layout.page_is c.requires.layout.some_cells below c.loop-i.invariant.rest (λ r h. omega arith))
          (message_is (striping g.row.K c.args.layout.page_cells g.row.N (length c.args.sector.now)) c.args.sector.now c.loop-i.i c.take_message.new.words c.take_message.ensures.taken)
          (c.in-Declined.ensures.declined refl),
    )

pub put_chunk-requires-clause-within : goal.put_chunk-requires-clause-within
put_chunk-requires-clause-within g c =
    within (striping g.row.K c.args.layout.page_cells g.row.N
    (length c.args.sector.now)) c.loop-i.i c.args.layout.chunks c.args.layout.page_bytes c.requires.layout.chunks_are c.requires.layout.page_is c.loop-i-test.true

pub loop-i-preserved : goal.loop-i-preserved
loop-i-preserved g c =
    let below : c.loop-i.i < chunks (striping g.row.K c.args.layout.page_cells g.row.N (length c.args.sector.now)) = omega (arith, c.requires.layout.chunks_are) in
    let w : IsWrite c.args.layout.page_cells c.args.layout.span c.loop-i.i c.args.layout.page_bytes c.loop-i.bytes c.put_chunk.new.bytes c.take_chunk.new.words c.over_words.new.out = record {
      some = c.requires.layout.some_cells;
      len_old = omega (arith, c.requires.bytes, c.loop-i.auto.bytes);
      len_new = c.put_chunk.auto.bytes;
      within =
          within (striping g.row.K c.args.layout.page_cells g.row.N
          (length c.args.sector.now)) c.loop-i.i c.args.layout.chunks c.args.layout.page_bytes c.requires.layout.chunks_are c.requires.layout.page_is c.loop-i-test.true;
      taken = c.take_chunk.ensures.taken;
      put = c.put_chunk.ensures.put;
      others = c.put_chunk.ensures.others;
    } in
    record {
      code = λ row. c.in-Carried.ensures.same_code row ∙ c.loop-i.invariant.code row;
      carried = carried_more (striping g.row.K c.args.layout.page_cells g.row.N (length c.args.sector.now)) c.args.layout.span c.loop-i.i c.args.layout.page_bytes
          (g.C.WomCode.decoding c.args.code.now) (g.C.WomCode.decoding c.loop-i.code) c.loop-i.bytes c.put_chunk.new.bytes c.take_chunk.new.words c.over_words.new.out c.take_message.new.words
          c.args.sector.now
          w c.requires.layout.spans c.requires.layout.page_is below (c.in-Carried.ensures.carried refl) c.take_message.ensures.taken c.loop-i.invariant.code c.loop-i.invariant.carried;
      cells = λ before message after. c.in-Carried.ensures.same_cells before message after ∙ c.loop-i.invariant.cells before message after;
      gives = given_more (striping g.row.K c.args.layout.page_cells g.row.N (length c.args.sector.now)) c.args.layout.span c.loop-i.i c.args.layout.page_bytes
          (g.C.WomCode.gives c.args.code.now) (g.C.WomCode.gives c.loop-i.code) c.args.bytes.now c.loop-i.bytes c.put_chunk.new.bytes c.take_chunk.new.words c.over_words.new.out
          c.take_message.new.words c.args.sector.now w c.requires.layout.spans c.requires.layout.page_is below (c.in-Carried.ensures.given refl) c.take_message.ensures.taken
          c.loop-i.invariant.cells
          (chunk_stays (striping g.row.K c.args.layout.page_cells g.row.N (length c.args.sector.now)) g.row.N c.loop-i.bytes c.args.bytes.now c.args.layout.page_bytes c.loop-i.i
          (λ n. c.loop-i.i * c.args.layout.page_cells ≤ n) c.requires.layout.page_is c.requires.layout.some_cells below c.loop-i.invariant.rest (λ r h. omega arith))
          c.loop-i.invariant.gives;
      above = above_trans c.put_chunk.new.bytes c.loop-i.bytes c.args.bytes.now
          (write_above g.row.N c.args.layout.page_cells c.args.layout.span c.loop-i.i c.args.layout.page_bytes c.loop-i.bytes c.put_chunk.new.bytes c.take_chunk.new.words c.over_words.new.out w
          c.requires.layout.spans
          (c.in-Carried.ensures.carried refl).above)
          c.loop-i.invariant.above;
      rest = λ page n h l. c.put_chunk.ensures.others page n h (inr (omega arith)) ∙ c.loop-i.invariant.rest page n h (omega arith);
    }
