-- One more group: the earlier chunks keep their cells, and the later ones still have the old cells.
use Rattle.std.proofs.Common.{◌≡◌, ℕ, ◌+◌, ◌-◌, ◌*◌, ◌/◌, ◌≤◌, min, Bool, List, length, ◌∙◌, ap₂, sym, subst, refl, arith}
use Rattle.striped.specs.Striping.{Striping, striping, chunks, page_bytes}
use Rattle.striped.specs.Writes.{striping_of, WritesChunks}
use Rattle.striped.specs.declared.chunks.Layout.{Layout}
use Rattle.striped.proofs.ChunkLemmas.{start_below}
use Rattle.striped.proofs.GroupLemmas.{IsBegun, one_span, group_within, begun_more, begun_declines, whole_within, whole_here, whole_chunks, short_here, turn_room, turns_rest, next_turn, turns_end}
use Rattle.striped.proofs.groups.write_groups.Goals as goal

room : (s : Striping) (n done count bytes span size : ℕ) → s.page_cells ≡ n → 1 ≤ count → done + count ≤ chunks s → bytes ≡ span * size → span ≡ 1 → size ≡ page_bytes s
    → done * n + count * n ≤ 8 * bytes
room s n done count bytes span size e some h long one page =
    let fits : done * n + count * n ≤ 8 * page_bytes s = group_within s n done count e some h in
    let whole : size ≡ bytes = one_span bytes span size long one in
    omega arith

-- where all chunks are done
written : (layout : Layout) (k n done : ℕ) (decode : List Bool → List Bool) (given : List Bool → List Bool → List Bool → Bool) (old new sector : List ℕ) → layout.page_cells ≡ n
    → done ≡ layout.chunks → layout.chunks ≡ chunks (striping_of layout k n sector) →
    IsBegun (striping_of layout k n sector) n done decode given old new sector → WritesChunks layout k n decode given old new sector
written layout k n done decode given old new sector cells all chunks b = record {
  gives = λ i h. b.gives i (omega arith);
  carried = λ i h. b.carried i (omega arith);
  above = b.above;
  rest = λ page c h l. let used : layout.chunks * layout.page_cells ≡ done * n = ap₂ (λ (x y : ℕ). x * y) (sym all) cells in b.rest (8 * layout.page_bytes * page + c) (omega arith);
}

pub write_group-requires-clause-within : goal.write_group-requires-clause-within
write_group-requires-clause-within g c =
    room (striping g.row.K c.args.layout.page_cells g.row.N (length c.args.sector.now)) g.row.N (c.loop-turn.turn * c.group_of-group.result) c.group_of-group.result
    (length c.loop-turn.bytes) c.args.layout.span c.args.layout.page_bytes (one_span g.row.N c.args.layout.span c.args.layout.page_cells c.requires.layout.spans c.requires.one_page)
    c.group_of-group.ensures.some (whole_chunks (8 * length c.args.sector.now) g.row.K (c.loop-turn.turn * c.group_of-group.result) c.group_of-group.result c.group_of-group.ensures.some
    (turn_room (8 * length c.args.sector.now / g.row.K) c.group_of-group.result c.loop-turn.turn c.loop-turn-test.true))
    (c.loop-turn.auto.bytes ∙ c.requires.bytes) c.requires.one_page c.requires.layout.page_is

pub write_group-requires-clause-here : goal.write_group-requires-clause-here
write_group-requires-clause-here g c =
    whole_here (8 * length c.args.sector.now) g.row.K (c.loop-turn.turn * c.group_of-group.result) c.group_of-group.result c.requires.layout.some_bits c.group_of-group.ensures.some
    (turn_room (8 * length c.args.sector.now / g.row.K) c.group_of-group.result c.loop-turn.turn c.loop-turn-test.true)

pub write_group-requires-clause-starts : goal.write_group-requires-clause-starts
write_group-requires-clause-starts g c =
    (whole_within (8 * length c.args.sector.now) g.row.K (c.loop-turn.turn * c.group_of-group.result) c.group_of-group.result c.requires.layout.some_bits c.group_of-group.ensures.some
    (turn_room (8 * length c.args.sector.now / g.row.K) c.group_of-group.result c.loop-turn.turn c.loop-turn-test.true)).1

pub returns-in-Declined-clause-declined : goal.returns-in-Declined-clause-declined
returns-in-Declined-clause-declined g c = λ answer.
    begun_declines (striping g.row.K c.args.layout.page_cells g.row.N (length c.args.sector.now)) g.row.N (c.loop-turn.turn * c.group_of-group.result) c.group_of-group.result
    (g.C.WomCode.decoding c.loop-turn.code) (g.C.WomCode.decoding c.args.code.now) c.args.bytes.now c.loop-turn.bytes c.args.sector.now
    (one_span g.row.N c.args.layout.span c.args.layout.page_cells c.requires.layout.spans c.requires.one_page) c.loop-turn.invariant.code
    (whole_chunks (8 * length c.args.sector.now) g.row.K (c.loop-turn.turn * c.group_of-group.result) c.group_of-group.result c.group_of-group.ensures.some
    (turn_room (8 * length c.args.sector.now / g.row.K) c.group_of-group.result c.loop-turn.turn c.loop-turn-test.true)) c.loop-turn.invariant.begun (c.in-Declined.ensures.declined refl)

pub loop-turn-preserved : goal.loop-turn-preserved
loop-turn-preserved g c = record {
  code = λ row. c.write_group.ensures.same_code row ∙ c.loop-turn.invariant.code row;
  cells = λ before message after. c.write_group.ensures.same_cells before message after ∙ c.loop-turn.invariant.cells before message after;
  begun =
      subst (λ d. IsBegun (striping g.row.K c.args.layout.page_cells g.row.N (length c.args.sector.now)) g.row.N d (g.C.WomCode.decoding c.args.code.now)
      (g.C.WomCode.gives c.args.code.now) c.args.bytes.now c.write_group.new.bytes c.args.sector.now) (next_turn c.loop-turn.turn c.group_of-group.result)
      (begun_more (striping g.row.K c.args.layout.page_cells g.row.N (length c.args.sector.now)) g.row.N (c.loop-turn.turn * c.group_of-group.result) c.group_of-group.result
      (g.C.WomCode.decoding c.loop-turn.code) (g.C.WomCode.decoding c.args.code.now) (g.C.WomCode.gives c.loop-turn.code)
      (g.C.WomCode.gives c.args.code.now) c.args.bytes.now c.loop-turn.bytes c.write_group.new.bytes c.args.sector.now
      (one_span g.row.N c.args.layout.span c.args.layout.page_cells c.requires.layout.spans c.requires.one_page)
      (omega (arith, c.requires.layout.some_bits)) c.loop-turn.invariant.code c.loop-turn.invariant.cells c.loop-turn.invariant.begun (c.in-Carried.ensures.written refl));
}

pub write_group-requires-then-done-layout-clause-within : goal.write_group-requires-then-done-layout-clause-within
write_group-requires-then-done-layout-clause-within g c =
    room (striping g.row.K c.args.layout.page_cells g.row.N (length c.args.sector.now)) g.row.N ((8 * length c.args.sector.now / g.row.K) / c.group_of-group.result * c.group_of-group.result)
    (c.args.layout.chunks - ((8 * length c.args.sector.now / g.row.K) / c.group_of-group.result * c.group_of-group.result))
    (length c.loop-turn.bytes) c.args.layout.span c.args.layout.page_bytes (one_span g.row.N c.args.layout.span c.args.layout.page_cells c.requires.layout.spans c.requires.one_page)
    (omega (arith, c.if-done-layout.true)) (omega (arith, c.if-done-layout.true, c.requires.layout.chunks_are))
    (c.loop-turn.auto.bytes ∙ c.requires.bytes) c.requires.one_page c.requires.layout.page_is

pub write_group-requires-then-done-layout-clause-starts : goal.write_group-requires-then-done-layout-clause-starts
write_group-requires-then-done-layout-clause-starts g c =
    start_below (8 * length c.args.sector.now) g.row.K ((8 * length c.args.sector.now / g.row.K) / c.group_of-group.result * c.group_of-group.result) c.requires.layout.some_bits
    (omega (arith, c.if-done-layout.true, c.requires.layout.chunks_are))

pub write_group-requires-then-done-layout-clause-here : goal.write_group-requires-then-done-layout-clause-here
write_group-requires-then-done-layout-clause-here g c =
    subst (λ n. (8 * length c.args.sector.now) - ((8 * length c.args.sector.now / g.row.K) / c.group_of-group.result * c.group_of-group.result) * g.row.K
    ≡ min ((n - ((8 * length c.args.sector.now / g.row.K) / c.group_of-group.result * c.group_of-group.result)) * g.row.K)
    ((8 * length c.args.sector.now) - ((8 * length c.args.sector.now / g.row.K) / c.group_of-group.result * c.group_of-group.result) * g.row.K)) (sym c.requires.layout.chunks_are)
    (short_here (8 * length c.args.sector.now) g.row.K ((8 * length c.args.sector.now / g.row.K) / c.group_of-group.result * c.group_of-group.result) c.requires.layout.some_bits
    (omega (arith, c.if-done-layout.true, c.requires.layout.chunks_are)))

pub returns-then-done-layout-clause-written : goal.returns-then-done-layout-clause-written
returns-then-done-layout-clause-written g c = λ answer.
    let last : IsBegun (striping g.row.K c.args.layout.page_cells g.row.N (length c.args.sector.now)) g.row.N
    (((8 * length c.args.sector.now / g.row.K) / c.group_of-group.result * c.group_of-group.result)
    + (c.args.layout.chunks - ((8 * length c.args.sector.now / g.row.K) / c.group_of-group.result * c.group_of-group.result))) (g.C.WomCode.decoding c.args.code.now)
    (g.C.WomCode.gives c.args.code.now) c.args.bytes.now c.write_group-then-done-layout.new.bytes c.args.sector.now =
    begun_more (striping g.row.K c.args.layout.page_cells g.row.N (length c.args.sector.now)) g.row.N ((8 * length c.args.sector.now / g.row.K) / c.group_of-group.result * c.group_of-group.result)
    (c.args.layout.chunks - ((8 * length c.args.sector.now / g.row.K) / c.group_of-group.result * c.group_of-group.result)) (g.C.WomCode.decoding c.loop-turn.code)
    (g.C.WomCode.decoding c.args.code.now) (g.C.WomCode.gives c.loop-turn.code)
    (g.C.WomCode.gives c.args.code.now) c.args.bytes.now c.loop-turn.bytes c.write_group-then-done-layout.new.bytes c.args.sector.now
    (one_span g.row.N c.args.layout.span c.args.layout.page_cells c.requires.layout.spans c.requires.one_page)
    (omega (arith, c.requires.layout.some_bits)) c.loop-turn.invariant.code c.loop-turn.invariant.cells
    (subst (λ t. IsBegun (striping g.row.K c.args.layout.page_cells g.row.N (length c.args.sector.now)) g.row.N (t * c.group_of-group.result) (g.C.WomCode.decoding c.args.code.now)
    (g.C.WomCode.gives c.args.code.now) c.args.bytes.now c.loop-turn.bytes c.args.sector.now)
    (turns_end c.loop-turn.turn ((8 * length c.args.sector.now / g.row.K) / c.group_of-group.result) c.loop-turn.auto.turn-end c.loop-turn-test.false) c.loop-turn.invariant.begun)
    (c.write_group-then-done-layout.ensures.written answer) in
    written c.args.layout g.row.K g.row.N (((8 * length c.args.sector.now / g.row.K) / c.group_of-group.result * c.group_of-group.result)
    + (c.args.layout.chunks - ((8 * length c.args.sector.now / g.row.K) / c.group_of-group.result * c.group_of-group.result))) (g.C.WomCode.decoding c.args.code.now)
    (g.C.WomCode.gives c.args.code.now) c.args.bytes.now c.write_group-then-done-layout.new.bytes c.args.sector.now
    (one_span g.row.N c.args.layout.span c.args.layout.page_cells c.requires.layout.spans c.requires.one_page)
    (omega (arith, c.if-done-layout.true)) c.requires.layout.chunks_are last

pub returns-then-done-layout-clause-declined : goal.returns-then-done-layout-clause-declined
returns-then-done-layout-clause-declined g c = λ answer.
    begun_declines (striping g.row.K c.args.layout.page_cells g.row.N (length c.args.sector.now)) g.row.N
    ((8 * length c.args.sector.now / g.row.K) / c.group_of-group.result * c.group_of-group.result)
    (c.args.layout.chunks - ((8 * length c.args.sector.now / g.row.K) / c.group_of-group.result * c.group_of-group.result)) (g.C.WomCode.decoding c.loop-turn.code)
    (g.C.WomCode.decoding c.args.code.now) c.args.bytes.now c.loop-turn.bytes c.args.sector.now
    (one_span g.row.N c.args.layout.span c.args.layout.page_cells c.requires.layout.spans c.requires.one_page) c.loop-turn.invariant.code
    (omega (arith, c.if-done-layout.true, c.requires.layout.chunks_are))
    (subst (λ t. IsBegun (striping g.row.K c.args.layout.page_cells g.row.N (length c.args.sector.now)) g.row.N (t * c.group_of-group.result) (g.C.WomCode.decoding c.args.code.now)
    (g.C.WomCode.gives c.args.code.now) c.args.bytes.now c.loop-turn.bytes c.args.sector.now)
    (turns_end c.loop-turn.turn ((8 * length c.args.sector.now / g.row.K) / c.group_of-group.result) c.loop-turn.auto.turn-end c.loop-turn-test.false) c.loop-turn.invariant.begun)
    (c.write_group-then-done-layout.ensures.declined answer)

pub returns-clause-written : goal.returns-clause-written
returns-clause-written g c = λ answer.
    written c.args.layout g.row.K g.row.N ((8 * length c.args.sector.now / g.row.K) / c.group_of-group.result * c.group_of-group.result) (g.C.WomCode.decoding c.args.code.now)
    (g.C.WomCode.gives c.args.code.now) c.args.bytes.now c.loop-turn.bytes c.args.sector.now
    (one_span g.row.N c.args.layout.span c.args.layout.page_cells c.requires.layout.spans c.requires.one_page)
    (let e = c.if-done-layout.false in let w = (turns_rest (8 * length c.args.sector.now / g.row.K) c.group_of-group.result c.group_of-group.ensures.some).0 in
    omega (arith, c.requires.layout.chunks_are)) c.requires.layout.chunks_are
    (subst (λ t. IsBegun (striping g.row.K c.args.layout.page_cells g.row.N (length c.args.sector.now)) g.row.N (t * c.group_of-group.result) (g.C.WomCode.decoding c.args.code.now)
    (g.C.WomCode.gives c.args.code.now) c.args.bytes.now c.loop-turn.bytes c.args.sector.now)
    (turns_end c.loop-turn.turn ((8 * length c.args.sector.now / g.row.K) / c.group_of-group.result) c.loop-turn.auto.turn-end c.loop-turn-test.false) c.loop-turn.invariant.begun)
