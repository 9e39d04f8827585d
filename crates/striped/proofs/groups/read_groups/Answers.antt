-- One more group: its bits are what the code decodes, and those of earlier chunks stay.
use Rattle.std.proofs.Common.{◌≡◌, ℕ, ◌+◌, ◌-◌, ◌*◌, ◌/◌, ◌<◌, ◌≤◌, min, length, sym, subst, arith}
use Rattle.std.proofs.lemmas.Grind.{div_ceil_times}
use Rattle.std.proofs.lemmas.Nat.{mul-le}
use Rattle.cell_bits.specs.Cells.{is_charged}
use Rattle.striped.specs.Striping.{Striping, striping, chunks, page_bytes, decoded_bit}
use Rattle.striped.specs.Carried.{decoded_is}
use Rattle.striped.proofs.ChunkLemmas.{start_below}
use Rattle.striped.proofs.GroupLemmas.{one_span, group_within, group_read, whole_within, whole_here, whole_chunks, short_here, turn_room, next_turn, turns_end}
use Rattle.striped.proofs.groups.read_groups.Goals as goal

at_end : (i n k m x : ℕ) → n ≤ i → m ≤ n * k → x < m → x < i * k
at_end i n k m x h a l = omega (arith, mul-le n k i k h (le_self k))
  where
    le_self : (t : ℕ) → t ≤ t
    le_self t = omega arith

room : (s : Striping) (n done count bytes span size : ℕ) → s.page_cells ≡ n → 1 ≤ count → done + count ≤ chunks s → bytes ≡ span * size → span ≡ 1 → size ≡ page_bytes s
    → done * n + count * n ≤ 8 * bytes
room s n done count bytes span size e some h long one page =
    let fits : done * n + count * n ≤ 8 * page_bytes s = group_within s n done count e some h in
    let whole : size ≡ bytes = one_span bytes span size long one in
    omega arith

pub read_group-requires-clause-within : goal.read_group-requires-clause-within
read_group-requires-clause-within g c =
    room (striping g.row.K c.args.layout.page_cells g.row.N (length c.args.sector.now)) g.row.N (c.loop-turn.turn * c.group_of-group.result) c.group_of-group.result
    (length c.args.bytes.now) c.args.layout.span c.args.layout.page_bytes (one_span g.row.N c.args.layout.span c.args.layout.page_cells c.requires.layout.spans c.requires.one_page)
    c.group_of-group.ensures.some (whole_chunks (8 * length c.args.sector.now) g.row.K (c.loop-turn.turn * c.group_of-group.result) c.group_of-group.result c.group_of-group.ensures.some
    (turn_room (8 * length c.args.sector.now / g.row.K) c.group_of-group.result c.loop-turn.turn c.loop-turn-test.true)) c.requires.bytes c.requires.one_page c.requires.layout.page_is

pub read_group-requires-clause-here : goal.read_group-requires-clause-here
read_group-requires-clause-here g c =
    let same : length c.loop-turn.sector ≡ length c.args.sector.now = c.loop-turn.auto.sector in
    subst (λ n. c.group_of-group.result * g.row.K ≡ min (c.group_of-group.result * g.row.K) (8 * n - (c.loop-turn.turn * c.group_of-group.result) * g.row.K)) (sym same)
    (whole_here (8 * length c.args.sector.now) g.row.K (c.loop-turn.turn * c.group_of-group.result) c.group_of-group.result c.requires.layout.some_bits c.group_of-group.ensures.some
    (turn_room (8 * length c.args.sector.now / g.row.K) c.group_of-group.result c.loop-turn.turn c.loop-turn-test.true))

pub read_group-requires-clause-starts : goal.read_group-requires-clause-starts
read_group-requires-clause-starts g c =
    let starts : (c.loop-turn.turn * c.group_of-group.result) * g.row.K < (8 * length c.args.sector.now) =
    (whole_within (8 * length c.args.sector.now) g.row.K (c.loop-turn.turn * c.group_of-group.result) c.group_of-group.result c.requires.layout.some_bits c.group_of-group.ensures.some
    (turn_room (8 * length c.args.sector.now / g.row.K) c.group_of-group.result c.loop-turn.turn c.loop-turn-test.true)).1 in
    omega (arith, c.loop-turn.auto.sector)

pub loop-turn-preserved : goal.loop-turn-preserved
loop-turn-preserved g c = record {
  read =
      subst (λ d. (x : ℕ) → x < d * g.row.K → x < 8 * length c.args.sector.now
      → is_charged c.read_group.new.sector x ≡ decoded_bit (striping g.row.K c.args.layout.page_cells g.row.N (length c.args.sector.now)) g.row.N
      (g.C.WomCode.decoding c.args.code.now) c.args.bytes.now x) (next_turn c.loop-turn.turn c.group_of-group.result)
      (group_read (striping g.row.K c.args.layout.page_cells g.row.N (length c.args.sector.now)) g.row.N (c.loop-turn.turn * c.group_of-group.result) c.group_of-group.result
      (g.C.WomCode.decoding c.args.code.now)
      c.args.bytes.now c.loop-turn.sector c.read_group.new.sector c.read_group.ensures.cells c.read_group.ensures.messages
      (one_span g.row.N c.args.layout.span c.args.layout.page_cells c.requires.layout.spans c.requires.one_page) c.requires.layout.some_bits
      (omega (arith, c.loop-turn.auto.sector)) c.read_group.ensures.taken c.read_group.ensures.decodes c.read_group.ensures.put c.read_group.ensures.below c.loop-turn.invariant.read);
  are = λ k. (c.type_inv.sector k).fits;
}

pub read_group-requires-then-done-layout-clause-within : goal.read_group-requires-then-done-layout-clause-within
read_group-requires-then-done-layout-clause-within g c =
    room (striping g.row.K c.args.layout.page_cells g.row.N (length c.args.sector.now)) g.row.N ((8 * length c.args.sector.now / g.row.K) / c.group_of-group.result * c.group_of-group.result)
    (c.args.layout.chunks - ((8 * length c.args.sector.now / g.row.K) / c.group_of-group.result * c.group_of-group.result)) (length c.args.bytes.now) c.args.layout.span c.args.layout.page_bytes
    (one_span g.row.N c.args.layout.span c.args.layout.page_cells c.requires.layout.spans c.requires.one_page)
    (omega (arith, c.if-done-layout.true)) (omega (arith, c.if-done-layout.true, c.requires.layout.chunks_are)) c.requires.bytes c.requires.one_page c.requires.layout.page_is

pub read_group-requires-then-done-layout-clause-starts : goal.read_group-requires-then-done-layout-clause-starts
read_group-requires-then-done-layout-clause-starts g c =
    let starts : ((8 * length c.args.sector.now / g.row.K) / c.group_of-group.result * c.group_of-group.result) * g.row.K < (8 * length c.args.sector.now) =
    start_below (8 * length c.args.sector.now) g.row.K ((8 * length c.args.sector.now / g.row.K) / c.group_of-group.result * c.group_of-group.result) c.requires.layout.some_bits
    (omega (arith, c.if-done-layout.true, c.requires.layout.chunks_are)) in
    omega (arith, c.loop-turn.auto.sector)

pub read_group-requires-then-done-layout-clause-here : goal.read_group-requires-then-done-layout-clause-here
read_group-requires-then-done-layout-clause-here g c =
    let same : length c.loop-turn.sector ≡ length c.args.sector.now = c.loop-turn.auto.sector in
    subst (λ m. 8 * m - ((8 * length c.args.sector.now / g.row.K) / c.group_of-group.result * c.group_of-group.result) * g.row.K
    ≡ min ((c.args.layout.chunks - ((8 * length c.args.sector.now / g.row.K) / c.group_of-group.result * c.group_of-group.result)) * g.row.K)
    (8 * m - ((8 * length c.args.sector.now / g.row.K) / c.group_of-group.result * c.group_of-group.result) * g.row.K)) (sym same)
    (subst (λ n. (8 * length c.args.sector.now) - ((8 * length c.args.sector.now / g.row.K) / c.group_of-group.result * c.group_of-group.result) * g.row.K
    ≡ min ((n - ((8 * length c.args.sector.now / g.row.K) / c.group_of-group.result * c.group_of-group.result)) * g.row.K)
    ((8 * length c.args.sector.now) - ((8 * length c.args.sector.now / g.row.K) / c.group_of-group.result * c.group_of-group.result) * g.row.K)) (sym c.requires.layout.chunks_are)
    (short_here (8 * length c.args.sector.now) g.row.K ((8 * length c.args.sector.now / g.row.K) / c.group_of-group.result * c.group_of-group.result) c.requires.layout.some_bits
    (omega (arith, c.if-done-layout.true, c.requires.layout.chunks_are))))

pub returns-then-done-layout : goal.returns-then-done-layout
returns-then-done-layout g c =
    let all : (8 * length c.args.sector.now) ≤ chunks (striping g.row.K c.args.layout.page_cells g.row.N (length c.args.sector.now)) * g.row.K =
    (div_ceil_times (8 * length c.args.sector.now) g.row.K c.requires.layout.some_bits).0 in
    decoded_is (striping g.row.K c.args.layout.page_cells g.row.N (length c.args.sector.now)) g.row.N (g.C.WomCode.decoding c.args.code.now) c.args.bytes.now c.read_group-then-done-layout.new.sector
    (omega (arith, c.loop-turn.auto.sector, c.read_group-then-done-layout.auto.sector)) (λ k. (c.type_inv.sector k).fits)
    (λ x l. group_read (striping g.row.K c.args.layout.page_cells g.row.N (length c.args.sector.now)) g.row.N
    ((8 * length c.args.sector.now / g.row.K) / c.group_of-group.result * c.group_of-group.result)
    (c.args.layout.chunks - ((8 * length c.args.sector.now / g.row.K) / c.group_of-group.result * c.group_of-group.result)) (g.C.WomCode.decoding c.args.code.now)
    c.args.bytes.now c.loop-turn.sector c.read_group-then-done-layout.new.sector c.read_group-then-done-layout.ensures.cells c.read_group-then-done-layout.ensures.messages
    (one_span g.row.N c.args.layout.span c.args.layout.page_cells c.requires.layout.spans c.requires.one_page) c.requires.layout.some_bits
    (omega (arith, c.loop-turn.auto.sector)) c.read_group-then-done-layout.ensures.taken c.read_group-then-done-layout.ensures.decodes c.read_group-then-done-layout.ensures.put
    c.read_group-then-done-layout.ensures.below
    (subst (λ t. (x : ℕ) → x < t * c.group_of-group.result * g.row.K → x < 8 * length c.args.sector.now
    → is_charged c.loop-turn.sector x ≡ decoded_bit (striping g.row.K c.args.layout.page_cells g.row.N (length c.args.sector.now)) g.row.N
    (g.C.WomCode.decoding c.args.code.now) c.args.bytes.now x)
    (turns_end c.loop-turn.turn ((8 * length c.args.sector.now / g.row.K) / c.group_of-group.result) c.loop-turn.auto.turn-end c.loop-turn-test.false) c.loop-turn.invariant.read)
    x (at_end (((8 * length c.args.sector.now / g.row.K) / c.group_of-group.result * c.group_of-group.result)
    + (c.args.layout.chunks - ((8 * length c.args.sector.now / g.row.K) / c.group_of-group.result * c.group_of-group.result)))
    (chunks (striping g.row.K c.args.layout.page_cells g.row.N (length c.args.sector.now))) g.row.K (8 * length c.args.sector.now) x
    (omega (arith, c.if-done-layout.true, c.requires.layout.chunks_are)) all l) l)

pub returns-else-done-layout : goal.returns-else-done-layout
returns-else-done-layout g c =
    let all : (8 * length c.args.sector.now) ≤ chunks (striping g.row.K c.args.layout.page_cells g.row.N (length c.args.sector.now)) * g.row.K =
    (div_ceil_times (8 * length c.args.sector.now) g.row.K c.requires.layout.some_bits).0 in
    decoded_is (striping g.row.K c.args.layout.page_cells g.row.N (length c.args.sector.now)) g.row.N (g.C.WomCode.decoding c.args.code.now) c.args.bytes.now c.loop-turn.sector
    (omega (arith, c.loop-turn.auto.sector)) c.loop-turn.invariant.are
    (λ x l. (subst (λ t. (x : ℕ) → x < t * c.group_of-group.result * g.row.K → x < 8 * length c.args.sector.now
    → is_charged c.loop-turn.sector x ≡ decoded_bit (striping g.row.K c.args.layout.page_cells g.row.N (length c.args.sector.now)) g.row.N
    (g.C.WomCode.decoding c.args.code.now) c.args.bytes.now x)
    (turns_end c.loop-turn.turn ((8 * length c.args.sector.now / g.row.K) / c.group_of-group.result) c.loop-turn.auto.turn-end c.loop-turn-test.false) c.loop-turn.invariant.read) x
    (at_end ((8 * length c.args.sector.now / g.row.K) / c.group_of-group.result * c.group_of-group.result)
    (chunks (striping g.row.K c.args.layout.page_cells g.row.N (length c.args.sector.now))) g.row.K (8 * length c.args.sector.now) x
    (omega (arith, c.if-done-layout.false, c.requires.layout.chunks_are)) all l) l)
