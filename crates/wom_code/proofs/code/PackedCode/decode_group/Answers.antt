-- One more chunk: its message stands above those of the earlier ones, which stay.
use Rattle.std.proofs.Common.{◌≡◌, ◌+◌, ◌*◌, ◌≤◌, ◌∙◌, ap, subst, inl, inr, arith}
use Rattle.std.proofs.lemmas.Bool.{cases_lt}
use Rattle.wom_code.specs.Groups.{chunk_of}
use Rattle.wom_code.proofs.GroupLemmas.{one_row, one_chunk, within_word, joined_with, joined_narrow, joined_earlier, joined_last}
use Rattle.wom_code.proofs.code.PackedCode.decode_group.Goals as goal

pub decode_words-requires-clause-cells : goal.decode_words-requires-clause-cells
decode_words-requires-clause-cells g c =
    let within : c.loop-j.j * g.row.N + g.row.N ≤ 64 = within_word g.row.N c.loop-j.j c.args.count c.loop-j-test.true c.requires.cells in
    one_row g.row.N c.bits_from.result c.requires.some_cells (omega arith) c.bits_from.ensures.narrow

pub loop-j-preserved : goal.loop-j-preserved
loop-j-preserved g c =
    let within : c.loop-j.j * g.row.N + g.row.N ≤ 64 = within_word g.row.N c.loop-j.j c.args.count c.loop-j-test.true c.requires.cells in
    let room : c.loop-j.j * g.row.K + g.row.K ≤ 64 = within_word g.row.K c.loop-j.j c.args.count c.loop-j-test.true c.requires.messages in
    record {
      narrow = joined_narrow g.row.K c.loop-j.j c.loop-j.messages c.word_of.result c.loop-j.invariant.narrow c.word_of.ensures.narrow room;
      decoded = λ i h. elim (cases_lt i c.loop-j.j) [
        | inl l ↦ joined_earlier g.row.K c.loop-j.j c.loop-j.messages c.word_of.result i c.loop-j.invariant.narrow c.word_of.ensures.narrow room l ∙ c.loop-j.invariant.decoded i l
        | inr m ↦
            let e : c.loop-j.j ≡ i = omega arith in
            subst (λ x. chunk_of g.row.K (joined_with c.loop-j.messages (c.loop-j.j * g.row.K) c.word_of.result) x ≡ g.Self.WomCode.decoding c.args.self.now (chunk_of g.row.N c.args.cells x)) e
            (joined_last g.row.K c.loop-j.j c.loop-j.messages c.word_of.result c.decode_words.new.msg c.loop-j.invariant.narrow c.word_of.ensures.narrow room c.word_of.ensures.bits
            ∙ c.decode_words.ensures.message
            ∙ ap (g.Self.WomCode.decoding c.args.self.now) (one_chunk g.row.N c.bits_from.result c.args.cells c.loop-j.j (omega arith) c.bits_from.ensures.bits))
      ];
    }
