-- One more chunk: its new cells stand above those of the earlier ones, which stay.
use Rattle.std.proofs.Common.{◌≡◌, ℕ, ◌<◌, ◌+◌, ◌*◌, ◌≤◌, [], ◌∷◌, true, refl, sym, ◌∙◌, subst, inl, inr, arith}
use Rattle.std.proofs.lemmas.Bool.{cases_lt}
use Rattle.wom_code.specs.Cells.{Carries}
use Rattle.wom_code.specs.Packed.{cells_of}
use Rattle.wom_code.specs.Groups.{chunk_of}
use Rattle.wom_code.proofs.GroupLemmas.{one_row, one_chunk, within_word, joined_with, joined_narrow, joined_earlier, joined_last, carries_as, given_as, none_as}
use Rattle.wom_code.proofs.code.PackedCode.over_group.Goals as goal

pub over_words-requires-clause-old : goal.over_words-requires-clause-old
over_words-requires-clause-old g c =
    let within : c.loop-j.j * g.row.N + g.row.N ≤ 64 = within_word g.row.N c.loop-j.j c.args.count c.loop-j-test.true c.requires.cells in
    one_row g.row.N c.bits_from-old.result c.requires.some_cells (omega arith) c.bits_from-old.ensures.narrow

pub over_words-requires-clause-message : goal.over_words-requires-clause-message
over_words-requires-clause-message g c =
    let within : c.loop-j.j * g.row.K + g.row.K ≤ 64 = within_word g.row.K c.loop-j.j c.args.count c.loop-j-test.true c.requires.messages in
    one_row g.row.K c.bits_from-message.result c.requires.some_bits (omega arith) c.bits_from-message.ensures.narrow

pub returns-in-Declined-clause-declined : goal.returns-in-Declined-clause-declined
returns-in-Declined-clause-declined g c =
    let within : c.loop-j.j * g.row.N + g.row.N ≤ 64 = within_word g.row.N c.loop-j.j c.args.count c.loop-j-test.true c.requires.cells in
    let room : c.loop-j.j * g.row.K + g.row.K ≤ 64 = within_word g.row.K c.loop-j.j c.args.count c.loop-j-test.true c.requires.messages in (
      c.loop-j.j,
      c.loop-j-test.true,
      none_as g.row.N (g.Self.WomCode.decoding c.loop-j.self) (g.Self.WomCode.decoding c.args.self.now)
          (cells_of g.row.N (c.bits_from-old.result ∷ [])) (chunk_of g.row.N c.args.cells c.loop-j.j)
          (cells_of g.row.K (c.bits_from-message.result ∷ [])) (chunk_of g.row.K c.args.messages c.loop-j.j)
          c.loop-j.invariant.code
          (one_chunk g.row.N c.bits_from-old.result c.args.cells c.loop-j.j (omega arith) c.bits_from-old.ensures.bits)
          (one_chunk g.row.K c.bits_from-message.result c.args.messages c.loop-j.j (omega arith) c.bits_from-message.ensures.bits)
          (c.in-Declined.ensures.declined refl),
    )

pub loop-j-preserved : goal.loop-j-preserved
loop-j-preserved g c =
    let within : c.loop-j.j * g.row.N + g.row.N ≤ 64 = within_word g.row.N c.loop-j.j c.args.count c.loop-j-test.true c.requires.cells in
    let room : c.loop-j.j * g.row.K + g.row.K ≤ 64 = within_word g.row.K c.loop-j.j c.args.count c.loop-j-test.true c.requires.messages in
    let new : ℕ = joined_with c.loop-j.new (c.loop-j.j * g.row.N) c.word_of.result in
    let old_is : cells_of g.row.N (c.bits_from-old.result ∷ []) ≡ chunk_of g.row.N c.args.cells c.loop-j.j =
    one_chunk g.row.N c.bits_from-old.result c.args.cells c.loop-j.j (omega arith) c.bits_from-old.ensures.bits in
    let message_is : cells_of g.row.K (c.bits_from-message.result ∷ []) ≡ chunk_of g.row.K c.args.messages c.loop-j.j =
    one_chunk g.row.K c.bits_from-message.result c.args.messages c.loop-j.j (omega arith) c.bits_from-message.ensures.bits in
    let new_is : cells_of g.row.N c.over_words.new.out ≡ chunk_of g.row.N new c.loop-j.j =
    sym (joined_last g.row.N c.loop-j.j c.loop-j.new c.word_of.result c.over_words.new.out c.loop-j.invariant.narrow c.word_of.ensures.narrow within c.word_of.ensures.bits) in
    let earlier : (i : ℕ) → i < c.loop-j.j → chunk_of g.row.N c.loop-j.new i ≡ chunk_of g.row.N new i =
    λ i l. sym (joined_earlier g.row.N c.loop-j.j c.loop-j.new c.word_of.result i c.loop-j.invariant.narrow c.word_of.ensures.narrow within l) in
    record {
      code = λ row. c.in-Carried.ensures.same_code row ∙ c.loop-j.invariant.code row;
      cells = λ before message after. c.in-Carried.ensures.same_cells before message after ∙ c.loop-j.invariant.cells before message after;
      narrow = joined_narrow g.row.N c.loop-j.j c.loop-j.new c.word_of.result c.loop-j.invariant.narrow c.word_of.ensures.narrow within;
      carried = λ i h. elim (cases_lt i c.loop-j.j) [
        | inl l ↦ subst (Carries (g.Self.WomCode.decoding c.args.self.now) (chunk_of g.row.N c.args.cells i) (chunk_of g.row.K c.args.messages i)) (earlier i l) (c.loop-j.invariant.carried i l)
        | inr m ↦
            let e : c.loop-j.j ≡ i = omega arith in
            subst (λ x. Carries (g.Self.WomCode.decoding c.args.self.now) (chunk_of g.row.N c.args.cells x) (chunk_of g.row.K c.args.messages x) (chunk_of g.row.N new x)) e
            (carries_as _ (g.Self.WomCode.decoding c.args.self.now) _ _ _ _ _ _ c.loop-j.invariant.code old_is message_is new_is (c.in-Carried.ensures.carried refl))
      ];
      given = λ i h. elim (cases_lt i c.loop-j.j) [
        | inl l ↦ subst (λ cells. g.Self.WomCode.gives c.args.self.now (chunk_of g.row.N c.args.cells i) (chunk_of g.row.K c.args.messages i) cells ≡ true) (earlier i l) (c.loop-j.invariant.given i l)
        | inr m ↦
            let e : c.loop-j.j ≡ i = omega arith in
            subst (λ x. g.Self.WomCode.gives c.args.self.now (chunk_of g.row.N c.args.cells x) (chunk_of g.row.K c.args.messages x) (chunk_of g.row.N new x) ≡ true) e
            (given_as _ (g.Self.WomCode.gives c.args.self.now) _ _ _ _ _ _ c.loop-j.invariant.cells old_is message_is new_is (c.in-Carried.ensures.given refl))
      ];
    }
