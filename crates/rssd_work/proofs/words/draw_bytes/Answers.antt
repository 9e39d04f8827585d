-- Each word that is drawn is the next one, and its eight bytes have room.
use Rattle.std.proofs.Common.{◌≡◌, ◌+◌, ◌-◌, ◌/◌, ◌++◌, List, ℕ, true, length, refl, subst, sym, ap, ◌∙◌, arith}
use Rattle.std.proofs.lemmas.List.{length-append}
use Rattle.std.specs.Int.{w64, to_le_bytes}
use Rattle.std.specs.Prelude.{IfOk}
use Rattle.std.specs.Result.{is_ok}
use Rattle.rssd_work.specs.Workload.{word, word_bytes, after_words}
use Rattle.rssd_work.proofs.Drawn.{one_more_word, one_word_on, all_words, no_word_on, at_ok}
use Rattle.rssd_work.proofs.words.draw_bytes.Goals as goal

pub loop-preserved : goal.loop-preserved
loop-preserved c =
    let count : ℕ = c.args.sector_bytes / 8 in
    let eight : length c.to_le_bytes.result ≡ 8 = ap length c.to_le_bytes.ensures in
    let ok : is_ok c.try_extend_from_slice.result ≡ true = c.try_extend_from_slice.ensures.variant.1 (omega (arith, eight, c.loop.invariant.len)) in
    let grown : c.try_extend_from_slice.new.self.items ≡ c.loop.bytes.items ++ to_le_bytes w64 (word c.loop.words) =
    at_ok c.try_extend_from_slice.result _ ok c.try_extend_from_slice.ensures.ok
    ∙ ap (λ (more : List ℕ). c.loop.bytes.items ++ more) (c.to_le_bytes.ensures ∙ ap (to_le_bytes w64) c.draw_word-word.ensures.word) in
    let long : length (to_le_bytes w64 (word c.loop.words)) ≡ 8 = refl in record {
      bytes = (λ i. grown i ++ word_bytes (count - (c.loop.counter + 1)) (c.draw_word-word.ensures.next i))
          ∙ one_more_word c.loop.counter count c.loop.words c.loop.bytes.items c.loop-test.true ∙ c.loop.invariant.bytes;
      next = ap (after_words (count - (c.loop.counter + 1))) c.draw_word-word.ensures.next
          ∙ one_word_on c.loop.counter count c.loop.words c.loop-test.true ∙ c.loop.invariant.next;
      len = ap length grown ∙ length-append c.loop.bytes.items (to_le_bytes w64 (word c.loop.words)) ∙ omega (arith, c.loop.invariant.len);
    }

pub returns-clause-bytes : goal.returns-clause-bytes
returns-clause-bytes c =
    let count : ℕ = c.args.sector_bytes / 8 in
    let items : c.loop.bytes.items ≡ word_bytes count c.args.words.now =
    sym (all_words c.loop.counter count c.loop.words c.loop.bytes.items c.loop-test.false) ∙ c.loop.invariant.bytes in
    subst (λ (list : List ℕ). IfOk c.of.result (λ bytes. bytes ≡ list)) (c.as_slice.ensures.value ∙ items) c.of.ensures

pub returns-clause-next : goal.returns-clause-next
returns-clause-next c =
    sym (no_word_on c.loop.counter (c.args.sector_bytes / 8) c.loop.words c.loop-test.false) ∙ c.loop.invariant.next
