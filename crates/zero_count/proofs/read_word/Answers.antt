-- Each early return fails a part of a valid word; past them all parts hold.
use Rattle.std.proofs.Common.{◌≡◌, ◌<◌, ℕ, take, drop, length, slice_index, Some, None, sym, ap, ◌∙◌, arith}
use Rattle.std.specs.Int.{w32, w64, from_le_bytes}
use Rattle.std.proofs.lemmas.Bool.{cond-true}
use Rattle.zero_count.specs.HeaderWord.{header_of, is_valid}
use Rattle.zero_count.proofs.ValidWords.{IsValidWord}
use Rattle.zero_count.proofs.Reading.{bytes_from_each, valid_from_parts, none_unless, take_4, take_8_4}
use Rattle.zero_count.proofs.read_word.Goals as goal
use Rattle.zero_count.proofs.read_word.Goals.{then-zeros_of-from-via-then-zeros_of-from, then-zeros_of-from-via-else-zeros_of-from+then-kind-lt1}
use Rattle.zero_count.proofs.read_word.Goals.{then-zeros_of-from-via-else-zeros_of-from+else-kind-lt1+then-kind-gt4}

pub returns-then-zeros_of-from : goal.returns-then-zeros_of-from
returns-then-zeros_of-from c = none_unless c.args.word.now (λ e. elim c.then-zeros_of-from.branch [
  | then-zeros_of-from-via-then-zeros_of-from w ↦ w.if-zeros_of-from.true (c.zeros_of.ensures.value ∙ (e.zeros ∙ sym c.from.ensures))
  | then-zeros_of-from-via-else-zeros_of-from+then-kind-lt1 w ↦ omega (arith, e.least_kind)
  | then-zeros_of-from-via-else-zeros_of-from+else-kind-lt1+then-kind-gt4 w ↦ omega (arith, e.greatest_kind)
])

pub returns : goal.returns
unfolding header_of
returns c =
    let long : length c.args.word.now ≡ 14 = omega arith in
    let bytes : (k : ℕ) → slice_index c.args.word.now k < 256 = λ k. omega (arith, c.type_inv.word k) in
    let valid : IsValidWord c.args.word.now = record {
      long = long;
      bytes = bytes_from_each c.args.word.now bytes;
      zeros = sym c.zeros_of.ensures.value ∙ (omega arith);
      least_kind = omega arith;
      greatest_kind = omega arith;
    } in
    let sector : c.from_le_bytes.result ≡ from_le_bytes w32 (take 4 c.args.word.now) = c.from_le_bytes.ensures ∙ ap (from_le_bytes w32) (sym (take_4 c.args.word.now (omega arith))) in
    let seq : c.from_le_bytes-2.result ≡ from_le_bytes w64 (take 8 (drop 4 c.args.word.now)) = c.from_le_bytes-2.ensures ∙ ap (from_le_bytes w64) (sym (take_8_4 c.args.word.now (omega arith))) in
    (λ i. Some (record { sector = sector i; seq = seq i; kind = slice_index c.args.word.now 12 }))
    ∙ sym (cond-true (is_valid c.args.word.now) _ None (valid_from_parts c.args.word.now valid))
