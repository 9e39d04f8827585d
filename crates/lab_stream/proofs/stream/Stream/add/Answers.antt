-- The part is the first bytes of those ahead.
use Rattle.std.proofs.Common.{◌≡◌, inl, inr, ℕ, ◌+◌, ◌-◌, ◌<◌, ◌≤◌, List, ◌++◌, length, take, drop, refl, ap, sym, ◌∙◌, arith, length-append, true≢false}
use Rattle.std.specs.Prelude.{slice_range}
use Rattle.std.proofs.lemmas.Bool.{cases_lt}
use Rattle.lab_stream.proofs.Parts.{front_of, parts_of, length_of_range, long_text, whole_now}
use Rattle.lab_stream.proofs.TextLines.{long_none}
use Rattle.lab_stream.proofs.stream.Stream.add.Goals as goal

pub returns-in-Ok-clause-moves : goal.returns-in-Ok-clause-moves
returns-in-Ok-clause-moves g c =
    let self = c.args.self.now in
    let piece = self.piece.items in
    let n = c.part-count.result.0 in
    let long = length_of_range piece self.at self.end self.order self.room in
    let within : self.at + n ≤ self.end = omega (arith, long, c.part-count.ensures.within, self.order) in
    record {
      part = slice_range piece self.at (self.at + n);
      more_is = c.in-Ok.ensures.ok ∙ ap (λ (bytes : List ℕ). c.args.text.now.items ++ slice_range bytes self.at (self.at + n)) c.deref.ensures.value;
      order = parts_of piece self.at self.end n within;
      source = refl;
      lines = refl;
    }

pub returns-in-Ok-clause-whole : goal.returns-in-Ok-clause-whole
returns-in-Ok-clause-whole g c =
    let self = c.args.self.now in
    let piece = self.piece.items in
    let n = c.part-count.result.0 in
    let long = length_of_range piece self.at self.end self.order self.room in
    let within : self.at + n ≤ self.end = omega (arith, long, c.part-count.ensures.within, self.order) in
    let front = front_of piece self.at self.end n within in
    whole_now c.part-count.result.1 c.args.text.now.items c.try_extend_from_slice.new.self.items (slice_range piece self.at self.end) n _ c.requires c.part-count.ensures.ends
    (c.in-Ok.ensures.ok ∙ ap (λ (bytes : List ℕ). c.args.text.now.items ++ slice_range bytes self.at (self.at + n)) c.deref.ensures.value
    ∙ ap (λ (part : List ℕ). c.args.text.now.items ++ part) (sym front))
    (λ all. let none : self.end - (self.at + n) ≡ 0 = omega (arith, all, long) in ap (λ (k : ℕ). take k (drop (self.at + n) piece)) none)

pub returns-in-Err-clause-too_long : goal.returns-in-Err-clause-too_long
returns-in-Err-clause-too_long g c =
    let self = c.args.self.now in
    let piece = self.piece.items in
    let text = c.args.text.now.items in
    let n = c.part-count.result.0 in
    let long = length_of_range piece self.at self.end self.order self.room in
    let within : self.at + n ≤ self.end = omega (arith, long, c.part-count.ensures.within, self.order) in
    let front = front_of piece self.at self.end n within in
    let given = slice_range c.deref.result.now self.at (self.at + n) in
    let part : given ≡ take n (slice_range piece self.at self.end) = ap (λ (bytes : List ℕ). slice_range bytes self.at (self.at + n)) c.deref.ensures.value ∙ sym front in
    let over : 1049 < length text + length given = elim (cases_lt 1049 (length text + length given)) [ inl h ↦ h | inr h ↦ absurd (true≢false (sym (c.in-Err.ensures.variant.1 h))) ] in
    let over_text : 1049 < length (text ++ take n (slice_range piece self.at self.end)) = omega (arith, over, length-append text (take n (slice_range piece self.at self.end)), ap length part) in
    let is_text = long_text text (slice_range piece self.at self.end) n c.part-count.result.1 c.requires c.part-count.ensures.ends c.part-count.ensures.within over_text in
    record {
      long = text ++ take n (slice_range piece self.at self.end);
      moves = record {
        part = take n (slice_range piece self.at self.end);
        more_is = refl;
        order = parts_of piece self.at self.end n within ∙ ap (λ (first : List ℕ). first ++ slice_range piece (self.at + n) self.end) (sym front);
        source = refl;
        lines = refl;
      };
      is_text = is_text;
      is_long = over_text;
      none = long_none (text ++ take n (slice_range piece self.at self.end)) is_text over_text;
    }
