-- The bytes so far and those to come are the bytes of all words.
use Rattle.std.proofs.Common.{◌≡◌, ◌-◌, ◌*◌, ◌++◌, length}
use Rattle.rssd_work.specs.Workload.{word_bytes, after_words}
use Rattle.rssd_work.proofs.words.draw_bytes.Given as goal

abbrev pub invariant-loop : goal.invariant-loop
invariant-loop l = record {
  bytes : l.bytes.items ++ word_bytes (l.count - l.counter) l.words ≡ word_bytes l.count l.fn.words;
  next : after_words (l.count - l.counter) l.words ≡ after_words l.count l.fn.words;
  len : length l.bytes.items ≡ 8 * l.counter;
}
