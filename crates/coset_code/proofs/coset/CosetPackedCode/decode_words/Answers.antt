-- The sum has the width of the table, and its bits are the message.
use Rattle.std.proofs.Common.{◌≡◌, ℕ, List, ◌*◌, ◌^◌, ◌<◌, ◌≤◌, length, ◌∙◌, ap, arith}
use Rattle.std.proofs.lemmas.Nat.Bits.{bit_at_above}
use Rattle.std.proofs.Math.Pow.{pow_mono}
use Rattle.wom_code.specs.Packed.{cells_of}
use Rattle.coset_code.specs.Sums.{syndrome, bits_of}
use Rattle.coset_code.specs.Code.{IsTable}
use Rattle.coset_code.proofs.SumLemmas.{sum_below_lt}
use Rattle.coset_code.proofs.MessageLemmas.{cells_of_number}
use Rattle.coset_code.proofs.coset.CosetPackedCode.decode_words.Goals as goal

-- the sum, as the fields have it, and its width
sum_narrow : (k n : ℕ) (columns columns' : List ℕ) (cells : List ℕ) (s : ℕ) → IsTable k n columns → columns' ≡ columns → s ≡ syndrome columns' (cells_of (length columns') cells) →
    (s < 2 ^ k) × (s ≡ syndrome columns (cells_of n cells))
sum_narrow k n columns columns' cells s t e f =
    let same : s ≡ syndrome columns (cells_of n cells) =
    f ∙ ap (λ cs. syndrome cs (cells_of (length cs) cells)) e ∙ ap (λ m. syndrome columns (cells_of m cells)) t.count in
    (omega (arith, same, sum_below_lt columns k t.narrow (cells_of n cells) (length columns)), same)

pub write_number-requires-clause-fits : goal.write_number-requires-clause-fits
write_number-requires-clause-fits g c =
    let s = sum_narrow g.row.K g.row.N c.self.inside.system.columns.items c.deref.result.now c.args.cells.now c.syndrome_of.result c.self.invariant.table c.deref.ensures.value c.syndrome_of.ensures in
    let room : g.row.K ≤ 64 * length c.args.msg.now = omega arith in
    omega (arith, s.0, pow_mono room)

pub returns-clause-row : goal.returns-clause-row
returns-clause-row g c =
    let s = sum_narrow g.row.K g.row.N c.self.inside.system.columns.items c.deref.result.now c.args.cells.now c.syndrome_of.result c.self.invariant.table c.deref.ensures.value c.syndrome_of.ensures in
    record {
      count = omega (arith, c.requires.message, c.write_number.auto.words);
      padding = λ i h. c.write_number.ensures i ∙ bit_at_above c.syndrome_of.result g.row.K i s.0 h;
    }

pub returns-clause-message : goal.returns-clause-message
returns-clause-message g c =
    let s = sum_narrow g.row.K g.row.N c.self.inside.system.columns.items c.deref.result.now c.args.cells.now c.syndrome_of.result c.self.invariant.table c.deref.ensures.value c.syndrome_of.ensures in
    cells_of_number g.row.K c.syndrome_of.result c.write_number.new.words c.write_number.ensures
    ∙ ap (bits_of g.row.K) (s.1 ∙ ap (λ cs. syndrome cs (cells_of g.row.N c.args.cells.now)) c.self.view_is)
