-- Where the sum that is wanted is no free sum, no cells carry the message.
use Rattle.std.proofs.Common.{◌≡◌, ℕ, ◌^◌, ◌<◌, Bool, List, length, bit_xor, sym, ◌∙◌, ap, subst}
use Rattle.std.specs.Int.{bit_at}
use Rattle.std.specs.Int.Bits.{xor_comm}
use Rattle.wom_code.specs.Cells.{NoneCarries}
use Rattle.wom_code.proofs.OneWord.{number_lt}
use Rattle.wom_code.specs.Packed.{IsRow, word_bit, cells_of}
use Rattle.coset_code.specs.Sums.{syndrome, bits_of, IsFreeSum}
use Rattle.coset_code.specs.Code.{coset_message, IsTable}
use Rattle.coset_code.proofs.SumLemmas.{sum_below_lt, above_free_sum}
use Rattle.coset_code.proofs.MessageLemmas.{cells_of_number, bits_of_injective}

-- a number that a packed message holds
pub record IsMessage (k number : ℕ) (message : List ℕ) : Type 0 where
  pub bits : (i : ℕ) → bit_at number i ≡ word_bit message i
  pub row : IsRow k message

cells_of_message : (k number : ℕ) (message : List ℕ) → IsMessage k number message → cells_of k message ≡ bits_of k number
cells_of_message k number message m = cells_of_number k number message (λ i. sym (m.bits i))

message_lt : (k number : ℕ) (message : List ℕ) → IsMessage k number message → number < 2 ^ k
message_lt k number message m = number_lt k number (λ i h. m.bits i ∙ m.row.padding i h)

-- where the difference is no sum of free columns, nothing above carries the message
pub none_over : (k : ℕ) (columns : List ℕ) (old : List Bool) (number : ℕ) (message : List ℕ) → IsTable k (length columns) columns → IsMessage k number message →
    ¬ (IsFreeSum columns old (length columns) (bit_xor number (syndrome columns old))) → NoneCarries (coset_message k columns) (length columns) old (cells_of k message)
none_over k columns old number message t m none new len c =
    let u : ℕ = syndrome columns old in
    let s : ℕ = syndrome columns new in
    let same : s ≡ number = bits_of_injective k s number (sum_below_lt columns k t.narrow new (length columns)) (message_lt k number message m) (c.decodes ∙ cells_of_message k number message m) in
    none (subst (IsFreeSum columns old (length columns)) (ap (bit_xor u) same ∙ xor_comm u number) (above_free_sum columns old new c.above (length columns)))
