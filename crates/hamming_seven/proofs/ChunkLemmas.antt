-- Chunks of seven cells side by side: four first words joined, and one more chunk above the earlier ones.
use Rattle.std.proofs.Common.{◌≡◌, ℕ, zero, suc, ◌+◌, ◌-◌, ◌*◌, ◌/◌, ◌%◌, ◌^◌, ◌<◌, ◌≤◌, Bool, true, ◌&&◌, List, [], ◌∷◌, length, get_or, bit_and, bit_or, sym, ◌∙◌, ap, ap₂, subst, refl, inl}
use Rattle.std.proofs.Common.{inr, arith}
use Rattle.std.specs.Int.{bit_at}
use Rattle.std.proofs.lemmas.Bool.{and_parts, cases_lt, cases_eq}
use Rattle.std.proofs.lemmas.Nat.{and_mask, le_or_l, le_or_r, or_lt}
use Rattle.std.proofs.lemmas.Nat.Bits.{bit_at-zero}
use Rattle.cell_bits.proofs.PieceLemmas.{piece_bit, masked_narrow}
use Rattle.wom_code.specs.Cells.{cell_at, Carries, NoneCarries}
use Rattle.wom_code.specs.Packed.{cells_of}
use Rattle.wom_code.specs.Groups.{chunk_of}
use Rattle.wom_code.proofs.GroupLemmas.{length-chunk_of, same_chunk_of, first_word, one_chunk, joined_with, joined_narrow, joined_earlier, joined_last, none_as}
use Rattle.wom_code.proofs.WordTests.{same, same_to, carries_test, carries_to, all_rows, all_rows_at}
use Rattle.rivest_shamir.proofs.TripleLemmas.{chunk_in_front}
use Rattle.rivest_shamir.proofs.WordForms.{Form, given, masked, either, up, Bit, bit, value, lifted}
use Rattle.rivest_shamir.specs.Words.{differ}
use Rattle.hamming_seven.specs.declared.tables.TheConstants.{NEXT}
use Rattle.hamming_seven.specs.Words.{message_of, first_of, is_first}
use Rattle.hamming_seven.proofs.TableLemmas.{none_at, entry_at}

-- what a chunk is given where it does not decline
pub record IsGiven (cells message new : List Bool) : Type 0 where
  pub carries : Carries message_of cells message new
  pub first : is_first cells message new ≡ true

-- ---- the message of seven cells as sums

abbrev pub parity_of : List Bool → List Bool
parity_of cells =
    differ (differ (cell_at cells 0) (cell_at cells 2)) (differ (cell_at cells 4) (cell_at cells 6))
    ∷ differ (differ (cell_at cells 1) (cell_at cells 2)) (differ (cell_at cells 5) (cell_at cells 6))
    ∷ differ (differ (cell_at cells 3) (cell_at cells 4)) (differ (cell_at cells 5) (cell_at cells 6)) ∷ []

all_parities : all_rows 7 (λ cells. same (parity_of cells) (message_of cells)) ≡ true
all_parities = refl

pub message_as_parity : (cells : List Bool) → length cells ≡ 7 → parity_of cells ≡ message_of cells
message_as_parity cells e = same_to (parity_of cells) (message_of cells) (all_rows_at 7 (λ row. same (parity_of row) (message_of row)) all_parities cells e)

-- ---- first words, four at a time

three : ℕ → ℕ → ℕ → ℕ → ℕ
three a b c zero = a
three a b c (suc zero) = b
three a b c (suc (suc k)) = c

form : Form
form = either (either (masked (given 0) 268435455) (up (masked (given 1) 268435455) 28)) (up (masked (given 2) 268435455) 56)

kept : (a : ℕ) → a < 2 ^ 28 → bit_and a 268435455 ≡ a
kept a h = and_mask a 28 ∙ omega arith

joined : (a b c : ℕ) → a < 2 ^ 28 → b < 2 ^ 28 → c < 2 ^ 28 → bit_or (bit_or a (b * 2 ^ 28 % 2 ^ 64)) (c * 2 ^ 56 % 2 ^ 64) ≡ value (three a b c) form
unfolding three form
joined a b c p q r =
    ap₂ (λ (x y : ℕ). bit_or x (y * 2 ^ 56 % 2 ^ 64)) (ap₂ (λ (x y : ℕ). bit_or x (y * 2 ^ 28 % 2 ^ 64)) (sym (kept a p)) (sym (kept b q))) (sym (kept c r))

bit_in : ℕ → ℕ → Bit
bit_in t c = bit (t / 4) (t % 4 * 7 + c)

chunk_in : (a b c t : ℕ) → t < 9 → chunk_of 7 (value (three a b c) form) t ≡ chunk_of 7 (three a b c (t / 4)) (t % 4)
unfolding chunk_of form bit_in
chunk_in a b c t h =
    lifted (three a b c) form 7 9 (λ i. bit_in i 0 ∷ bit_in i 1 ∷ bit_in i 2 ∷ bit_in i 3 ∷ bit_in i 4 ∷ bit_in i 5 ∷ bit_in i 6 ∷ []) refl t h

-- the first words of the messages from 4 * k on
abbrev pub IsFour : ℕ → ℕ → ℕ → Type 0
IsFour messages k word = (t : ℕ) → t < 4 → chunk_of 7 word t ≡ first_of (chunk_of 3 messages (4 * k + t))

four_of : (messages a b c k : ℕ) → k < 3 → IsFour messages 0 a → IsFour messages 1 b → IsFour messages 2 c → IsFour messages k (three a b c k)
unfolding three
four_of messages a b c zero h p q r = p
four_of messages a b c (suc zero) h p q r = q
four_of messages a b c (suc (suc zero)) h p q r = r
four_of messages a b c (suc (suc (suc k))) h p q r = absurd (omega arith)

pub joined_fours : (messages a b c t : ℕ) → t < 9 → IsFour messages 0 a → IsFour messages 1 b → IsFour messages 2 c → a < 2 ^ 28 → b < 2 ^ 28 → c < 2 ^ 28 →
    chunk_of 7 (bit_or (bit_or a (b * 2 ^ 28 % 2 ^ 64)) (c * 2 ^ 56 % 2 ^ 64)) t ≡ first_of (chunk_of 3 messages t)
joined_fours messages a b c t h p q r u v w =
    let whole : 4 * (t / 4) + t % 4 ≡ t = omega arith in
    ap (λ n. chunk_of 7 n t) (joined a b c u v w) ∙ chunk_in a b c t h
    ∙ four_of messages a b c (t / 4) (omega arith) p q r (t % 4) (omega arith) ∙ ap (λ i. first_of (chunk_of 3 messages i)) whole

pub messages_of_four : (messages k first t : ℕ) → first ≡ 12 * k → t < 4 → chunk_of 3 (bit_and (messages / 2 ^ first) 4095) t ≡ chunk_of 3 messages (4 * k + t)
messages_of_four messages k first t e h = same_chunk_of 3 (bit_and (messages / 2 ^ first) 4095) messages t (4 * k + t) (λ c l.
    let place : first + (t * 3 + c) ≡ (4 * k + t) * 3 + c = omega arith in
    piece_bit messages first 12 4095 refl (t * 3 + c) (omega arith) ∙ ap (bit_at messages) place)

-- ---- blank cells

blank_test : List Bool → Bool
blank_test message = carries_test message_of (chunk_of 7 0 0) message (first_of message) && is_first (chunk_of 7 0 0) message (first_of message)

all_blank : all_rows 3 blank_test ≡ true
unfolding chunk_of is_first blank_test
all_blank = refl

first_given : (message : List Bool) → length message ≡ 3 → IsGiven (chunk_of 7 0 0) message (first_of message)
unfolding blank_test
first_given message e =
    let parts = and_parts (carries_test message_of (chunk_of 7 0 0) message (first_of message)) (is_first (chunk_of 7 0 0) message (first_of message)) (all_rows_at 3 blank_test all_blank message e) in
    record { carries = carries_to message_of (chunk_of 7 0 0) message (first_of message) parts.0; first = parts.1 }

no_cells : (t : ℕ) → chunk_of 7 0 t ≡ chunk_of 7 0 0
no_cells t = same_chunk_of 7 0 0 t 0 (λ c l. bit_at-zero (t * 7 + c) ∙ sym (bit_at-zero (0 * 7 + c)))

pub blank_given : (count cells messages words front : ℕ) → cells ≡ 0 → ((t : ℕ) → t < 9 → chunk_of 7 words t ≡ first_of (chunk_of 3 messages t)) → count ≤ 9 → front ≡ 2 ^ (count * 7) - 1 →
    (t : ℕ) → t < count → IsGiven (chunk_of 7 cells t) (chunk_of 3 messages t) (chunk_of 7 (bit_and words front) t)
blank_given count cells messages words front none is few e t h =
    subst (λ old. IsGiven old (chunk_of 3 messages t) (chunk_of 7 (bit_and words front) t)) (sym (ap (λ w. chunk_of 7 w t) none ∙ no_cells t))
    (subst (IsGiven (chunk_of 7 0 0) (chunk_of 3 messages t)) (sym (chunk_in_front 7 count words front t e h ∙ is t (omega arith)))
    (first_given (chunk_of 3 messages t) (length-chunk_of 3 messages t)))

-- ---- one chunk by the table

abbrev pub cells_in : ℕ → ℕ → ℕ
cells_in cells j = bit_and (cells / 2 ^ (j * 7)) 127

abbrev pub message_in : ℕ → ℕ → ℕ
message_in messages j = bit_and (messages / 2 ^ (j * 3)) 7

abbrev pub next_in : ℕ → ℕ → ℕ → ℕ
next_in cells messages j = get_or (get_or NEXT (message_in messages j) []) (cells_in cells j) 0

pub cells_below : (cells j : ℕ) → cells_in cells j < 128
cells_below cells j = masked_narrow (cells / 2 ^ (j * 7)) 7 127 refl

pub message_below : (messages j : ℕ) → message_in messages j < 8
message_below messages j = masked_narrow (messages / 2 ^ (j * 3)) 3 7 refl

cells_are : (cells j : ℕ) → cells_of 7 (cells_in cells j ∷ []) ≡ chunk_of 7 cells j
cells_are cells j = one_chunk 7 (cells_in cells j) cells j (omega arith) (λ i h. piece_bit cells (j * 7) 7 127 refl i h)

message_is : (messages j : ℕ) → cells_of 3 (message_in messages j ∷ []) ≡ chunk_of 3 messages j
message_is messages j = one_chunk 3 (message_in messages j) messages j (omega arith) (λ i h. piece_bit messages (j * 3) 3 7 refl i h)

alone : (word : ℕ) → cells_of 7 (word ∷ []) ≡ chunk_of 7 word 0
alone word = one_chunk 7 word word 0 (omega arith) (λ i h. let e : i ≡ 0 * 7 + i = omega arith in ap (bit_at word) e)

given_as : (old old' message message' new new' : List Bool) → old ≡ old' → message ≡ message' → new ≡ new' → IsGiven old message new → IsGiven old' message' new'
given_as old old' message message' new new' o m n is = subst (λ a. IsGiven a message' new') o (subst (λ b. IsGiven old b new') m (subst (IsGiven old message) n is))

pub next_given : (cells messages j : ℕ) → next_in cells messages j < 128 → IsGiven (chunk_of 7 cells j) (chunk_of 3 messages j) (chunk_of 7 (next_in cells messages j) 0)
next_given cells messages j h =
    let entry = entry_at (cells_in cells j) (message_in messages j) (cells_below cells j) (message_below messages j) (λ e. omega arith) in
    given_as _ _ _ _ _ _ (cells_are cells j) (message_is messages j) (alone (next_in cells messages j)) (record { carries = entry.carries; first = entry.given })

pub next_declined : (cells messages j : ℕ) → next_in cells messages j ≡ 128 → NoneCarries message_of 7 (chunk_of 7 cells j) (chunk_of 3 messages j)
next_declined cells messages j e =
    none_as 7 message_of message_of _ _ _ _ (λ row. refl) (cells_are cells j) (message_is messages j)
    (none_at (cells_in cells j) (message_in messages j) (cells_below cells j) (message_below messages j) e)

pub next_small : (cells messages j : ℕ) → next_in cells messages j ≤ 128
next_small cells messages j = elim (cases_eq (next_in cells messages j) 128) [
  | inl e ↦ omega arith
  | inr n ↦ let word = (entry_at (cells_in cells j) (message_in messages j) (cells_below cells j) (message_below messages j) n).word in omega arith
]

-- ---- the chunks so far

pub record IsCarried (cells messages done new : ℕ) : Type 0 where
  pub narrow : new < 2 ^ (done * 7)
  pub each : (i : ℕ) → i < done → IsGiven (chunk_of 7 cells i) (chunk_of 3 messages i) (chunk_of 7 new i)

abbrev pub OneDeclines : ℕ → ℕ → ℕ → Type 0
OneDeclines cells messages done = (i : ℕ) × (i < done) × NoneCarries message_of 7 (chunk_of 7 cells i) (chunk_of 3 messages i)

one_more : (cells messages j new next : ℕ) → j < 9 → IsCarried cells messages j new → next < 128 → IsGiven (chunk_of 7 cells j) (chunk_of 3 messages j) (chunk_of 7 next 0) →
    IsCarried cells messages (j + 1) (joined_with new (j * 7) next)
one_more cells messages j new next h before small is =
    let within : j * 7 + 7 ≤ 64 = omega arith in
    record {
      narrow = joined_narrow 7 j new next before.narrow small within;
      each = λ i l. elim (cases_lt i j) [
        | inl earlier ↦
            subst (IsGiven (chunk_of 7 cells i) (chunk_of 3 messages i)) (sym (joined_earlier 7 j new next i before.narrow small within earlier)) (before.each i earlier)
        | inr m ↦
            let e : j ≡ i = omega arith in
            subst (λ x. IsGiven (chunk_of 7 cells x) (chunk_of 3 messages x) (chunk_of 7 (joined_with new (j * 7) next) x)) e
            (subst (IsGiven (chunk_of 7 cells j) (chunk_of 3 messages j))
            (sym (joined_last 7 j new next (next ∷ []) before.narrow small within (λ k b. sym (first_word (next ∷ []) k (omega arith))) ∙ alone next)) is)
      ];
    }

pub more_carried : (cells messages j new any next : ℕ) → j < 9 → (any < 128 → IsCarried cells messages j new) →
    (next < 128 → IsGiven (chunk_of 7 cells j) (chunk_of 3 messages j) (chunk_of 7 next 0)) →
    bit_or any next < 128 → IsCarried cells messages (j + 1) (joined_with new (j * 7) next)
more_carried cells messages j new any next h before now below =
    let l : any ≤ bit_or any next = le_or_l any next in
    let r : next ≤ bit_or any next = le_or_r any next in
    one_more cells messages j new next h (before (omega arith)) (omega arith) (now (omega arith))

pub more_declined : (cells messages j any next : ℕ) → next ≤ 128 → (128 ≤ any → OneDeclines cells messages j) → (next ≡ 128 → NoneCarries message_of 7 (chunk_of 7 cells j) (chunk_of 3 messages j)) →
    128 ≤ bit_or any next → OneDeclines cells messages (j + 1)
more_declined cells messages j any next small before now above = elim (cases_lt any 128) [
  | inl l ↦ (j, omega arith, now (elim (cases_lt next 128) [ inl m ↦ absurd (let both : bit_or any next < 2 ^ 7 = or_lt 7 any next l m in omega arith) | inr m ↦ omega arith ]))
  | inr m ↦ let d = before m in (d.0, omega arith, d.2)
]
