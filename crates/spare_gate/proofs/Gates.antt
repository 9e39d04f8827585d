-- What charging a gate or the seal does to the slots of a page.
use Rattle.std.proofs.Common.{◌≡◌, ◌≢◌, ℕ, ◌+◌, ◌-◌, ◌*◌, ◌/◌, ◌<◌, true, List, length, drop, get_or, sym, ◌∙◌, arith, length-set, length-take, length-drop, get_or-take, get_or-drop}
use Rattle.std.proofs.lemmas.List.{ext_get_or}
use Rattle.cell_bits.specs.Cells.{with_charged}
use Rattle.cell_bits.proofs.Slices.{charged_rest}
use Rattle.cell_bits.proofs.Charging.{charged_same, charged_other, charged_byte_other}
use Rattle.spare_gate.specs.Slots.{is_gate_charged, is_seal_charged, word_at, gate_cell_of, seal_cell_of}

-- the gate is charged
pub gate_charges : (m : ℕ) (page : List ℕ) (slot : ℕ) → m + 16 * slot < length page → is_gate_charged (drop m (with_charged page (gate_cell_of m slot))) slot ≡ true
gate_charges m page slot h = charged_rest m _ (128 * slot) ∙ charged_same page (gate_cell_of m slot) (omega arith)

-- and nothing else of any slot changes
pub gate_keeps_gates : (m : ℕ) (page : List ℕ) (slot other : ℕ) → other ≢ slot → is_gate_charged (drop m (with_charged page (gate_cell_of m slot))) other ≡ is_gate_charged (drop m page) other
gate_keeps_gates m page slot other h =
    let apart : 8 * m + 128 * other ≢ gate_cell_of m slot = λ e. h (omega arith) in
    charged_rest m _ (128 * other) ∙ (charged_other page (gate_cell_of m slot) (8 * m + 128 * other) apart ∙ sym (charged_rest m page (128 * other)))

pub gate_keeps_seal : (m : ℕ) (page : List ℕ) (slot : ℕ) → is_seal_charged (drop m (with_charged page (gate_cell_of m slot))) ≡ is_seal_charged (drop m page)
gate_keeps_seal m page slot =
    let apart : 8 * m + 248 ≢ gate_cell_of m slot = λ e. omega arith in
    charged_rest m _ 248 ∙ (charged_other page (gate_cell_of m slot) (8 * m + 248) apart ∙ sym (charged_rest m page 248))

-- charging a cell outside a word leaves that word
word_keeps : (m : ℕ) (page : List ℕ) (cell other : ℕ) → ((i : ℕ) → i < 14 → m + (16 * other + 1 + i) ≢ cell / 8) → word_at (drop m (with_charged page cell)) other ≡ word_at (drop m page) other
word_keeps m page cell other outside = ext_get_or 0 _ _ lengths (λ i h. byte i (short i h))
  where
    lengths : length (word_at (drop m (with_charged page cell)) other) ≡ length (word_at (drop m page) other)
    lengths = simp (length-take, length-drop, length-set)

    short : (i : ℕ) → i < length (word_at (drop m (with_charged page cell)) other) → i < 16 * other + 15 - (16 * other + 1)
    short i h = omega (arith, length-take (16 * other + 15 - (16 * other + 1)) (drop (16 * other + 1) (drop m (with_charged page cell))))

    byte : (i : ℕ) → i < 16 * other + 15 - (16 * other + 1) → get_or (word_at (drop m (with_charged page cell)) other) i 0 ≡ get_or (word_at (drop m page) other) i 0
    byte i h =
        get_or-take _ _ i 0 h ∙ (get_or-drop (16 * other + 1) _ i 0 ∙ (get_or-drop m _ (16 * other + 1 + i) 0 ∙ (charged_byte_other page cell (m + (16 * other + 1 + i)) (outside i (omega arith))
        ∙ sym (get_or-take _ _ i 0 h ∙ (get_or-drop (16 * other + 1) _ i 0 ∙ get_or-drop m _ (16 * other + 1 + i) 0)))))

pub gate_keeps_words : (m : ℕ) (page : List ℕ) (slot other : ℕ) → word_at (drop m (with_charged page (gate_cell_of m slot))) other ≡ word_at (drop m page) other
gate_keeps_words m page slot other = word_keeps m page (gate_cell_of m slot) other (λ i few e. omega arith)

-- the seal is charged, and no slot's gate or word changes
pub seal_charges : (m : ℕ) (page : List ℕ) → m + 31 < length page → is_seal_charged (drop m (with_charged page (seal_cell_of m))) ≡ true
seal_charges m page h = charged_rest m _ 248 ∙ charged_same page (seal_cell_of m) (omega arith)

pub seal_keeps_gates : (m : ℕ) (page : List ℕ) (slot : ℕ) → is_gate_charged (drop m (with_charged page (seal_cell_of m))) slot ≡ is_gate_charged (drop m page) slot
seal_keeps_gates m page slot =
    let apart : 8 * m + 128 * slot ≢ seal_cell_of m = λ e. omega arith in
    charged_rest m _ (128 * slot) ∙ (charged_other page (seal_cell_of m) (8 * m + 128 * slot) apart ∙ sym (charged_rest m page (128 * slot)))

pub seal_keeps_words : (m : ℕ) (page : List ℕ) (slot : ℕ) → word_at (drop m (with_charged page (seal_cell_of m))) slot ≡ word_at (drop m page) slot
seal_keeps_words m page slot = word_keeps m page (seal_cell_of m) slot (λ i few e. omega arith)
