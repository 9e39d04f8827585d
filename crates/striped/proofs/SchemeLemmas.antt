-- From chunks to whole units.
use Rattle.std.proofs.Common.{◌≡◌, ℕ, ◌<◌, ◌≤◌, ◌+◌, ◌*◌, ◌/◌, ◌%◌, Bool, true, false, List, length, replicate, sym, ◌∙◌, ap, ap₂, subst, inl, inr, arith}
use Rattle.std.proofs.lemmas.Bool.{cases_lt, false≢true}
use Rattle.std.specs.Int.{bit_at}
use Rattle.std.proofs.lemmas.List.{get_or_past, get_or-replicate, length-replicate}
use Rattle.std.proofs.lemmas.Nat.Bits.{bit_at-zero}
use Rattle.cell_bits.specs.Cells.{charge_at, is_charged, IsAbove}
use Rattle.cell_bits.proofs.Above.{keeps}
use Rattle.wom_code.specs.Cells.{cell_at, NoneCarries}
use Rattle.striped.specs.Striping.{Striping, striping, page_bytes, chunks, chunk_cells, chunk_message, IsCarried, carries, IsGiven, gives}
use Rattle.striped.specs.Layouts.{meaning_of}
use Rattle.striped.proofs.ChunkLemmas.{length-chunk_cells, get_or-chunk_cells, length-chunk_message, place}
use Rattle.striped.specs.Carried.{carries_to}
use Rattle.striped.proofs.ReadLemmas.{carries_from, gives_from}
use Rattle.striped.proofs.RowSteps.{charge_at-past}

-- the codes decode as before, so the scheme does
pub same_meaning : (k m n b g : ℕ) (f f' : List Bool → List Bool) (a a' : List Bool → List Bool → List Bool → Bool) (h h' : List Bool → List Bool) (c c' : List Bool → List Bool → List Bool → Bool)
    → ((row : List Bool) → f' row ≡ f row) → ((x y z : List Bool) → a' x y z ≡ a x y z) → ((row : List Bool) → h' row ≡ h row) → ((x y z : List Bool) → c' x y z ≡ c x y z)
    → meaning_of k m n b g f' a' h' c' ≡ meaning_of k m n b g f a h c
same_meaning k m n b g f f' a a' h h' c c' p q r s = λ i. meaning_of k m n b g (λ row. p row i) (λ x y z. q x y z i) (λ row. r row i) (λ x y z. s x y z i)

chunk_above : (s : Striping) (n : ℕ) (new old : List ℕ) (i : ℕ) → IsAbove new old → (c : ℕ) → cell_at (chunk_cells s n old i) c ≡ true → cell_at (chunk_cells s n new i) c ≡ true
chunk_above s n new old i above c h =
    elim (cases_lt c n) [
      | inl l ↦ get_or-chunk_cells s n new i c l ∙ keeps above (place (8 * page_bytes s) s.page_cells i c) (sym (get_or-chunk_cells s n old i c l) ∙ h)
      | inr m ↦ absurd (false≢true (sym (get_or_past (chunk_cells s n old i) c false (omega (arith, length-chunk_cells s n old i))) ∙ h))
    ]

-- a chunk that no cells above the old ones carry
pub none_above : (s : Striping) (n : ℕ) (decode : List Bool → List Bool) (old sector : List ℕ) →
    (i : ℕ) × (i < chunks s) × NoneCarries decode n (chunk_cells s n old i) (chunk_message s sector i) → (new : List ℕ) → IsAbove new old → carries s n decode new sector ≡ true → ⊥
none_above s n decode old sector d new above e =
    d.2 (chunk_cells s n new d.0) (length-chunk_cells s n new d.0) (record { above = chunk_above s n new old d.0 above; decodes = carries_to s n decode new sector e d.0 d.1 })

-- blank cells take every message
pub blank_takes : (s : Striping) (n : ℕ) (decode : List Bool → List Bool) (old sector : List ℕ) →
    ((message : List Bool) → length message ≡ s.message_bits → (cells : List Bool) × (length cells ≡ n) × (decode cells ≡ message)) →
    ((c : ℕ) → is_charged old c ≡ false) →
    (i : ℕ) × (i < chunks s) × NoneCarries decode n (chunk_cells s n old i) (chunk_message s sector i) → ⊥
blank_takes s n decode old sector takes blank d =
    let t = takes (chunk_message s sector d.0) (length-chunk_message s sector d.0) in
    d.2 t.0 t.1 (record {
      above = λ c h. elim (cases_lt c n) [
        | inl l ↦ absurd (false≢true (sym (blank (place (8 * page_bytes s) s.page_cells d.0 c)) ∙ sym (get_or-chunk_cells s n old d.0 c l) ∙ h))
        | inr m ↦ absurd (false≢true (sym (get_or_past (chunk_cells s n old d.0) c false (omega (arith, length-chunk_cells s n old d.0))) ∙ h))
      ];
      decodes = t.2;
    })

-- ---- a striping whose numbers the code has under other names

pub carries_at : (k m m' n b b' : ℕ) (decode : List Bool → List Bool) (bytes sector : List ℕ) → m ≡ m' → b ≡ b' →
    IsCarried (striping k m n b) n decode bytes sector → carries (striping k m' n b') n decode bytes sector ≡ true
carries_at k m m' n b b' decode bytes sector p q h =
    subst (λ (s : Striping). carries s n decode bytes sector ≡ true) (ap₂ (λ (x y : ℕ). striping k x n y) p q) (carries_from (striping k m n b) n decode bytes sector h)

pub gives_at : (k m m' n b b' : ℕ) (given : List Bool → List Bool → List Bool → Bool) (old old' sector new : List ℕ) → m ≡ m' → b ≡ b' → old ≡ old' →
    IsGiven (striping k m n b) n given old sector new → gives (striping k m' n b') n given old' sector new ≡ true
gives_at k m m' n b b' given old old' sector new p q o h =
    subst (λ (old : List ℕ). gives (striping k m' n b') n given old sector new ≡ true) o
    (subst (λ (s : Striping). gives s n given old sector new ≡ true) (ap₂ (λ (x y : ℕ). striping k x n y) p q) (gives_from (striping k m n b) n given old sector new h))

-- no unit cells above the old ones carry the sector
pub none_above_at : (k m m' n b b' : ℕ) (decode : List Bool → List Bool) (old sector : List ℕ) → m ≡ m' → b ≡ b' →
    (i : ℕ) × (i < chunks (striping k m n b)) × NoneCarries decode n (chunk_cells (striping k m n b) n old i) (chunk_message (striping k m n b) sector i) →
    (new : List ℕ) → IsAbove new old → carries (striping k m' n b') n decode new sector ≡ true → ⊥
none_above_at k m m' n b b' decode old sector p q d new above e =
    none_above (striping k m n b) n decode old sector d new above (subst (λ (s : Striping). carries s n decode new sector ≡ true) (sym (ap₂ (λ (x y : ℕ). striping k x n y) p q)) e)

-- ---- a page that was blank

pub blank_cell : (n c : ℕ) → charge_at (replicate n 0) c ≡ 0
blank_cell n c = elim (cases_lt (c / 8) n) [
  | inl within ↦ ap (λ (byte : ℕ). bit_at byte (c % 8)) (get_or-replicate n (c / 8) 0 0 within) ∙ bit_at-zero (c % 8)
  | inr past ↦ charge_at-past (replicate n 0) c (omega (arith, length-replicate {A = ℕ} n 0))
]

pub rest_blank : (old new : List ℕ) (pb used : ℕ) → length new ≡ pb → ((c : ℕ) → charge_at old c ≡ 0) →
    ((page c : ℕ) → c < 8 * pb → used ≤ c → charge_at new (8 * pb * page + c) ≡ charge_at old (8 * pb * page + c)) → (c : ℕ) → used ≤ c → charge_at new c ≡ 0
rest_blank old new pb used long blank rest c past = elim (cases_lt c (8 * pb)) [
  | inl within ↦ (let place : c ≡ 8 * pb * 0 + c = omega arith in ap (charge_at new) place ∙ (rest 0 c within past ∙ blank (8 * pb * 0 + c)))
  | inr outside ↦ charge_at-past new c (omega arith)
]
