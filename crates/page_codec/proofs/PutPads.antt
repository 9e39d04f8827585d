-- No put charges a pad cell.
use Rattle.std.proofs.Common.{◌≡◌, ◌≢◌, ◌⊎◌, inl, inr, ℕ, ◌+◌, ◌-◌, ◌*◌, ◌/◌, ◌%◌, ◌<◌, ◌≤◌, true, List, drop, length, ◌==◌, sym, ap, ◌∙◌, arith, subst}
use Rattle.std.specs.Int.{bit_at}
use Rattle.std.proofs.lemmas.Bool.{cases_eq, cases_lt, and_parts, or_cases, leb-true, false_from_ne_true, false≢true}
use Rattle.zero_count.specs.declared.Header.{Header}
use Rattle.cell_die.specs.Cells.{page_at, is_charged}
use Rattle.cell_die.specs.Pads.{is_pad, NoPadCharged}
use Rattle.cell_bits.proofs.Above.{keeps}
use Rattle.cell_bits.proofs.Slices.{charged_rest}
use Rattle.cell_bits.proofs.Charging.{charged_other}
use Rattle.spare_gate.specs.Slots.{with_header}
use Rattle.spare_gate.proofs.Headers.{header_byte}
use Rattle.page_codec.specs.declared.place.Place.{Place}
use Rattle.page_codec.specs.Geometry.{Geometry, shape_of, spare_at}
use Rattle.spare_gate.specs.Slots.{with_record}
use Rattle.page_codec.proofs.PutLaws.{PutsCells}

-- a pad cell is past the main bytes, and in the first or the last byte of a slot, but no gate
pad_parts : (g : Geometry) (page c : ℕ) → is_pad (shape_of g) page c ≡ true
    → (8 * g.main_bytes ≤ c) × (((1 ≤ (c - 8 * g.main_bytes) % 128) × ((c - 8 * g.main_bytes) % 128 ≤ 7)) ⊎ (120 ≤ (c - 8 * g.main_bytes) % 128))
pad_parts g page c e =
    let both = and_parts _ _ e in (
      leb-true _ _ (and_parts _ _ both.0).0,
      elim (or_cases _ _ both.1) [
        | inl low ↦ (let p = and_parts _ _ low in inl (leb-true _ _ p.0, leb-true _ _ p.1))
        | inr high ↦ inr (leb-true _ _ (and_parts _ _ high).0)
      ],
    )

abbrev IsPadded : ℕ → Type 0
IsPadded k = ((1 ≤ k % 128) × (k % 128 ≤ 7)) ⊎ (120 ≤ k % 128)

outside : (k slot : ℕ) → IsPadded k → (k / 8 < 16 * slot + 1) ⊎ (16 * slot + 15 ≤ k / 8)
outside k slot pad = elim (cases_lt (k / 8) (16 * slot + 1)) [
  | inl before ↦ inl before
  | inr after ↦ inr (elim pad [ inl low ↦ omega (arith, low.0, low.1) | inr high ↦ omega (arith, high) ])
]

no_gate : (k slot : ℕ) → IsPadded k → k ≢ 128 * slot
no_gate k slot (inl low) e = omega (arith, low.0, e)
no_gate k slot (inr high) e = omega (arith, high, e)

record_pad : (spare : List ℕ) (slot : ℕ) (h : Header) (k : ℕ) → 16 * slot + 16 ≤ length spare → IsPadded k → is_charged (with_record spare slot h) k ≡ is_charged spare k
record_pad spare slot h k room pad =
    charged_other (with_header spare slot h) (128 * slot) k (no_gate k slot pad)
    ∙ ap (λ (byte : ℕ). bit_at byte (k % 8) == 1) (header_byte spare slot h (k / 8) room (outside k slot pad))

pub put_keeps_pads : (g : Geometry) (place : Place) (h : Header) (old new : List (List ℕ)) → PutsCells g place h old new → NoPadCharged (shape_of g) old → NoPadCharged (shape_of g) new
put_keeps_pads g place h old new p none page c pad = false_from_ne_true (is_charged (page_at new page) c) (λ e.
    false≢true (sym (none page c pad) ∙ (sym same ∙ keeps (p.below page) c e)))
  where
    k : ℕ
    k = c - 8 * g.main_bytes

    cell : 8 * g.main_bytes + (c - 8 * g.main_bytes) ≡ c
    cell = omega (arith, (pad_parts g page c pad).0)

    in_spare : (row : List ℕ) → is_charged (drop g.main_bytes row) (c - 8 * g.main_bytes) ≡ is_charged row c
    in_spare row = charged_rest g.main_bytes row (c - 8 * g.main_bytes) ∙ ap (is_charged row) cell

    spare_same : is_charged (drop g.main_bytes (p.done page)) (c - 8 * g.main_bytes) ≡ is_charged (spare_at g old page) (c - 8 * g.main_bytes)
    spare_same = elim (cases_eq page place.page) [
      | inr apart ↦ ap (λ (spare : List ℕ). is_charged spare (c - 8 * g.main_bytes)) (p.other_spares page apart)
      | inl here ↦ subst (λ (q : ℕ). is_charged (drop g.main_bytes (p.done q)) (c - 8 * g.main_bytes) ≡ is_charged (spare_at g old q) (c - 8 * g.main_bytes)) (sym here)
          (ap (λ (spare : List ℕ). is_charged spare (c - 8 * g.main_bytes)) p.record_there
          ∙ record_pad (spare_at g old place.page) place.slot h (c - 8 * g.main_bytes) p.room (pad_parts g page c pad).1)
    ]

    same : is_charged (p.done page) c ≡ is_charged (page_at old page) c
    same = sym (in_spare (p.done page)) ∙ (spare_same ∙ in_spare (page_at old page))
