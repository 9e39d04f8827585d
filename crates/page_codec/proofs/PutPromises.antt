-- What a put keeps of a device's records follows from what it leaves of the cells.
use Rattle.std.proofs.Common.{◌≡◌, ℕ, false, List, drop, Result, Ok, Err, refl, sym, ap, ◌∙◌, subst}
use Rattle.std.proofs.lemmas.Bool.{false≢true}
use Rattle.zero_count.specs.declared.Header.{Header}
use Rattle.zero_count.specs.HeaderWord.{IsHeader}
use Rattle.cell_die.specs.declared.shape.Shape.{Shape}
use Rattle.cell_die.specs.DieState.{DieState, IsShaped, page_of}
use Rattle.cell_die.specs.Changes.{SameCells}
use Rattle.spare_gate.specs.Slots.{is_gate_charged}
use Rattle.page_codec.specs.declared.place.Place.{Place}
use Rattle.page_codec.specs.Geometry.{Geometry, shape_of, spare_at}
use Rattle.wom_code.specs.declared.code.Carry.{Carry}
use Rattle.wom_code.specs.declared.code.Carry.TheVariants.{Carried, Declined}
use Rattle.striped.specs.Meaning.{Meaning}
use Rattle.page_codec.specs.declared.fault.PutFault.{PutFault}
use Rattle.page_codec.specs.declared.fault.PutFault.TheVariants.{Read, Change}
use Rattle.page_codec.specs.Puts.{Puts, is_gated}
use Rattle.page_codec.specs.Units.{SecondEnds}
use Rattle.page_codec.specs.Promises.{Keeps, KeepsRecords}
use Rattle.page_codec.proofs.PutLaws.{PutsCells, put_keeps_live, put_wins, put_keeps_headers, put_keeps_seqs, put_keeps_bound}
use Rattle.page_codec.proofs.PutPads.{put_keeps_pads}
use Rattle.page_codec.proofs.PutCells.{put_cells}

-- by the cells alone
keeps_cells : (g : Geometry) (place : Place) (h : Header) (old new : List (List ℕ)) → PutsCells g place h old new → IsHeader h → is_gate_charged (spare_at g old place.page) place.slot ≡ false
    → Keeps g place h old new
keeps_cells g place h old new p header before = record {
  gate = record {
    before = λ after. put_keeps_live g place h old new p before after;
    from_then = λ charged holds single newest. put_wins g place h old new p holds single before charged newest;
  };
  sound = record {
    header_cells = put_keeps_headers g place h old new p header;
    different_seqs = λ fresh differ. put_keeps_seqs g place h old new p header fresh differ;
    bounded_seqs = λ bound small below. put_keeps_bound g place h old new bound p header small below;
  };
  pads = put_keeps_pads g place h old new p;
}

-- the gate as a cell of the device
gate_before : (g : Geometry) (place : Place) (die : DieState) → die.shape ≡ shape_of g → is_gated die place ≡ false → is_gate_charged (spare_at g die.cells place.page) place.slot ≡ false
gate_before g place die shape e = ap (λ (s : Shape). is_gate_charged (drop s.main_bytes (page_of die place.page)) place.slot) (sym shape) ∙ e

-- a put over an uncharged gate
pub put_keeps : {Content : (ℕ → List ℕ) → Type 0} {span : ℕ} (place : Place) (h : Header) (old new : DieState) → Puts Content span place h old new
    → new.shape ≡ old.shape → IsShaped old → IsShaped new → is_gated old place ≡ false → KeepsRecords place h old new
put_keeps place h old new p same shaped shaped_new before g s header = keeps_cells g place h old.cells new.cells
    (put_cells g place h old new p s.shape same shaped shaped_new s.page s.slot) header (gate_before g place old s.shape before)

-- no change keeps all
none_keeps : (g : Geometry) (place : Place) (h : Header) (cells : List (List ℕ)) → is_gate_charged (spare_at g cells place.page) place.slot ≡ false → Keeps g place h cells cells
none_keeps g place h cells before = record {
  gate = record { before = λ after sector. refl; from_then = λ charged holds single newest. absurd (false≢true (sym before ∙ charged)) };
  sound = record { header_cells = λ x. x; different_seqs = λ fresh x. x; bounded_seqs = λ bound small x. x };
  pads = λ x. x;
}

pub same_keeps : (place : Place) (h : Header) (old new : DieState) → SameCells old new → is_gated old place ≡ false → KeepsRecords place h old new
same_keeps place h old new same before g s header =
    subst (λ (cells : List (List ℕ)). Keeps g place h old.cells cells) (sym same.cells) (none_keeps g place h old.cells (gate_before g place old s.shape before))

-- a later write of a unit, however it ends
pub second_keeps : (meaning : Meaning) (place : Place) (h : Header) (sector : List ℕ) (result : Result Carry PutFault) (old new : DieState) → SecondEnds meaning place h sector result old new
    → new.shape ≡ old.shape → IsShaped old → IsShaped new → is_gated old place ≡ false → KeepsRecords place h old new
second_keeps meaning place h sector (Ok Carried) old new ends same shaped shaped_new before = put_keeps place h old new ends.0 same shaped shaped_new before
second_keeps meaning place h sector (Ok Declined) old new ends same shaped shaped_new before = same_keeps place h old new ends.0 before
second_keeps meaning place h sector (Err Read) old new ends same shaped shaped_new before = same_keeps place h old new ends.0 before
second_keeps meaning place h sector (Err Change) old new ends same shaped shaped_new before = put_keeps place h old new ends.0 same shaped shaped_new before
