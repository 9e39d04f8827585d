-- The die, the scheme and the buffers agree.
use Rattle.std.specs.Prelude.{OnOk, OnErr}
use Rattle.std.proofs.Common.{◌≡◌, ℕ, ◌+◌, ◌*◌, ◌^◌, ◌<◌, ◌≤◌, true, false, List, take, drop, length, Option, Result, Ok, Err, refl, sym, ap, ◌∙◌, subst, arith}
use Rattle.std.proofs.Math.Nat.{mul-le-mul}
use Rattle.std.proofs.lemmas.Bool.{false≢true}
use Rattle.zero_count.specs.declared.Header.{Header}
use Rattle.cell_die.specs.declared.shape.Shape.{Shape}
use Rattle.cell_die.specs.Cells.{page_at, is_blank}
use Rattle.cell_die.specs.DieState.{DieState, IsShaped, page_of}
use Rattle.cell_die.specs.Calls.{Kept}
use Rattle.spare_gate.specs.Slots.{is_gate_charged}
use Rattle.page_codec.specs.Puts.{Puts, FirstGives, MainBlank, first_slot, is_gated}
use Rattle.page_codec.specs.Sectors.{says_zeros, zero_sector, InCells}
use Rattle.collector.proofs.Rows.{first_says, zeros_say}
use Rattle.rssd_core.specs.Steps.{IsSized}
use Rattle.rssd_core.proofs.AtHand.{PutsAtHand, at_hand}
use Rattle.striped.specs.Meaning.{Meaning, Decodes, IsSector}
use Rattle.sector_map.specs.declared.entry.Entry.{Entry}
use Rattle.block_state.specs.Book.{BookValue}
use Rattle.page_alloc.specs.CleanPage.{IsPageBranch}
use Rattle.page_codec.specs.Geometry.{Geometry, shape_of, page_count}
use Rattle.page_codec.specs.Sizes.{Sizes, Serves, ServesScheme}
use Rattle.page_codec.specs.TrueBook.{IsTrue, IsTrueState, IsTrueActive}
use Rattle.collector.specs.Store.{geometry_of, store}
use Rattle.collector.proofs.Books.{active_within}
use Rattle.collector.proofs.NextPage.{next_page, next_page_within}

-- the die has the shape of the device's numbers
pub shape_is : (shape : Shape) (meaning : Meaning) (sectors : ℕ) (sizes : Sizes) → Serves sizes shape → ServesScheme sizes meaning → shape ≡ shape_of (geometry_of shape meaning sectors)
shape_is shape meaning sectors sizes die scheme = λ i. record {
  blocks = shape.blocks;
  pages = shape.pages;
  main_bytes = shape.main_bytes;
  spare_bytes = (die.spare_bytes ∙ ap (λ (n : ℕ). 16 * n) (sym scheme.generations)) i;
}

-- the page at hand is one of the die, and blank
pub record IsAtHand (g : Geometry) (cells : List (List ℕ)) (page : ℕ) : Type 0 where
  pub within : page < page_count g
  pub few : page < 131072
  pub blank : is_blank (page_at cells page) ≡ true

pub at_hand_page : (g : Geometry) (cells : List (List ℕ)) (book : BookValue) (table : List (Option Entry)) (seq page : ℕ) → IsTrue g cells book table seq → IsPageBranch book page
    → IsAtHand g cells page
at_hand_page g cells book table seq page t (block, fill, active, at) =
    let inside : block < g.blocks = omega (arith, active_within book block fill active, t.sizes.blocks) in
    let is_active : IsTrueActive g cells block fill = subst (IsTrueState g cells block) active (t.states block inside) in
    let same : next_page g block fill ≡ page = ap (λ (n : ℕ). block * n + fill) (sym t.sizes.pages) ∙ sym at in
    let within : page < page_count g = subst (λ (p : ℕ). p < page_count g) same (next_page_within g block fill inside is_active.room) in
    let blocks : g.blocks ≤ 1024 = omega (arith, t.sizes.blocks, t.kept.few_blocks) in
    let pages : g.pages ≤ 128 = omega (arith, t.sizes.pages, t.kept.few_pages) in
    record {
      within = within;
      few = omega (arith, within, mul-le-mul blocks pages);
      blank = subst (λ (p : ℕ). is_blank (page_at cells p) ≡ true) same (is_active.blank fill (omega arith) is_active.room);
    }

-- the gate of slot 0 after the put, by the numbers of the device
pub gate_there : (old new : DieState) (page : ℕ) → new.shape ≡ old.shape → is_gate_charged (drop old.shape.main_bytes (page_of new page)) 0 ≡ true → is_gated new (first_slot page) ≡ true
gate_there old new page same e = ap (λ (s : Shape). is_gate_charged (drop s.main_bytes (page_of new page)) 0) same ∙ e

pub gate_here : (old new : DieState) (page : ℕ) → new.shape ≡ old.shape → is_gated new (first_slot page) ≡ true → is_gate_charged (drop old.shape.main_bytes (page_of new page)) 0 ≡ true
gate_here old new page same e = ap (λ (s : Shape). is_gate_charged (drop s.main_bytes (page_of new page)) 0) (sym same) ∙ e

-- what a put of a sector, and one of zeros, leave in the page's main cells
first_in_cells : (g : Geometry) (meaning : Meaning) (page : ℕ) (h : Header) (sector : List ℕ) (old new : DieState) → Puts (FirstGives meaning page sector) 1 (first_slot page) h old new
    → is_gated new (first_slot page) ≡ true → meaning.page_bytes ≡ g.main_bytes → says_zeros h ≡ false → InCells g meaning.decoding new.cells page h sector
first_in_cells g meaning page h sector old new p gated bytes kind = record {
  bytes = λ _. (λ i. meaning.decoding.first_gives (take (sym bytes i) (p.whole gated page i)) sector) ∙ p.content;
  zeros = λ zeros. absurd (false≢true (sym kind ∙ zeros));
}

zeros_in_cells : (g : Geometry) (meaning : Meaning) (page : ℕ) (h : Header) (sector : List ℕ) (old new : DieState) → Puts (MainBlank g.main_bytes page) 1 (first_slot page) h old new
    → is_gated new (first_slot page) ≡ true → says_zeros h ≡ true → InCells g meaning.decoding new.cells page h sector
zeros_in_cells g meaning page h sector old new p gated kind = record {
  bytes = λ bytes. absurd (false≢true (sym bytes ∙ kind));
  zeros = λ _. ap (λ (row : List ℕ). is_blank (take g.main_bytes row)) (p.whole gated page) ∙ p.content;
}

module _ (old new : DieState) (meaning : Meaning) (sizes : Sizes) (table : List (Option Entry)) (book : BookValue) (seq page sector : ℕ)
    (die : Serves sizes old.shape) (scheme : ServesScheme sizes meaning) (sized : IsSized (geometry_of old.shape meaning (length table)))
    (kept : Kept old new) (shaped : IsShaped old) (shaped_new : IsShaped new)
    (tables : IsTrue (geometry_of old.shape meaning (length table)) old.cells book table seq) (branch : IsPageBranch book page)
    (small : seq < 2 ^ 62 + 2 ^ 8) (within : sector < length table) (narrow : sector < 2 ^ 32) where
  -- a put of a sector
  pub sector_at_hand : (bytes : List ℕ) → Puts (FirstGives meaning page bytes) 1 (first_slot page) (record { sector = sector; seq = seq; kind = 1 }) old new → Decodes meaning → IsSector meaning bytes
      → PutsAtHand (geometry_of old.shape meaning (length table)) meaning.decoding page (record { sector = sector; seq = seq; kind = 1 }) bytes (store old table book seq) new
  sector_at_hand bytes p decodes is =
      at_hand (geometry_of old.shape meaning (length table)) meaning.decoding page (record { sector = sector; seq = seq; kind = 1 }) bytes (store old table book seq) new sized p
      (shape_is old.shape meaning (length table) sizes die scheme) kept shaped shaped_new tables branch small refl
      (record { sector = narrow; seq = omega arith; least_kind = omega arith; greatest_kind = omega arith }) within refl
      (λ gated. first_says (geometry_of old.shape meaning (length table)) meaning page (record { sector = sector; seq = seq; kind = 1 }) bytes old new p (gate_there old new page kept.shape gated)
      (scheme.page_bytes ∙ sym die.main_bytes) decodes is refl)
      (λ gated. first_in_cells (geometry_of old.shape meaning (length table)) meaning page (record { sector = sector; seq = seq; kind = 1 }) bytes old new p (gate_there old new page kept.shape gated)
      (scheme.page_bytes ∙ sym die.main_bytes) refl)

  -- a put of zeros
  pub zeros_at_hand : Puts (MainBlank old.shape.main_bytes page) 1 (first_slot page) (record { sector = sector; seq = seq; kind = 3 }) old new
      → PutsAtHand (geometry_of old.shape meaning (length table)) meaning.decoding page (record { sector = sector; seq = seq; kind = 3 })
      (zero_sector (geometry_of old.shape meaning (length table))) (store old table book seq) new
  zeros_at_hand p =
      at_hand (geometry_of old.shape meaning (length table)) meaning.decoding page (record { sector = sector; seq = seq; kind = 3 }) (zero_sector (geometry_of old.shape meaning (length table)))
      (store old table book seq) new sized p
      (shape_is old.shape meaning (length table) sizes die scheme) kept shaped shaped_new tables branch small refl
      (record { sector = narrow; seq = omega arith; least_kind = omega arith; greatest_kind = omega arith }) within refl
      (λ gated. zeros_say (geometry_of old.shape meaning (length table)) meaning.decoding new.cells (first_slot page) (record { sector = sector; seq = seq; kind = 3 }) refl)
      (λ gated. zeros_in_cells (geometry_of old.shape meaning (length table)) meaning page (record { sector = sector; seq = seq; kind = 3 })
      (zero_sector (geometry_of old.shape meaning (length table))) old new p (gate_there old new page kept.shape gated) refl)

-- where a call failed, all of this
pub err_any : {T E P : Type 0} (result : Result T E) → P → OnErr result P
err_any (Ok x) p = tt
err_any (Err e) p = p

pub ok_any : {T E P : Type 0} (result : Result T E) → P → OnOk result P
ok_any (Ok x) p = p
ok_any (Err e) p = tt
