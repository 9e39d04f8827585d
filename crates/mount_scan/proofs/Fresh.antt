-- New tables are as a scan has them before its first slot.
use Rattle.std.proofs.Common.{◌≡◌, inl, inr, ℕ, zero, suc, ◌<◌, ◌≤◌, List, [], length, get_or, replicate, None, refl, sym, ap, ◌∙◌, subst, arith}
use Rattle.std.specs.List.{count_by}
use Rattle.std.proofs.lemmas.Bool.{cases_lt}
use Rattle.std.proofs.lemmas.List.{get_or-replicate, get_or_past, length-replicate}
use Rattle.std.proofs.lemmas.List.Sums.{sum_by-cons}
use Rattle.std.proofs.lemmas.Option.{none-some}
use Rattle.cell_die.specs.declared.shape.Shape.{Shape}
use Rattle.sector_map.specs.Entry.{entry_at}
use Rattle.block_state.specs.declared.state.State.TheVariants.{Clean}
use Rattle.block_state.specs.Book.{state_at, live_at}
use Rattle.page_codec.specs.Geometry.{Geometry}
use Rattle.page_codec.specs.Records.{newest}
use Rattle.mount_scan.specs.declared.tables.Tables.{Tables}
use Rattle.mount_scan.specs.New.{IsNew}
use Rattle.mount_scan.specs.Noted.{is_entry_in, newest_in, next_seq, IsReading, Scanned}
use Rattle.mount_scan.proofs.Reading.{ones}

pub all_default : {X : Type 0} (n i : ℕ) (x : X) → get_or (replicate n x) i x ≡ x
all_default n i x = elim (cases_lt i n) [
  | inl inside ↦ get_or-replicate n i x x inside
  | inr past ↦ get_or_past (replicate n x) i x (subst (λ k. k ≤ i) (sym (length-replicate n x)) past)
]

none_in : (pages block n : ℕ) → count_by (is_entry_in pages block) (replicate n None) ≡ 0
none_in pages block zero = refl
none_in pages block (suc n) = sum_by-cons (ones pages block) None (replicate n None) ∙ omega (arith, none_in pages block n)

pub new_reading : (shape : Shape) (sectors span generations : ℕ) (tables : Tables) → 0 < shape.pages → IsNew shape sectors span generations tables → IsReading tables
new_reading shape sectors span generations tables pages new =
    let long = ap (λ b. length b.states) new.book ∙ length-replicate shape.blocks Clean in
    record {
      seqs = new.seqs ∙ sym (ap length new.map ∙ length-replicate sectors None);
      found = new.found ∙ sym long;
      lives = ap (λ b. length b.live) new.book ∙ (length-replicate shape.blocks 0 ∙ sym long);
      some_pages = subst (λ b. 0 < b.pages) (sym new.book) pages;
      live = λ block.
          ap (λ b. live_at b block) new.book
          ∙ (all_default shape.blocks block 0 ∙ sym (ap (count_by (is_entry_in tables.book.pages block)) new.map ∙ none_in tables.book.pages block sectors));
      within = λ sector entry is. absurd (none-some entry (sym (ap (λ m. entry_at m sector) new.map ∙ all_default sectors sector None) ∙ is));
      clean = λ block. ap (λ b. state_at b block) new.book ∙ all_default shape.blocks block Clean;
      order = ap (λ b. b.order) new.book;
    }

pub new_scanned : (g : Geometry) (cells : List (List ℕ)) (tables : Tables) → tables.map ≡ replicate g.sectors None → tables.seq ≡ 1 → Scanned g cells [] tables
unfolding newest_in newest next_seq
new_scanned g cells tables map seq = record {
  names = record {
    sectors = ap length map ∙ length-replicate g.sectors None;
    entries = λ sector inside. ap (λ m. entry_at m sector) map ∙ all_default g.sectors sector None;
    seqs = λ sector placed inside is. absurd (none-some placed is);
  };
  seq = seq;
}
