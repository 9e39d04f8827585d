-- What a record that became live does to the live counts, the map and the sectors.
use Rattle.std.proofs.Common.{◌≡◌, inl, inr, ℕ, ◌+◌, ◌*◌, ◌/◌, ◌<◌, Bool, true, false, cond, List, map, if◌then◌else◌, Option, Some, None, refl, sym, ap, ◌∙◌, subst, arith, get_or-set_same}
use Rattle.std.proofs.Common.{get_or-set_other, length-set}
use Rattle.std.specs.Prelude.{slice_set, slice_index_or}
use Rattle.std.specs.List.{range_with_len}
use Rattle.std.proofs.lemmas.Bool.{cases_eq}
use Rattle.std.proofs.lemmas.List.FromFn.{fill_by_all, length-map-range_with_len, get_or-map-range_with_len}
use Rattle.std.proofs.Math.Nat.{div-lt_iff_lt-mul}
use Rattle.zero_count.specs.declared.Header.{Header}
use Rattle.striped.specs.Meaning.{Decoding}
use Rattle.sector_map.specs.declared.entry.Entry.{Entry}
use Rattle.sector_map.specs.declared.entry.Entry.TheVariants.{Held, Zeros}
use Rattle.sector_map.specs.Entry.{entry_at}
use Rattle.block_state.specs.Book.{BookValue}
use Rattle.page_codec.specs.declared.place.Place.{Place}
use Rattle.page_codec.specs.Geometry.{Geometry, block_of, page_count}
use Rattle.page_codec.specs.Records.{Placed, live_record}
use Rattle.page_codec.specs.Sectors.{says_zeros, said_by, stored}
use Rattle.page_codec.specs.Gate.{GateWins}
use Rattle.page_codec.specs.Sound.{live_count, stands_in}
use Rattle.page_codec.specs.TrueBook.{IsTrue, entry_of, live_map}
use Rattle.page_codec.proofs.PutStored.{StoresOne}
use Rattle.collector.specs.Effects.{former_in, MayDrop}
use Rattle.collector.proofs.Books.{one_at, one_in}
use Rattle.collector.proofs.Room as room
use Rattle.collector.proofs.Counting.{count_moves, one_passes}
use Rattle.rssd_core.specs.Steps.{IsSized}
use Rattle.rssd_core.proofs.BlockLaws.{stands_here}
use Rattle.rssd_core.proofs.Wiping.{live_within}

-- the block of a sector's former live record, if it had one
abbrev pub former_of : Geometry → Option Placed → Option ℕ
former_of g None = None
former_of g (Some placed) = Some (block_of g placed.place.page)

pub former_is : (g : Geometry) (book : BookValue) (o : Option Placed) → book.pages ≡ g.pages → former_in book (entry_of o) ≡ former_of g o
former_is g book None e = refl
former_is g book (Some placed) e = at (says_zeros placed.header)
  where
    at : (t : Bool) → former_in book (if t then Some (Zeros (record { page = placed.place.page; slot = placed.place.slot })) else Some
        (Held (record { page = placed.place.page; slot = placed.place.slot }))) ≡ Some (block_of g placed.place.page)
    at true = ap (λ (n : ℕ). Some (placed.place.page / n)) e
    at false = ap (λ (n : ℕ). Some (placed.place.page / n)) e

-- the map's entry of a sector
pub entry_is : (g : Geometry) (cells : List (List ℕ)) (sector : ℕ) → sector < g.sectors → entry_at (live_map g cells) sector ≡ entry_of (live_record g cells sector)
unfolding live_map
entry_is g cells sector within = get_or-map-range_with_len (λ s. entry_of (live_record g cells s)) 0 g.sectors sector sector None within (omega arith)

one_stands : (g : Geometry) (o : Option Placed) (c : ℕ) → one_in (former_of g o) c ≡ cond (stands_in g c o) 1 0
one_stands g None c = refl
one_stands g (Some placed) c = refl

-- ---- the live counts, the map and the sectors

pub live_moves : (g : Geometry) (old new : List (List ℕ)) (place : Place) (h : Header) → h.sector < g.sectors → GateWins g old new place h → (c : ℕ)
    → live_count g new c + one_in (former_of g (live_record g old h.sector)) c ≡ live_count g old c + one_at (block_of g place.page) c
unfolding live_count
live_moves g old new place h within wins c =
    ap (λ (n : ℕ). live_count g new c + n) (one_stands g (live_record g old h.sector) c)
    ∙ (count_moves (λ s. stands_in g c (live_record g old s)) (λ s. stands_in g c (live_record g new s)) g.sectors h.sector within (λ k below apart. ap (stands_in g c) (sym (wins.others k apart)))
    ∙ ap (λ (o : Option Placed). live_count g old c + cond (stands_in g c o) 1 0) wins.live)

pub map_moves : (g : Geometry) (old new : List (List ℕ)) (place : Place) (h : Header) → h.sector < g.sectors → GateWins g old new place h
    → slice_set (live_map g old) h.sector (entry_of (Some (record { place = place; header = h }))) ≡ live_map g new
unfolding live_map
map_moves g old new place h within wins =
    fill_by_all (λ s. entry_of (live_record g new s))
    (slice_set (map (λ s. entry_of (live_record g old s)) (range_with_len 0 g.sectors)) h.sector (entry_of (Some (record { place = place; header = h })))) g.sectors None
    (length-set _ h.sector _ ∙ length-map-range_with_len (λ s. entry_of (live_record g old s)) 0 g.sectors)
    (λ k below. elim (cases_eq k h.sector) [
      | inl here ↦ ap (λ (j : ℕ). entry_at (slice_set (map (λ s. entry_of (live_record g old s)) (range_with_len 0 g.sectors)) h.sector
          (entry_of (Some (record { place = place; header = h })))) j) here
          ∙ (get_or-set_same _ h.sector _ None (subst (λ (n : ℕ). h.sector < n) (sym (length-map-range_with_len (λ s. entry_of (live_record g old s)) 0 g.sectors)) within)
          ∙ sym (ap entry_of (ap (live_record g new) here ∙ wins.live)))
      | inr there ↦ get_or-set_other _ h.sector k _ None there
          ∙ (get_or-map-range_with_len (λ s. entry_of (live_record g old s)) 0 g.sectors k k None below (omega arith) ∙ sym (ap entry_of (wins.others k there)))
    ])

pub rows_move : (g : Geometry) (d : Decoding) (old new : List (List ℕ)) (place : Place) (h : Header) (bytes : List ℕ) → h.sector < g.sectors → StoresOne g d place h old new
    → said_by g d new (Some (record { place = place; header = h })) ≡ bytes → stored g d new ≡ slice_set (stored g d old) h.sector bytes
unfolding stored
rows_move g d old new place h bytes within stores says =
    sym (fill_by_all (λ s. said_by g d new (live_record g new s)) (slice_set (map (λ s. said_by g d old (live_record g old s)) (range_with_len 0 g.sectors)) h.sector bytes) g.sectors bytes
    (length-set _ h.sector bytes ∙ length-map-range_with_len (λ s. said_by g d old (live_record g old s)) 0 g.sectors)
    (λ k below. elim (cases_eq k h.sector) [
      | inl here ↦ subst (λ (j : ℕ). at j ≡ said_by g d new (live_record g new j)) (sym here)
          (get_or-set_same _ h.sector bytes bytes (subst (λ (n : ℕ). h.sector < n) (sym (length-map-range_with_len (λ s. said_by g d old (live_record g old s)) 0 g.sectors)) within)
          ∙ sym (stores.own ∙ says))
      | inr there ↦ get_or-set_other _ h.sector k bytes bytes there
          ∙ (get_or-map-range_with_len (λ s. said_by g d old (live_record g old s)) 0 g.sectors k k bytes below (omega arith) ∙ sym (stores.others k there))
    ]))
  where
    at : ℕ → List ℕ
    at j = slice_index_or (slice_set (map (λ s. said_by g d old (live_record g old s)) (range_with_len 0 g.sectors)) h.sector bytes) j bytes

-- ---- the former record's block has a live record

pub block_below : (g : Geometry) (page : ℕ) → 0 < g.pages → page < page_count g → block_of g page < g.blocks
block_below g page some within = below page g.blocks g.pages some within
  where
    below : (p n w : ℕ) → 0 < w → p < n * w → p / w < n
    below p n w some h = (div-lt_iff_lt-mul some).1 h

pub may_drop : (g : Geometry) (cells : List (List ℕ)) (book : BookValue) (table : List (Option Entry)) (seq sector : ℕ) → IsSized g → IsTrue g cells book table seq
    → (o : Option Placed) → live_record g cells sector ≡ o → MayDrop book (former_of g o)
unfolding live_count
may_drop g cells book table seq sector sized true_tables None e = tt
may_drop g cells book table seq sector sized true_tables (Some x) e =
    let within = room.live_within g cells sector x (omega (arith, sized.two_slots)) e in
    let inside : block_of g x.place.page < g.blocks = block_below g x.place.page sized.pages within.0 in (
      subst (λ (n : ℕ). block_of g x.place.page < n) (sym true_tables.sizes.blocks) inside,
      subst (λ (n : ℕ). 0 < n) (sym (true_tables.live_counts (block_of g x.place.page) inside))
          (one_passes (λ s. stands_in g (block_of g x.place.page) (live_record g cells s)) g.sectors sector (live_within g cells sector x e)
          (stands_here g (block_of g x.place.page) (live_record g cells sector) x e refl)),
    )
