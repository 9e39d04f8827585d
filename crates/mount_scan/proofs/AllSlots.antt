-- Once all slots are scanned the map names the live records, the live counts are theirs, and the next seq is that of a mount.
use Rattle.std.proofs.Common.{◌≡◌, ◌⊎◌, inl, inr, ℕ, zero, suc, ◌+◌, ◌/◌, ◌<◌, ◌≤◌, max, Bool, true, false, cond, List, [], ◌∷◌, ◌++◌, map, ◌==◌, if◌then◌else◌, Option, Some, None, refl, sym, ap}
use Rattle.std.proofs.Common.{◌∙◌, subst, arith}
use Rattle.std.specs.List.{count_by, flat_map, fold, range_with_len}
use Rattle.std.proofs.lemmas.Bool.{cases_lt}
use Rattle.std.proofs.lemmas.List.Sums.{sum_by-cons}
use Rattle.std.proofs.lemmas.List.FromFn.{fill_by_all}
use Rattle.zero_count.specs.declared.Header.{Header}
use Rattle.sector_map.specs.declared.entry.Entry.TheVariants.{Held, Zeros}
use Rattle.block_state.specs.Book.{live_at}
use Rattle.page_codec.specs.declared.place.Place.{Place}
use Rattle.page_codec.specs.Geometry.{Geometry, HasShape, page_count, shape_of}
use Rattle.page_codec.specs.Sectors.{says_zeros}
use Rattle.page_codec.specs.Records.{Placed, header_in, places, records_of, live_record}
use Rattle.page_codec.specs.Sound.{stands_in, live_count}
use Rattle.page_codec.specs.TrueBook.{entry_of, live_map}
use Rattle.page_codec.proofs.Newest.{Member}
use Rattle.page_codec.proofs.Within.{header_within}
use Rattle.mount_scan.specs.declared.tables.Tables.{Tables}
use Rattle.mount_scan.specs.Mounted.{seq_after, IsMountedSeq}
use Rattle.mount_scan.specs.Noted.{is_entry_in, newest_in, next_seq, seq_with, IsReading, Names, Scanned}

newest_in-all : (g : Geometry) (cells : List (List ℕ)) (sector : ℕ) → newest_in g cells (places g) sector ≡ live_record g cells sector
unfolding newest_in live_record records_of
newest_in-all g cells sector = refl

count_by-map : {X Y : Type 0} (p : Y → Bool) (f : X → Y) (xs : List X) → count_by p (map f xs) ≡ count_by (λ x. p (f x)) xs
count_by-map p f [] = refl
count_by-map p f (x ∷ xs) =
    sum_by-cons (λ y. cond (p y) 1 0) (f x) (map f xs)
    ∙ (ap (λ n. cond (p (f x)) 1 0 + n) (count_by-map p f xs) ∙ sym (sum_by-cons (λ z. cond (p (f z)) 1 0) x xs))

-- the map names each sector's live record
pub map_is_live : (g : Geometry) (cells : List (List ℕ)) (tables : Tables) → Names g cells (places g) tables → tables.map ≡ live_map g cells
unfolding live_map
map_is_live g cells tables names =
    fill_by_all (λ sector. entry_of (live_record g cells sector)) tables.map g.sectors None names.sectors
    (λ sector inside. names.entries sector inside ∙ ap entry_of (newest_in-all g cells sector))

entry_stands : (g : Geometry) (block : ℕ) (o : Option Placed) → is_entry_in g.pages block (entry_of o) ≡ stands_in g block o
entry_stands g block None = refl
entry_stands g block (Some placed) = at (says_zeros placed.header) where
  at : (t : Bool) → is_entry_in g.pages block
      (if t then Some (Zeros (record { page = placed.place.page; slot = placed.place.slot })) else Some (Held (record { page = placed.place.page; slot = placed.place.slot })))
      ≡ (placed.place.page / g.pages == block)
  at true = refl
  at false = refl

-- each live count is the number of sectors whose live record stands in the block
pub lives_are_live : (g : Geometry) (cells : List (List ℕ)) (tables : Tables) (block : ℕ) → tables.book.pages ≡ g.pages → IsReading tables → Names g cells (places g) tables
    → live_at tables.book block ≡ live_count g cells block
unfolding live_count live_map
lives_are_live g cells tables block pages reading names =
    reading.live block
    ∙ (ap (λ p. count_by (is_entry_in p block) tables.map) pages
    ∙ (ap (count_by (is_entry_in g.pages block)) (map_is_live g cells tables names)
    ∙ (count_by-map (is_entry_in g.pages block) (λ sector. entry_of (live_record g cells sector)) (range_with_len 0 g.sectors)
    ∙ (λ i. count_by (λ sector. entry_stands g block (live_record g cells sector) i) (range_with_len 0 g.sectors)))))

-- ---- the next seq

abbrev seq_from : Geometry → List (List ℕ) → ℕ → List Place → ℕ
seq_from g cells seq slots = fold (λ s place. seq_with s (header_in g cells place)) seq slots

with_least : (seq : ℕ) (o : Option Header) → seq ≤ seq_with seq o
with_least seq None = omega arith
with_least seq (Some header) = omega arith

seq_least : (g : Geometry) (cells : List (List ℕ)) (seq : ℕ) (slots : List Place) → seq ≤ seq_from g cells seq slots
seq_least g cells seq [] = omega arith
seq_least g cells seq (place ∷ slots) = omega (arith, with_least seq (header_in g cells place), seq_least g cells (seq_with seq (header_in g cells place)) slots)

seq_covers : (g : Geometry) (cells : List (List ℕ)) (seq : ℕ) (slots : List Place) (place : Place) (header : Header) → Member place slots → header_in g cells place ≡ Some header
    → seq_after header ≤ seq_from g cells seq slots
seq_covers g cells seq [] place header m e = absurd m
seq_covers g cells seq (first ∷ slots) place header m e = elim m [
  | inl same ↦ (
      let now : seq_with seq (header_in g cells first) ≡ max seq (seq_after header) = ap (seq_with seq) (ap (header_in g cells) (sym same) ∙ e) in
      omega (arith, now, seq_least g cells (seq_with seq (header_in g cells first)) slots))
  | inr later ↦ seq_covers g cells (seq_with seq (header_in g cells first)) slots place header later e
]

-- where the next seq comes from
abbrev Reached : Geometry → List (List ℕ) → ℕ → ℕ → Type 0
Reached g cells from seq = (seq ≡ from) ⊎ ((place : Place) × (header : Header) × (header_in g cells place ≡ Some header) × (seq ≡ seq_after header))

reached_one : (g : Geometry) (cells : List (List ℕ)) (seq : ℕ) (place : Place) (o : Option Header) → header_in g cells place ≡ o → Reached g cells seq (seq_with seq o)
reached_one g cells seq place None e = inl refl
reached_one g cells seq place (Some header) e = elim (cases_lt seq (seq_after header)) [
  | inl high ↦ inr (place, header, e, omega (arith, high))
  | inr low ↦ inl (omega (arith, low))
]

reached_then : (g : Geometry) (cells : List (List ℕ)) (from mid seq : ℕ) → Reached g cells from mid → Reached g cells mid seq → Reached g cells from seq
reached_then g cells from mid seq first second = elim second [
  | inl same ↦ subst (Reached g cells from) (sym same) first
  | inr more ↦ inr more
]

seq_reached : (g : Geometry) (cells : List (List ℕ)) (seq : ℕ) (slots : List Place) → Reached g cells seq (seq_from g cells seq slots)
seq_reached g cells seq [] = inl refl
seq_reached g cells seq (place ∷ slots) =
    reached_then g cells seq (seq_with seq (header_in g cells place)) _ (reached_one g cells seq place (header_in g cells place) refl)
    (seq_reached g cells (seq_with seq (header_in g cells place)) slots)

-- ---- the list of all slots

member_range : (a n k : ℕ) → k < n → Member (a + k) (range_with_len a n)
member_range a zero k h = absurd (omega arith)
member_range a (suc n) zero h = inl (omega arith)
member_range a (suc n) (suc k) h = inr (subst (λ z. Member z (range_with_len (a + 1) n)) (omega arith) (member_range (a + 1) n k (omega arith)))

member_from_0 : (n k : ℕ) → k < n → Member k (range_with_len 0 n)
member_from_0 n k h = subst (λ z. Member z (range_with_len 0 n)) (omega arith) (member_range 0 n k h)

member_map : {X Y : Type 0} (f : X → Y) (x : X) (xs : List X) → Member x xs → Member (f x) (map f xs)
member_map f x [] m = absurd m
member_map f x (y ∷ ys) m = elim m [ inl same ↦ inl (ap f same) | inr n ↦ inr (member_map f x ys n) ]

member_left : {X : Type 0} (x : X) (xs ys : List X) → Member x xs → Member x (xs ++ ys)
member_left x [] ys m = absurd m
member_left x (y ∷ xs) ys m = elim m [ inl same ↦ inl same | inr n ↦ inr (member_left x xs ys n) ]

member_right : {X : Type 0} (x : X) (xs ys : List X) → Member x ys → Member x (xs ++ ys)
member_right x [] ys m = m
member_right x (y ∷ xs) ys m = inr (member_right x xs ys m)

member_flat_map : {X Y : Type 0} (f : X → List Y) (x : X) (y : Y) (xs : List X) → Member x xs → Member y (f x) → Member y (flat_map f xs)
member_flat_map f x y [] m n = absurd m
member_flat_map f x y (z ∷ zs) m n =
    elim m [ inl same ↦ member_left y (f z) (flat_map f zs) (subst (λ w. Member y (f w)) same n) | inr k ↦ member_right y (f z) (flat_map f zs) (member_flat_map f x y zs k n) ]

place_listed : (g : Geometry) (place : Place) → place.page < page_count g → place.slot < g.generations → Member place (places g)
place_listed g place h k =
    member_flat_map (λ page. map (λ slot. record { page = page; slot = slot }) (range_with_len 0 g.generations)) place.page place (range_with_len 0 (page_count g))
    (member_from_0 (page_count g) place.page h)
    (member_map (λ (slot : ℕ). let p : Place = record { page = place.page; slot = slot } in p) place.slot (range_with_len 0 g.generations) (member_from_0 g.generations place.slot k))

-- the next seq after all slots is that of the mount rule
pub seq_is_mounted : (g : Geometry) (cells : List (List ℕ)) (tables : Tables) → HasShape (shape_of g) cells → Scanned g cells (places g) tables → IsMountedSeq g cells tables.seq
unfolding next_seq
seq_is_mounted g cells tables shape scanned = subst (IsMountedSeq g cells) (sym scanned.seq) (record {
  some = seq_least g cells 1 (places g);
  reached = seq_reached g cells 1 (places g);
  greatest = λ place header e.
      let within = header_within g cells place header shape e in
      seq_covers g cells 1 (places g) place header (place_listed g place within.0 within.1) e;
})
