-- A page more is read into the tables, and then a block more.
use Rattle.std.proofs.Common.{◌≡◌, ◌⊎◌, inl, inr, ℕ, suc, ◌+◌, ◌*◌, ◌/◌, ◌%◌, ◌<◌, ◌≤◌, Bool, List, [], ◌∷◌, ◌++◌, length, ◌&&◌, ◌==◌, nat_lt, if◌then◌else◌, sym, ap, ◌∙◌, subst, arith}
use Rattle.std.proofs.Common.{get_or-set_same, get_or-set_other}
use Rattle.std.specs.Prelude.{slice_index, slice_index_or, slice_set}
use Rattle.std.specs.List.{count_by, flat_map, range_with_len}
use Rattle.std.proofs.lemmas.Bool.{cases_eq, cases_lt, eq-eqb, ne_eqb, cond-true, cond-false}
use Rattle.std.proofs.lemmas.List.{append-nil, get_or_past, length-set, length-replicate}
use Rattle.std.proofs.lemmas.List.Elements.{All-get_or}
use Rattle.std.proofs.lemmas.Grind.{flat_map-append}
use Rattle.std.proofs.lemmas.Nat.{div-mul-add, mod-mul-add, mul-add-lt}
use Rattle.cell_die.specs.declared.shape.Shape.{Shape}
use Rattle.cell_die.specs.Cells.{page_at}
use Rattle.cell_die.specs.DieState.{DieState, IsShaped, page_of}
use Rattle.block_state.specs.declared.state.State.{State}
use Rattle.block_state.specs.declared.state.State.TheVariants.{Clean, Active, Used, Recycled, Reused, Spare}
use Rattle.sector_map.specs.Entry.{place_of, entry_at}
use Rattle.block_state.specs.Book.{IsValid, state_at, live_at}
use Rattle.page_codec.specs.declared.place.Place.{Place}
use Rattle.page_codec.specs.declared.seen.Seen.{Seen}
use Rattle.page_codec.specs.Seen.{seen_page}
use Rattle.page_codec.specs.TrueBook.{HasSizes}
use Rattle.page_codec.specs.Sizes.{Sizes, Serves}
use Rattle.page_codec.specs.Geometry.{Geometry, HasShape, shape_of, page_count, units}
use Rattle.page_codec.specs.Records.{is_sealed}
use Rattle.mount_scan.specs.declared.sight.Sight.{Sight}
use Rattle.mount_scan.specs.declared.tables.Tables.{Tables}
use Rattle.mount_scan.specs.Mounted.{IsFound}
use Rattle.mount_scan.specs.New.{IsNew}
use Rattle.mount_scan.specs.Noted.{is_entry_in, IsReading, MoreAt, SameBlocks, Scanned, ScansPage, ShowsPage, slots_of}
use Rattle.mount_scan.specs.Settled.{MayBeFound, AllFound}
use Rattle.mount_scan.specs.Scanned.{ReadInto, ReadOn, Shows, ShowsOn, geometry_of, slots_below}
use Rattle.mount_scan.specs.Sight.{sight_with}
use Rattle.mount_scan.proofs.Settling.{range_last}
use Rattle.mount_scan.proofs.Sights.{shows_more}
use Rattle.mount_scan.proofs.Fresh.{all_default, new_reading, new_scanned}

-- the same numbers of a device, the same cells
pub as_before : (P : Geometry → List (List ℕ) → Type 0) (old new : DieState) (sizes buffers : Sizes) (sectors rows : ℕ)
    → new.shape ≡ old.shape → new.cells ≡ old.cells → buffers ≡ sizes → rows ≡ sectors → P (geometry_of old.shape sizes sectors) old.cells → P (geometry_of new.shape buffers rows) new.cells
as_before P old new sizes buffers sectors rows shape cells same_sizes same_sectors held =
    subst (λ (s : Shape). P (geometry_of s buffers rows) new.cells) (sym shape)
    (subst (λ (w : Sizes). P (geometry_of old.shape w rows) new.cells) (sym same_sizes)
    (subst (λ (n : ℕ). P (geometry_of old.shape sizes n) new.cells) (sym same_sectors)
    (subst (P (geometry_of old.shape sizes sectors)) (sym cells) held)))

slots_more : (g : Geometry) (page : ℕ) → slots_below g (page + 1) ≡ slots_below g page ++ slots_of g page
slots_more g page =
    let on : page + 1 ≡ suc page = omega arith in
    ap (slots_below g) on
    ∙ (ap (flat_map (slots_of g)) (range_last 0 page page (omega arith))
    ∙ (flat_map-append (slots_of g) (range_with_len 0 page) (page ∷ []) ∙ ap (λ l. slots_below g page ++ l) (append-nil (slots_of g page))))

-- a page was noted as a read showed it
pub record NotedPage (page : ℕ) (seen : Seen) (unit sealed : Bool) (old new : Tables) : Type 0 where
  pub reading : IsReading new
  pub room : MoreAt (page / old.book.pages) old.book.generations old new
  pub same_blocks : SameBlocks old.book new.book
  pub scans : ScansPage page seen unit sealed old new
  pub same_found : new.found ≡ old.found
  pub same_span : new.span ≡ old.span

module _ (g : Geometry) (cells : List (List ℕ)) (block number page : ℕ) (in_blocks : block < g.blocks) (in_block : number < g.pages) (page_is : page ≡ block * g.pages + number) where
  block_is : page / g.pages ≡ block
  block_is = ap (λ p. p / g.pages) page_is ∙ div-mul-add block g.pages number in_block

  number_is : page % g.pages ≡ number
  number_is = ap (λ p. p % g.pages) page_is ∙ mod-mul-add block g.pages number in_block

  in_die : page < page_count g
  in_die = let low = mul-add-lt block g.pages number g.blocks in_blocks in_block in omega (arith, low, page_is)

  pub page_shown : (seen : Seen) (unit sealed : Bool) → seen ≡ seen_page g.main_bytes g.generations (page_at cells page) → unit ≡ (number % g.span == 0 && nat_lt (number / g.span) (units g))
      → sealed ≡ is_sealed g cells block
      → ShowsPage g cells page seen unit sealed
  page_shown seen unit sealed seen_is unit_is sealed_is = record {
    within = in_die;
    seen_is = seen_is;
    unit_is = unit_is ∙ ap (λ n. n % g.span == 0 && nat_lt (n / g.span) (units g)) (sym number_is);
    sealed_is = sealed_is ∙ ap (is_sealed g cells) (sym block_is);
  }

  -- a page that was read and noted
  pub page_read : (old new : Tables) (seen : Seen) (unit sealed : Bool) → ReadInto g cells block number old → ShowsPage g cells page seen unit sealed → NotedPage page seen unit sealed old new
      → ReadInto g cells block (number + 1) new
  page_read old new seen unit sealed read shows noted = record {
    fits = record {
      sizes = record {
        blocks = ap length noted.same_blocks.states ∙ read.fits.sizes.blocks;
        pages = noted.same_blocks.pages ∙ read.fits.sizes.pages;
        units = noted.same_blocks.units ∙ read.fits.sizes.units;
        generations = noted.same_blocks.generations ∙ read.fits.sizes.generations;
      };
      span = noted.same_span ∙ read.fits.span;
      some_pages = read.fits.some_pages;
    };
    reading = noted.reading;
    scanned = subst (λ l. Scanned g cells l new) slots (noted.scans g cells (slots_below g (block * g.pages + number)) shows read.fits.sizes.generations read.scanned);
    few_live =
        let more = noted.room block in
        let here : (if page / old.book.pages == block then old.book.generations else 0) ≡ g.generations
        = cond-true (page / old.book.pages == block) old.book.generations 0 (eq-eqb (page / old.book.pages) block at) ∙ read.fits.sizes.generations in
        omega (arith, more, here, read.few_live);
    none_later = λ later above.
        let more = noted.room later in
        let none : (if page / old.book.pages == later then old.book.generations else 0) ≡ 0
        = cond-false (page / old.book.pages == later) old.book.generations 0 (ne_eqb (page / old.book.pages) later (λ e. omega (arith, at, e, above))) in
        omega (arith, more, none, read.none_later later above);
    found = λ earlier below. subst (λ f. IsFound g cells earlier (slice_index_or f.items earlier Clean)) (sym noted.same_found) (read.found earlier below);
  }
    where
      at : page / old.book.pages ≡ block
      at = ap (λ p. page / p) read.fits.sizes.pages ∙ block_is

      slots : slots_below g (block * g.pages + number) ++ slots_of g page ≡ slots_below g (block * g.pages + (number + 1))
      slots =
          ap (λ p. slots_below g (block * g.pages + number) ++ slots_of g p) page_is
          ∙ (sym (slots_more g (block * g.pages + number)) ∙ ap (slots_below g) (let same : block * g.pages + number + 1 ≡ block * g.pages + (number + 1) = omega arith in same))

-- ---- a block more

-- what the cells make a block is set, and nothing else changes
pub record SetsFound (block : ℕ) (state : State) (old new : Tables) : Type 0 where
  pub found : new.found.items ≡ slice_set old.found.items block state
  pub map : new.map ≡ old.map
  pub book : new.book ≡ old.book
  pub seq : new.seq ≡ old.seq
  pub seqs : new.seqs ≡ old.seqs
  pub span : new.span ≡ old.span

reading_set : (block : ℕ) (state : State) (old new : Tables) → SetsFound block state old new → IsReading old → IsReading new
reading_set block state old new s reading = record {
  seqs = ap (λ f. length f.items) s.seqs ∙ (reading.seqs ∙ sym (ap length s.map));
  found = ap length s.found ∙ (length-set old.found.items block state ∙ (reading.found ∙ sym (ap (λ b. length b.states) s.book)));
  lives = subst (λ b. length b.live ≡ length b.states) (sym s.book) reading.lives;
  some_pages = subst (λ b. 0 < b.pages) (sym s.book) reading.some_pages;
  live = λ b. subst (λ k. live_at k b ≡ count_by (is_entry_in k.pages b) new.map) (sym s.book) (reading.live b ∙ ap (count_by (is_entry_in old.book.pages b)) (sym s.map));
  within = λ sector e is. subst (λ b. (place_of e).page / b.pages < length b.states) (sym s.book) (reading.within sector e (ap (λ m. entry_at m sector) (sym s.map) ∙ is));
  clean = λ b. subst (λ k. state_at k b ≡ Clean) (sym s.book) (reading.clean b);
  order = ap (λ b. b.order) s.book ∙ reading.order;
}

scanned_set : (g : Geometry) (cells : List (List ℕ)) (slots : List Place) (block : ℕ) (state : State) (old new : Tables) → SetsFound block state old new → Scanned g cells slots old
    → Scanned g cells slots new
scanned_set g cells slots block state old new s scanned = record {
  names = record {
    sectors = ap length s.map ∙ scanned.names.sectors;
    entries = λ sector inside. ap (λ m. entry_at m sector) s.map ∙ scanned.names.entries sector inside;
    seqs = λ sector placed inside is. ap (λ l. slice_index l.items sector) s.seqs ∙ scanned.names.seqs sector placed inside is;
  };
  seq = s.seq ∙ scanned.seq;
}

pub block_read : (g : Geometry) (cells : List (List ℕ)) (block : ℕ) (state : State) (old new : Tables) → block < g.blocks → ReadInto g cells block g.pages old → IsFound g cells block state
    → SetsFound block state old new → ReadInto g cells (block + 1) 0 new
block_read g cells block state old new inside read is s = record {
  fits = record { sizes = subst (HasSizes g) (sym s.book) read.fits.sizes; span = s.span ∙ read.fits.span; some_pages = read.fits.some_pages };
  reading = reading_set block state old new s read.reading;
  scanned =
      scanned_set g cells (slots_below g ((block + 1) * g.pages + 0)) block state old new s
      (subst (λ p. Scanned g cells (slots_below g p) old) (let same : block * g.pages + g.pages ≡ (block + 1) * g.pages + 0 = omega arith in same) read.scanned);
  few_live = let none = no_live (block + 1) (omega arith) in omega (arith, none);
  none_later = λ later above. no_live later (omega arith);
  found = λ earlier below. subst (λ f. IsFound g cells earlier (slice_index_or f earlier Clean)) (sym s.found) (elim (cases_eq earlier block) [
    | inl same ↦ subst (λ b. IsFound g cells b (slice_index_or (slice_set old.found.items block state) b Clean)) (sym same)
        (subst (IsFound g cells block) (sym (get_or-set_same old.found.items block state Clean in_found)) is)
    | inr other ↦ subst (IsFound g cells earlier) (sym (get_or-set_other old.found.items block earlier state Clean other)) (read.found earlier (omega (arith, below, other)))
  ]);
}
  where
    in_found : block < length old.found.items
    in_found = subst (λ n. block < n) (sym (read.reading.found ∙ read.fits.sizes.blocks)) inside

    no_live : (later : ℕ) → block < later → live_at new.book later ≡ 0
    no_live later above = ap (λ b. live_at b later) s.book ∙ read.none_later later above

-- ---- no block, and all blocks

-- new tables on a die of this shape, for buffers of these sizes
pub none_read : (shape : Shape) (sizes : Sizes) (cells : List (List ℕ)) (tables : Tables) → 0 < shape.pages → IsNew shape (length tables.map) sizes.span sizes.generations tables
    → ReadInto (geometry_of shape sizes (length tables.map)) cells 0 0 tables
none_read shape sizes cells tables pages new = record {
  fits = record {
    sizes = record {
      blocks = ap (λ b. length b.states) new.book ∙ length-replicate shape.blocks Clean;
      pages = ap (λ b. b.pages) new.book;
      units = ap (λ b. b.units) new.book;
      generations = ap (λ b. b.generations) new.book;
    };
    span = new.unit_pages;
    some_pages = new.some_pages;
  };
  reading = new_reading shape (length tables.map) sizes.span sizes.generations tables pages new;
  scanned =
      subst (λ p. Scanned (geometry_of shape sizes (length tables.map)) cells (slots_below (geometry_of shape sizes (length tables.map)) p) tables)
      (let zero : 0 ≡ 0 * shape.pages + 0 = omega arith in zero)
      (new_scanned (geometry_of shape sizes (length tables.map)) cells tables new.map new.seq);
  few_live = omega (arith, no_live 0);
  none_later = λ later above. no_live later;
  found = λ earlier below. absurd (omega arith);
}
  where
    no_live : (block : ℕ) → live_at tables.book block ≡ 0
    no_live block = ap (λ b. live_at b block) new.book ∙ all_default shape.blocks block 0

may_be_found : (g : Geometry) (cells : List (List ℕ)) (block : ℕ) (state : State) → IsFound g cells block state → MayBeFound g.generations state
may_be_found g cells block Clean is = tt
may_be_found g cells block (Active fill) is = absurd is
may_be_found g cells block (Used level) is = is.2
may_be_found g cells block (Recycled level next) is = absurd is
may_be_found g cells block Reused is = tt
may_be_found g cells block (Spare blank) is = absurd is

pub all_found : (g : Geometry) (cells : List (List ℕ)) (tables : Tables) → ReadInto g cells g.blocks 0 tables → AllFound tables.book.generations tables.found.items
all_found g cells tables read block = subst (λ n. MayBeFound n (slice_index_or tables.found.items block Clean)) (sym read.fits.sizes.generations) (elim (cases_lt block g.blocks) [
  | inl inside ↦ may_be_found g cells block _ (read.found block inside)
  | inr past ↦ subst (MayBeFound g.generations) (sym (get_or_past tables.found.items block Clean (subst (λ n. n ≤ block) (sym (read.reading.found ∙ read.fits.sizes.blocks)) past))) tt
])

-- ---- a read of a page

-- the cells of a die have its shape, by the sizes that serve it
pub has_shape : (die : DieState) (sizes : Sizes) (sectors : ℕ) → Serves sizes die.shape → IsShaped die → HasShape (shape_of (geometry_of die.shape sizes sectors)) die.cells
has_shape die sizes sectors serves shaped = record {
  pages = shaped.pages;
  bytes = λ page inside. shaped.lengths page inside ∙ ap (λ n. die.shape.main_bytes + n) serves.spare_bytes;
  small = λ page k. elim (cases_lt k (length (page_of die page))) [
    | inl inside ↦ All-get_or (λ (byte : ℕ). byte < 256) (page_of die page) k 0 inside (shaped.bytes page)
    | inr past ↦ (let zero = get_or_past (page_of die page) k 0 past in omega (arith, zero))
  ];
}

module _ (die : DieState) (sizes : Sizes) (old : Tables) (block number : ℕ) (sight : Sight) (serves : Serves sizes die.shape) (in_blocks : block < die.shape.blocks)
    (in_block : number < die.shape.pages)
    (read : ReadOn die sizes block number old) (shows : ShowsOn die sizes old block number sight) (valid : IsValid old.book) where
  abbrev g : Geometry
  g = geometry_of die.shape sizes (length old.map)

  slots : (g.generations ≡ 2) ⊎ (g.generations ≡ 3)
  slots = elim (cases_eq g.generations 2) [
    | inl two ↦ inl two
    | inr other ↦ inr (omega (arith, other, read.fits.sizes.generations, valid.two_generations, valid.three_generations))
  ]

  -- a page that was scanned shows this of the block
  pub page_shows : (pages : ℕ) (seen : Seen) (unit : Bool) → pages ≡ old.book.pages → seen ≡ seen_page sizes.page_bytes sizes.generations (page_of die (block * pages + number))
      → unit ≡ (number % old.span == 0 && nat_lt (number / old.span) old.book.units) → Shows g die.cells block (number + 1) (sight_with sight seen number unit)
  page_shows pages seen unit pages_is seen_is unit_is =
      shows_more g die.cells block number sight seen unit slots read.fits.some_pages
      (seen_is ∙ (λ i. seen_page (sym serves.main_bytes i) sizes.generations (page_of die (block * (pages_is ∙ read.fits.sizes.pages) i + number))))
      (unit_is ∙ (λ i. number % read.fits.span i == 0 && nat_lt (number / read.fits.span i) (read.fits.sizes.units i))) shows

  -- and is noted
  pub page_notes : (new : Tables) (pages : ℕ) (seen : Seen) (unit : Bool) (shown : Sight) → pages ≡ old.book.pages
      → seen ≡ seen_page sizes.page_bytes sizes.generations (page_of die (block * pages + number))
      → unit ≡ (number % old.span == 0 && nat_lt (number / old.span) old.book.units) → shown ≡ sight_with sight seen number unit → NotedPage (block * pages + number) seen unit shown.sealed old new
      → ReadInto g die.cells block (number + 1) new
  page_notes new pages seen unit shown pages_is seen_is unit_is shown_is noted =
      let at : block * pages + number ≡ block * die.shape.pages + number = ap (λ p. block * p + number) (pages_is ∙ read.fits.sizes.pages) in
      let sealed = ap (λ (s : Sight). s.sealed) shown_is ∙ (page_shows pages seen unit pages_is seen_is unit_is).sealed (omega arith) in
      page_read g die.cells block number (block * pages + number) in_blocks in_block at old new seen unit shown.sealed read
      (page_shown g die.cells block number (block * pages + number) in_blocks in_block at seen unit shown.sealed
      (seen_is ∙ ap (λ n. seen_page n sizes.generations (page_of die (block * pages + number))) (sym serves.main_bytes))
      (unit_is ∙ (λ i. number % read.fits.span i == 0 && nat_lt (number / read.fits.span i) (read.fits.sizes.units i))) sealed) noted
