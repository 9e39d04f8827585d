-- A sector on the next page of the Active block, by the laws of the record effect.
use Rattle.std.proofs.Common.{◌≡◌, inl, inr, ℕ, zero, suc, [], ◌∷◌, None, replicate, slice_index, slice_index_or, ◌+◌, ◌*◌, ◌/◌, ◌^◌, ◌<◌, ◌≤◌, true, List, length, drop, slice_set, Option, Some}
use Rattle.std.proofs.Common.{refl, sym, ap, ◌∙◌, arith, subst, length-set}
use Rattle.zero_count.specs.declared.Header.{Header}
use Rattle.cell_die.specs.declared.shape.Shape.{Shape}
use Rattle.std.proofs.lemmas.Bool.{cases_lt}
use Rattle.std.proofs.lemmas.List.{get_or_past}
use Rattle.cell_die.specs.Cells.{page_at, is_blank}
use Rattle.cell_die.specs.DieState.{DieState, IsShaped, page_bytes, page_count as page_count_of}
use Rattle.mem_die.specs.MemState.{IsNew}
use Rattle.cell_die.specs.Calls.{Kept}
use Rattle.striped.specs.Meaning.{Meaning}
use Rattle.spare_gate.specs.Slots.{is_gate_charged}
use Rattle.sector_map.specs.declared.entry.Entry.{Entry}
use Rattle.sector_map.specs.declared.entry.Entry.TheVariants.{Held}
use Rattle.sector_map.specs.Entry.{entry_at}
use Rattle.block_state.specs.declared.state.State.{State}
use Rattle.block_state.specs.declared.state.State.TheVariants.{Clean, Active, Spare}
use Rattle.block_state.specs.State.{is_spare}
use Rattle.block_state.specs.Book.{BookValue, IsValid, state_at}
use Rattle.block_state.proofs.Spare.{one_spare_of_three}
use Rattle.page_codec.proofs.PutFirst.{blank_zeros}
use Rattle.collector.proofs.Starts.{MayBegin, blank_true}
use Rattle.page_codec.specs.Geometry.{Geometry}
use Rattle.page_codec.specs.Puts.{Puts, first_slot, is_gated}
use Rattle.page_codec.specs.Sizes.{Sizes, Serves, ServesScheme}
use Rattle.page_codec.specs.TrueBook.{IsTrue, IsTrueState, IsTrueActive}
use Rattle.collector.specs.Store.{geometry_of, store}
use Rattle.collector.specs.Effects.{after_record, block_in, former_in}
use Rattle.collector.proofs.Books.{active_within}
use Rattle.collector.proofs.Fresh.{next_put}
use Rattle.collector.proofs.Moving.{geometry_shape}
use Rattle.collector.proofs.NextPage.{PutsNext, next_gate, next_page_within}
use Rattle.collector.proofs.Recorded.{MayRecord, next_may_record, next_recorded}

-- the header of a first write
abbrev pub written : ℕ → ℕ → Header
written sector seq = record { sector = sector; seq = seq; kind = 1 }

-- A sector may be written on a page.
pub record MayWrite (sizes : Sizes) (meaning : Meaning) (die : DieState) (book : BookValue) (table : List (Option Entry)) (seq block fill sector page : ℕ) : Type 0 where
  pub serves : Serves sizes die.shape
  pub scheme : ServesScheme sizes meaning
  pub shaped : IsShaped die
  pub tables : IsTrue (geometry_of die.shape meaning (length table)) die.cells book table seq
  pub fresh : seq < 2 ^ 62
  pub active : state_at book block ≡ Active fill
  pub sector_in : sector < length table
  pub small : sector < 2 ^ 32
  pub page_is : page ≡ block * book.pages + fill

pub may_write : {sizes : Sizes} {meaning : Meaning} {die : DieState} {book : BookValue} {table : List (Option Entry)} {seq : ℕ} (block fill sector pages : ℕ) → Serves sizes die.shape
    → ServesScheme sizes meaning → IsShaped die → IsTrue (geometry_of die.shape meaning (length table)) die.cells book table seq → seq < 2 ^ 62 → state_at book block ≡ Active fill
    → sector < length table → sector < 2 ^ 32 → pages ≡ book.pages → MayWrite sizes meaning die book table seq block fill sector (block * pages + fill)
may_write block fill sector pages serves scheme shaped tables fresh active sector_in small pages_are = record {
  serves = serves;
  scheme = scheme;
  shaped = shaped;
  tables = tables;
  fresh = fresh;
  active = active;
  sector_in = sector_in;
  small = small;
  page_is = ap (λ (n : ℕ). block * n + fill) pages_are;
}

module _ {sizes : Sizes} {meaning : Meaning} {die : DieState} {book : BookValue} {table : List (Option Entry)} {seq block fill sector page : ℕ}
    (m : MayWrite sizes meaning die book table seq block fill sector page) where
  at_page : page ≡ block * die.shape.pages + fill
  at_page = m.page_is ∙ ap (λ (n : ℕ). block * n + fill) m.tables.sizes.pages

  in_die : block < die.shape.blocks
  in_die = omega (arith, active_within book block fill m.active, m.tables.sizes.blocks)

  is_active_block : IsTrueActive (geometry_of die.shape meaning (length table)) die.cells block fill
  is_active_block = subst (IsTrueState (geometry_of die.shape meaning (length table)) die.cells block) m.active (m.tables.states block in_die)

  pub page_within : page < die.shape.blocks * die.shape.pages
  page_within = subst (λ (q : ℕ). q < die.shape.blocks * die.shape.pages) (sym at_page) (next_page_within (geometry_of die.shape meaning (length table)) block fill in_die is_active_block.room)

  module _ {Content : (ℕ → List ℕ) → Type 0} (new : DieState) (p : Puts Content 1 (first_slot page) (written sector seq) die new) (kept : Kept die new) (shaped : IsShaped new) where
    puts_next : PutsNext (geometry_of die.shape meaning (length table)) block fill (written sector seq) die.cells new.cells
    puts_next = next_put (geometry_of die.shape meaning (length table)) block fill (written sector seq) die new book table seq
        (subst (λ (q : ℕ). Puts Content 1 (first_slot q) (written sector seq) die new) at_page p)
        (geometry_shape sizes die.shape meaning (length table) m.serves m.scheme) kept.shape m.shaped shaped m.tables m.active m.fresh refl
        (record { sector = m.small; seq = omega (arith, m.fresh); least_kind = omega arith; greatest_kind = omega arith }) m.sector_in refl

    pub may_record : MayRecord book table sector (Held (record { page = page; slot = 0 }))
    may_record = next_may_record (geometry_of die.shape meaning (length table)) block fill (written sector seq) die.cells new.cells puts_next book table seq m.tables m.active refl
        (Held (record { page = page; slot = 0 }))
        (λ i. record { page = at_page i; slot = 0 })

    pub written_tables : (gated : is_gated new (first_slot page) ≡ true) (meaning' : Meaning) (book' : BookValue) (table' : List (Option Entry)) → meaning' ≡ meaning
        → table' ≡ slice_set table sector (Some (Held (record { page = page; slot = 0 })))
        → book' ≡ after_record book (block_in book (Held (record { page = page; slot = 0 }))) (former_in book (entry_at table sector))
        → IsTrue (geometry_of new.shape meaning' (length table')) new.cells book' table' (seq + 1)
    written_tables gated meaning' book' table' same map_is book_is =
        subst (λ (g : Geometry). IsTrue g new.cells book' table' (seq + 1)) (sym (λ i. geometry_of (kept.shape i) (same i) (long i)))
        (next_recorded (geometry_of die.shape meaning (length table)) meaning.decoding block fill (written sector seq) (store die table book seq) (store new table' book' (seq + 1))
        (Held (record { page = page; slot = 0 }))
        puts_next (gate_is ∙ gated) m.tables m.active refl (λ i. record { page = at_page i; slot = 0 }) (λ i. Some (Held (record { page = sym at_page i; slot = 0 }))) map_is book_is refl).tables
      where
        long : length table' ≡ length table
        long = ap (length {A = Option Entry}) map_is ∙ length-set table sector _

        gate_is : next_gate (geometry_of die.shape meaning (length table)) block fill new.cells ≡ is_gated new (first_slot page)
        gate_is = λ i. is_gate_charged (drop ((sym (ap (λ (s : Shape). s.main_bytes) kept.shape)) i) (page_at new.cells (sym at_page i))) 0

-- ---- the beginning

-- no cell of a new die is charged, and past its last page there is none
pub new_blank : (shape : Shape) (die : DieState) → IsNew shape die → IsShaped die → (page : ℕ) → is_blank (page_at die.cells page) ≡ true
new_blank shape die new shaped page = elim (cases_lt page (shape.blocks * shape.pages)) [
  | inl within ↦ ap is_blank (new.blank page within) ∙ blank_zeros (page_bytes shape)
  | inr past ↦ ap is_blank (get_or_past die.cells page [] (subst (λ (n : ℕ). n ≤ page) (sym (shaped.pages ∙ ap page_count_of new.same_shape)) past))
]

no_live : (b : ℕ) → slice_index (0 ∷ 0 ∷ 0 ∷ []) b ≡ 0
no_live zero = refl
no_live (suc zero) = refl
no_live (suc (suc zero)) = refl
no_live (suc (suc (suc n))) = refl

-- block 0 is Active, and block 2 the Spare
pub begun : (g : Geometry) (cells : List (List ℕ)) (book : BookValue) → IsValid book → book.states ≡ (Active 0 ∷ Clean ∷ Spare true ∷ []) → book.live ≡ (0 ∷ 0 ∷ 0 ∷ []) → book.pages ≡ 2
    → book.units ≡ 2 → book.generations ≡ 2
    → g.blocks ≡ 3 → g.pages ≡ 2 → g.span ≡ 1 → g.generations ≡ 2 → ((page : ℕ) → is_blank (page_at cells page) ≡ true) → IsTrue g cells book (replicate g.sectors None) 1
begun g cells book valid states live pages units' generations blocks g_pages g_span g_generations blank =
    blank_true g cells blank book valid
    (record { blocks = ap (length {A = State}) states ∙ sym blocks; pages = pages ∙ sym g_pages; units = units' ∙ sym (λ i. g_pages i / g_span i); generations = generations ∙ sym g_generations })
    (one_spare_of_three book (ap (length {A = State}) states) (ap (λ (s : List State). is_spare (slice_index_or s 0 Clean)) states)
    (ap (λ (s : List State). is_spare (slice_index_or s 1 Clean)) states) (ap (λ (s : List State). is_spare (slice_index_or s 2 Clean)) states))
    (omega (arith, g_pages))
    (λ b. ap (λ (xs : List ℕ). slice_index xs b) live ∙ no_live b)
    (λ b within. subst (λ (s : List State). MayBegin g cells blank (slice_index_or s b Clean)) (sym states) (may b (omega (arith, blocks))))
  where
    may : (b : ℕ) → b < 3 → MayBegin g cells blank (slice_index_or (Active 0 ∷ Clean ∷ Spare true ∷ []) b Clean)
    may zero h = refl
    may (suc zero) h = tt
    may (suc (suc zero)) h = tt
    may (suc (suc (suc n))) h = absurd (omega arith)

-- a map without entries, beside such a book
pub begun_at : (g : Geometry) (cells : List (List ℕ)) (book : BookValue) (table : List (Option Entry)) → g.blocks ≡ 3 → g.pages ≡ 2 → g.span ≡ 1 → g.generations ≡ 2 → g.sectors ≡ length table
    → table ≡ replicate 2 None
    → ((page : ℕ) → is_blank (page_at cells page) ≡ true)
    → ((h : Geometry) (rows : List (List ℕ)) → h.blocks ≡ 3 → h.pages ≡ 2 → h.span ≡ 1 → h.generations ≡ 2 → ((page : ℕ) → is_blank (page_at rows page) ≡ true)
    → IsTrue h rows book (replicate h.sectors None) 1)
    → IsTrue g cells book table 1
begun_at g cells book table blocks pages span generations sectors map blank new =
    let long : g.sectors ≡ 2 = sectors ∙ ap (length {A = Option Entry}) map in
    subst (λ (t : List (Option Entry)). IsTrue g cells book t 1) (ap (λ (n : ℕ). replicate n None) long ∙ sym map) (new g cells blocks pages span generations blank)
