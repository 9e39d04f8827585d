-- The book of the mount rule is true to the cells, and stays so while blocks are recycled.
use Rattle.std.proofs.Common.{◌≡◌, inl, inr, ℕ, ◌+◌, ◌*◌, ◌-◌, ◌^◌, ◌<◌, ◌≤◌, false, List, length, Some, None, refl, sym, ap, ◌∙◌, subst, arith}
use Rattle.std.proofs.lemmas.Bool.{cases_eq, cases_lt, false≢true}
use Rattle.std.proofs.lemmas.List.{get_or_past}
use Rattle.block_state.specs.declared.state.State.{State}
use Rattle.block_state.specs.declared.state.State.TheVariants.{Clean, Active, Used, Recycled, Reused, Spare}
use Rattle.block_state.specs.State.{is_spare}
use Rattle.block_state.specs.Book.{BookValue, HasOneSpare, IsSpare, IsValid, state_at}
use Rattle.reuse_pool.specs.Recycling.{Recycles}
use Rattle.page_codec.specs.Geometry.{Geometry, HasShape, shape_of, units}
use Rattle.page_codec.specs.Records.{places}
use Rattle.page_codec.specs.TrueBook.{IsNextSeq, IsTrue, IsTrueBook, IsTrueState, live_map}
use Rattle.mount_scan.specs.declared.tables.Tables.{Tables}
use Rattle.mount_scan.specs.Mounted.{IsFound, IsMounted, IsMountedSeq}
use Rattle.mount_scan.specs.Scanned.{EveryBlockLive, AreMounted, ReadInto, slots_below}
use Rattle.mount_scan.specs.Noted.{Scanned}
use Rattle.mount_scan.specs.Settled.{IsLastFree, Settles}
use Rattle.mount_scan.proofs.AllSlots.{lives_are_live, map_is_live, seq_is_mounted}
use Rattle.mount_scan.proofs.MountedBook.{book_is_mounted}
use Rattle.mount_scan.proofs.TrueRun.{true_book_by_run}

-- ---- the next seq

-- The next seq of the mount rule is greater than that of every valid header, or the greatest number.
pub next_seq_true : (g : Geometry) (cells : List (List ℕ)) (seq : ℕ) → IsMountedSeq g cells seq → IsNextSeq g cells seq
next_seq_true g cells seq is = elim (cases_lt seq (2 ^ 64 - 1)) [
  | inl less ↦ inl (λ place header there. let most = is.greatest place header there in omega (arith, most, less))
  | inr full ↦ inr (elim is.reached [
    | inl one ↦ absurd (omega (arith, one, full))
    | inr from ↦ (let same = from.3 in omega (arith, same, full))
  ])
]

-- ---- the book

-- what the cells make a block is true of them, and is not Spare
found_true : (g : Geometry) (cells : List (List ℕ)) (block : ℕ) (s : State) → IsFound g cells block s → IsTrueState g cells block s × (is_spare s ≡ false)
found_true g cells block Clean is = (is, refl)
found_true g cells block (Active fill) is = absurd is
found_true g cells block (Used level) is = (record { may_rise = is.2; above = is.1.above }, refl)
found_true g cells block (Recycled level next) is = absurd is
found_true g cells block Reused is = (tt, refl)
found_true g cells block (Spare blank) is = absurd is

module _ (g : Geometry) (cells : List (List ℕ)) (book : BookValue) (is : IsMounted g cells book) where
  one_spare : HasOneSpare book
  one_spare = (is.spare, ap is_spare is.spare_state, only)
    where
      only : (block : ℕ) → IsSpare book block → block ≡ is.spare
      only block spare = elim (cases_eq block is.spare) [
        | inl same ↦ same
        | inr apart ↦ elim (cases_lt block g.blocks) [
          | inl inside ↦ absurd (false≢true (sym (found_true g cells block (state_at book block) (is.found block inside apart)).1 ∙ spare))
          | inr past ↦ absurd (false≢true (sym (ap is_spare (get_or_past book.states block Clean (subst (λ n. n ≤ block) (sym is.sizes.blocks) past))) ∙ spare))
        ]
      ]

  states : (block : ℕ) → block < g.blocks → IsTrueState g cells block (state_at book block)
  states block inside = elim (cases_eq block is.spare) [
    | inl same ↦ subst (λ b. IsTrueState g cells b (state_at book b)) (sym same) (subst (IsTrueState g cells is.spare) (sym is.spare_state) (record { free = is.free.free; blank = λ marked. marked }))
    | inr apart ↦ (found_true g cells block (state_at book block) (is.found block inside apart)).0
  ]

  -- The book of the mount rule, with the map of the live records and a next seq, is true.
  pub mounted_true : (seq : ℕ) → IsValid book → IsMountedSeq g cells seq → IsTrue g cells book (live_map g cells) seq
  mounted_true seq valid next = record {
    live_counts = is.live;
    entries = refl;
    one_spare = one_spare;
    states = states;
    kept = valid;
    next_seq = next_seq_true g cells seq next;
    sizes = is.sizes;
  }

-- ---- the tables

-- Where all pages are read and some block is free, the settled book and then a run of the recycling rule are those of a mount.
pub tables_are_mounted : (g : Geometry) (cells : List (List ℕ)) (few spare : ℕ) (old mid new : Tables) → HasShape (shape_of g) cells → 0 < units g → ReadInto g cells g.blocks 0 old
    → IsLastFree old.book (length old.book.states) (Some spare) → Settles spare old mid → IsValid mid.book → Recycles few mid.book new.book → new.map ≡ mid.map → new.seq ≡ mid.seq
    → AreMounted g few cells new
tables_are_mounted g cells few spare old mid new shape some read free settles valid run same_map same_seq = record {
  found = mid.book;
  mounted = mounted;
  recycled = run;
  seq = seq;
  true_book = subst (λ m. IsTrueBook g few cells new.book m new.seq) (sym (same_map ∙ (settles.map ∙ map_is_live g cells old scanned.names)))
      (true_book_by_run g cells (live_map g cells) new.seq few mid.book new.book some run (mounted_true g cells mid.book mounted new.seq valid seq));
}
  where
    scanned : Scanned g cells (places g) old
    scanned = subst (λ p. Scanned g cells (slots_below g p) old) (let whole : g.blocks * g.pages + 0 ≡ g.blocks * g.pages = omega arith in whole) read.scanned

    mounted : IsMounted g cells mid.book
    mounted = book_is_mounted g cells spare old mid read.fits.sizes read.reading scanned.names read.found (subst (λ n. IsLastFree old.book n (Some spare)) read.fits.sizes.blocks free) settles

    seq : IsMountedSeq g cells new.seq
    seq = subst (IsMountedSeq g cells) (sym (same_seq ∙ settles.seq)) (seq_is_mounted g cells old shape scanned)

-- Where no block is free, each has a live record.
pub none_free : (g : Geometry) (cells : List (List ℕ)) (tables : Tables) → ReadInto g cells g.blocks 0 tables → IsLastFree tables.book (length tables.book.states) None → EveryBlockLive g cells
none_free g cells tables read none block inside =
    subst (λ n. 0 < n) (lives_are_live g cells tables block read.fits.sizes.pages read.reading scanned.names) (none block (subst (λ n. block < n) (sym read.fits.sizes.blocks) inside))
  where
    scanned : Scanned g cells (places g) tables
    scanned = subst (λ p. Scanned g cells (slots_below g p) tables) (let whole : g.blocks * g.pages + 0 ≡ g.blocks * g.pages = omega arith in whole) read.scanned

-- Where each block has a live record there are no tables of a mount: so such a scan that reads all pages answers no Ok.
pub none_mounted : (g : Geometry) (few : ℕ) (cells : List (List ℕ)) (tables : Tables) → AreMounted g few cells tables → EveryBlockLive g cells → ⊥
none_mounted g few cells tables are every = omega (arith, every are.mounted.spare are.mounted.free.within, are.mounted.free.free)
