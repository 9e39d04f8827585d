-- A die with reserve blocks over a blank worn die is blank, its mount never fails, and a line of a play fails on it only where its
-- reserve is used up.
use Rattle.std.proofs.Common.{◌≡◌, ◌⊎◌, inl, inr, ℕ, zero, suc, ◌+◌, ◌-◌, ◌*◌, ◌/◌, ◌^◌, ◌<◌, ◌≤◌, min, ◌&&◌, ◌==◌, Bool, true, false, cond, not, List, [], ◌∷◌, All, get_or, count_by, refl, sym}
use Rattle.std.proofs.Common.{ap, ◌∙◌, arith, subst, lit≤, if◌then◌else◌}
use Rattle.std.specs.List.{AllByRecursion, range_with_len}
use Rattle.std.proofs.Math.Nat.{div-lt_iff_lt-mul, mul-le-mul_right}
use Rattle.std.proofs.lemmas.Bool.{cases_Bool, false≢true}
use Rattle.std.proofs.lemmas.List.Elements.{All-from_recursion, All-weaker, recursion_from_All}
use Rattle.std.proofs.lemmas.List.Sums.{sum_by-cons}
use Rattle.cell_die.specs.declared.shape.Shape.{Shape}
use Rattle.cell_die.specs.Cells.{is_blank, blank_page, page_at}
use Rattle.cell_die.specs.Counts.{count_sum, Rose}
use Rattle.cell_die.specs.DieState.{DieState, IsShaped, page_of, page_count, page_bytes}
use Rattle.cell_die.specs.Calls.{Kept}
use Rattle.mem_die.specs.Limits.{IsWithinLimits as FitsDie}
use Rattle.mem_die.specs.MemState.{mem_state, IsNew}
use Rattle.mem_die.specs.declared.worn.WornMem.{WornMem}
use Rattle.mem_die.specs.WornState.{worn_state, worn_shaped, bad_erases_of}
use Rattle.spare_die.specs.declared.error.OpenError.{OpenError}
use Rattle.spare_die.specs.declared.error.OpenError.TheVariants.{OutOfMemory, Shape as WrongShape, DieFault, Table}
use Rattle.spare_die.specs.declared.tally.Tally.{Tally}
use Rattle.spare_die.specs.Book.{IsUsedUp, IsCounted}
use Rattle.spare_die.specs.Opening.{FitsShape, IsSoundTable, OpenCause, OnlyReads}
use Rattle.spare_die.specs.Spare.{spare_state, spare_shape, spare_place}
use Rattle.spare_die.specs.SpareLaws.{page_of-spare, place_inside}
use Rattle.spare_die.specs.Table.{HasHomes, is_gated, is_entry_of, inner_of, is_named, is_named_up_to, is_used, named_count, used_count, reserve_count}
use Rattle.spare_die.specs.Tallies.{own_of}
use Rattle.spare_die.proofs.Counting.{count_same, count_same_range}
use Rattle.spare_die.proofs.Entries.{blank_not_gated}
use Rattle.spare_die.proofs.Telling.{homes_of_sound}
use Rattle.die_image.specs.declared.head.ImageHead.{ImageHead}
use Rattle.die_image.specs.declared.scheme.SchemeName.{SchemeName}
use Rattle.die_image.specs.declared.scheme.SchemeName.TheVariants.{Plain16, Rs16, Rs512, Coset16, Coset512, Flip16, Flip512, Ham16, Ham512}
use Rattle.die_image.specs.Image.{is_within_limits, shape_of}
use Rattle.die_image.specs.Schemes.{row_of}
use Rattle.rssd_core.specs.DeviceValue.{Numbers, DeviceView}
use Rattle.rssd_core.specs.Mount.{MountFails}
use Rattle.rssd_script.specs.declared.replies.Reply.TheVariants.{Fault}
use Rattle.rssd_words.specs.Commands.{IsReserve}
use Rattle.rssd_run.specs.View.{View, Event, faults}
use Rattle.rssd_run.specs.Heads.{numbers_named}
use Rattle.rssd_run.specs.PlayRuns.{IsPlaying, IsPlay, IsBlankDie, IsPlayStart, worn_shape, IsSpareOver, left_of, IsBlankWorn, IsWornStart, IsWornStep, LeavesDie, EndsPlay}
use Rattle.rssd_script.specs.declared.lines.Line.{Line}
use Rattle.rssd_run.specs.Statuses.{Output}
use Rattle.rssd_run.specs.declared.status.Status.{Status}
use Rattle.rssd_run.proofs.Plays.{ends_more}
use Rattle.rssd_run.proofs.HeadLimits.{HeadLimits, head_limits, head_fits_die}

-- ---- sizes

-- a page has room for an entry of the table
entry_fits : (name : SchemeName) → 9 ≤ (row_of name).page_bytes
unfolding row_of
entry_fits Plain16 = lit≤ tt
entry_fits Rs16 = lit≤ tt
entry_fits Rs512 = lit≤ tt
entry_fits Coset16 = lit≤ tt
entry_fits Coset512 = lit≤ tt
entry_fits Flip16 = lit≤ tt
entry_fits Flip512 = lit≤ tt
entry_fits Ham16 = lit≤ tt
entry_fits Ham512 = lit≤ tt

module _ (head : ImageHead) (within : is_within_limits head ≡ true) where
  pub worn_fits : (reserve : ℕ) → IsReserve head reserve → FitsShape (worn_shape head reserve) head.blocks
  worn_fits reserve fits =
      let l : HeadLimits head = head_limits head within in
      record {
        two = l.some_blocks;
        room = omega arith;
        few_blocks = fits.blocks;
        few_pages = l.pages;
        gate = entry_fits head.scheme;
      }

  pub worn_fits_die : (reserve : ℕ) → IsReserve head reserve → FitsDie (worn_shape head reserve)
  worn_fits_die reserve fits =
      let whole : FitsDie (shape_of head) = head_fits_die head within in
      record {
        some_blocks = omega arith;
        some_pages = whole.some_pages;
        some_main = whole.some_main;
        some_spare = whole.some_spare;
        blocks = fits.blocks;
        pages = whole.pages;
        main_bytes = whole.main_bytes;
        spare_bytes = whole.spare_bytes;
        total = fits.bytes;
      }

-- ---- a blank die has a sound table, and names nothing

none_counted : (xs : List ℕ) → count_by (λ (x : ℕ). false) xs ≡ 0
none_counted [] = refl
none_counted (x ∷ xs) = none_counted xs

blank_bytes : (n : ℕ) → is_blank (blank_page n) ≡ true
blank_bytes zero = refl
blank_bytes (suc n) = blank_bytes n

names_none : (inner : DieState) (block count : ℕ) → ((page : ℕ) → page < count → is_gated (page_of inner page) ≡ false) → is_named_up_to inner block count ≡ false
unfolding is_named_up_to
names_none inner block zero plain = refl
names_none inner block (suc count) plain =
    let here : is_entry_of block (page_of inner count) ≡ false = ap (λ gated. gated && (inner_of (page_of inner count) == block)) (plain count (omega arith)) in
    ap (λ entry. if entry then true else is_named_up_to inner block count) here ∙ names_none inner block count (λ page below. plain page (omega (arith, below)))

module _ (inner : DieState) (shaped : IsShaped inner) (blank : IsBlankDie inner.shape inner) (logical : ℕ) (fits : FitsShape inner.shape logical) where
  table_page : (page : ℕ) → page < inner.shape.pages → page < page_count inner.shape
  table_page page below = let whole : 1 * inner.shape.pages ≤ inner.shape.blocks * inner.shape.pages = mul-le-mul_right inner.shape.pages (omega (arith, fits.room)) in omega (arith, below, whole)

  plain : (page : ℕ) → page < inner.shape.pages → is_gated (page_of inner page) ≡ false
  plain page below = ap is_gated (blank.blank page (table_page page below)) ∙ blank_not_gated (page_bytes inner.shape)

  never_gated : {T : Type 0} (page : ℕ) → page < inner.shape.pages → is_gated (page_of inner page) ≡ true → T
  never_gated page below gated = absurd (false≢true (sym (plain page below) ∙ gated))

  blank_sound : IsSoundTable inner logical
  blank_sound = record {
    entries = record {
      logical_inside = λ page below gated. never_gated page below gated;
      inner_past = λ page below gated. never_gated page below gated;
      inner_inside = λ page below gated. never_gated page below gated;
      apart = λ page later first below gated gated'. never_gated later below gated';
      order = λ blank gated first below is. plain gated below;
    };
    spares = λ block past inside free page at.
        let fewer : page / inner.shape.pages < inner.shape.blocks = omega (arith, at, inside) in
        blank.blank page ((div-lt_iff_lt-mul {k = inner.shape.pages} {x = page} {y = inner.shape.blocks} shaped.some_pages).0 fewer);
  }

  pub blank_homes : HasHomes inner logical
  blank_homes = homes_of_sound fits blank_sound.entries

  pub named_none : named_count inner logical ≡ 0
  named_none = count_same (λ n. false) (is_named inner) (range_with_len (1 + logical) (inner.shape.blocks - (1 + logical))) (λ block. names_none inner block inner.shape.pages plain)
      ∙ none_counted (range_with_len (1 + logical) (inner.shape.blocks - (1 + logical)))

  pub used_none : used_count inner ≡ 0
  used_none = count_same_range (λ n. false) (is_used inner) 0 inner.shape.pages
      (λ page from below. ap (λ row. not (is_blank row)) (blank.blank page (table_page page (omega (arith, below)))) ∙ ap not (blank_bytes (page_bytes inner.shape)))
      ∙ none_counted (range_with_len 0 inner.shape.pages)

  -- such a die is opened but for want of memory
  pub opens : (new : DieState) (why : OpenError) → new.read_faults ≡ 0 → OpenCause why inner new logical → why ≡ OutOfMemory
  opens new OutOfMemory served cause = refl
  opens new WrongShape served cause = absurd (cause fits)
  opens new DieFault served cause =
      let rose : min (inner.read_faults + 1) (2 ^ 64 - 1) ≤ new.read_faults = cause.1 in
      absurd (omega (arith, rose, blank.read_faults, served))
  opens new Table served cause = absurd (cause.1 blank_sound)

-- ---- the blank die of a play

same_blank : (shape : Shape) (inner : DieState) → IsBlankDie shape inner → IsBlankDie inner.shape inner
same_blank shape inner blank = subst (λ (s : Shape). IsBlankDie s inner) (sym blank.same_shape) blank

-- a new worn die, and the same after reads
pub new_worn : (shape : Shape) (worn : WornMem) → IsNew shape (mem_state worn.die) → IsBlankDie shape (worn_state worn)
new_worn shape worn new = record { same_shape = new.same_shape; blank = new.blank; erases = new.erases; read_faults = refl; change_faults = refl }

pub read_worn : (shape : Shape) (old new : WornMem) → IsBlankDie shape (worn_state old) → OnlyReads (worn_state old) (worn_state new) → IsBlankDie shape (worn_state new)
read_worn shape old new blank reads = record {
  same_shape = reads.shape ∙ blank.same_shape;
  blank = λ page inside. ap (λ cells. page_at cells page) reads.cells ∙ blank.blank page inside;
  erases = reads.erases ∙ blank.erases;
  read_faults = refl;
  change_faults = refl;
}

pub every_read : (old new : WornMem) → OnlyReads (worn_state old) (worn_state new) → new.every ≡ old.every
every_read old new reads = ap (λ xs. get_or xs 0 0) reads.fixed

-- the worn die of a play is opened but for want of memory
pub worn_opens : (head : ImageHead) (reserve : ℕ) → is_within_limits head ≡ true → IsReserve head reserve → (old new : WornMem) → IsBlankDie (worn_shape head reserve) (worn_state old)
    → (why : OpenError) → OpenCause why (worn_state old) (worn_state new) head.blocks → why ≡ OutOfMemory
worn_opens head reserve within fits old new blank why cause =
    let sizes : FitsShape (worn_state old).shape head.blocks = subst (λ (s : Shape). FitsShape s head.blocks) (sym blank.same_shape) (worn_fits head within reserve fits) in
    opens (worn_state old) (worn_shaped old) (same_blank (worn_shape head reserve) (worn_state old) blank) head.blocks sizes (worn_state new) why refl cause

module _ (head : ImageHead) (reserve bad : ℕ) (within : is_within_limits head ≡ true) (fits : IsReserve head reserve) (die : DieState) (worn : IsBlankWorn head reserve bad die) where
  same : IsBlankDie (worn_state worn.inner).shape (worn_state worn.inner)
  same = same_blank (worn_shape head reserve) (worn_state worn.inner) worn.blank

  sizes : FitsShape (worn_state worn.inner).shape head.blocks
  sizes = subst (λ (s : Shape). FitsShape s head.blocks) (sym worn.blank.same_shape) (worn_fits head within reserve fits)

  homes : HasHomes (worn_state worn.inner) head.blocks
  homes = blank_homes (worn_state worn.inner) (worn_shaped worn.inner) same head.blocks sizes

  pages_blank : (page : ℕ) → page < page_count (shape_of head) → page_of (spare_state (worn_state worn.inner) head.blocks (own_of worn.tally)) page ≡ blank_page (page_bytes (shape_of head))
  pages_blank page inside =
      let inner : DieState = worn_state worn.inner in
      let below : page < head.blocks * inner.shape.pages = subst (λ (s : Shape). page < head.blocks * s.pages) (sym worn.blank.same_shape) inside in
      let placed : spare_place inner page < page_count inner.shape = place_inside inner head.blocks page (worn_shaped worn.inner).some_pages homes below in
      page_of-spare inner head.blocks (own_of worn.tally) page below
      ∙ worn.blank.blank (spare_place inner page) (subst (λ (s : Shape). spare_place inner page < page_count s) worn.blank.same_shape placed)

  pub worn_blank : IsBlankDie (shape_of head) die
  worn_blank = subst (IsBlankDie (shape_of head)) (sym worn.spare.shows) (record {
    same_shape = ap (λ (s : Shape). spare_shape s head.blocks) worn.blank.same_shape;
    blank = pages_blank;
    erases = worn.starts.erases;
    read_faults = ap (count_sum 0) worn.starts.read_faults;
    change_faults = ap (count_sum 0) worn.starts.change_faults;
  })

  -- the numbers that no call changes
  pub worn_fixed : die.fixed ≡ bad ∷ (head.blocks + reserve + 1) ∷ 0 ∷ 0 ∷ []
  worn_fixed = ap (λ (d : DieState). d.fixed) worn.spare.shows ∙ (λ i. worn.every i ∷ (worn.blank.same_shape i).blocks
      ∷ (worn.starts.named ∙ named_none (worn_state worn.inner) (worn_shaped worn.inner) same head.blocks sizes) i
      ∷ (worn.starts.pages ∙ used_none (worn_state worn.inner) (worn_shaped worn.inner) same head.blocks sizes) i ∷ [])

-- ---- no mount of it fails

-- a die with reserve blocks over a worn one
pub record IsSpareDie (die : DieState) : Type 0 where
  pub inner : WornMem
  pub logical : ℕ
  pub tally : Tally
  pub over : IsSpareOver logical inner tally die

-- a count that rose is above 0
rose_some : (x y a b : ℕ) → y ≡ count_sum a b → Rose x y → 0 < a + b
rose_some x y a zero is rose = omega (arith, is, rose)
rose_some x y a (suc b) is rose = omega arith

own_some : (a b n : ℕ) → n ≡ count_sum a b → 0 < b → 0 < n
own_some a b n is some = omega (arith, is, some)

pub worn_mounts : (d : Numbers) (shape : Shape) (old new : DieState) → IsBlankDie shape old → IsSpareDie new → MountFails d old new → ⊥
worn_mounts d shape old new blank spare fails =
    let tally : Tally = spare.tally in
    let reads : new.read_faults ≡ count_sum 0 tally.read_faults = ap (λ (die : DieState). die.read_faults) spare.over.shows in
    let changes : new.change_faults ≡ count_sum 0 tally.change_faults = ap (λ (die : DieState). die.change_faults) spare.over.shows in
    let some : 0 < 0 + tally.read_faults = rose_some old.read_faults new.read_faults 0 tally.read_faults reads fails.failed.read_faults in
    let own : 0 < tally.change_faults = spare.over.facts.reads_explained (omega (arith, some)) refl in
    let more : 0 < new.change_faults = own_some 0 tally.change_faults new.change_faults changes own in
    omega (arith, more, fails.failed.change_faults, blank.change_faults)

-- ---- a line fails only where the reserve is used up

count_cons : (p : ℕ → Bool) (x : ℕ) (xs : List ℕ) → count_by p (x ∷ xs) ≡ cond (p x) 1 0 + count_by p xs
count_cons p x xs = sum_by-cons (λ n. cond (p n) 1 0) x xs

-- all numbers of the range pass, or one does not
full_or : (p : ℕ → Bool) (a n : ℕ) → (count_by p (range_with_len a n) ≡ n) ⊎ ((k : ℕ) × (a ≤ k) × (k < a + n) × (p k ≡ false))
full_or p a zero = inl refl
full_or p a (suc n) = elim (cases_Bool (p a)) [
  | inl passes ↦ elim (full_or p (a + 1) n) [
    | inl all ↦ (let here : ◌≡◌ {A = ℕ} (cond (p a) 1 0) 1 = ap (λ b. cond b 1 0) passes in inl (omega (arith, count_cons p a (range_with_len (a + 1) n), here, all)))
    | inr one ↦ inr (one.0, omega (arith, one.1), omega (arith, one.2), one.3)
  ]
  | inr fails ↦ inr (a, omega arith, omega arith, fails)
]

-- no more than all pass
at_most : (p : ℕ → Bool) (a n : ℕ) → count_by p (range_with_len a n) ≤ n
at_most p a zero = omega arith
at_most p a (suc n) = elim (cases_Bool (p a)) [
  | inl passes ↦ (let here : ◌≡◌ {A = ℕ} (cond (p a) 1 0) 1 = ap (λ b. cond b 1 0) passes in omega (arith, count_cons p a (range_with_len (a + 1) n), here, at_most p (a + 1) n))
  | inr fails ↦ (let here : ◌≡◌ {A = ℕ} (cond (p a) 1 0) 0 = ap (λ b. cond b 1 0) fails in omega (arith, count_cons p a (range_with_len (a + 1) n), here, at_most p (a + 1) n))
]

-- the reserve is named whole, or the table is full
used_up : (inner : DieState) (logical : ℕ) → IsUsedUp inner logical → logical + 1 ≤ inner.shape.blocks
    → (named_count inner logical ≡ reserve_count inner logical) ⊎ (used_count inner ≡ inner.shape.pages)
used_up inner logical used room = elim (full_or (is_named inner) (1 + logical) (inner.shape.blocks - (1 + logical))) [
  | inl all ↦ inl all
  | inr free ↦ elim (full_or (is_used inner) 0 inner.shape.pages) [
    | inl full ↦ inr full
    | inr blank ↦ absurd (false≢true (sym blank.3 ∙ used free.0 blank.0 (omega (arith, free.1)) (omega (arith, free.2, room)) (omega (arith, blank.2)) free.3))
  ]
]

-- what a die of a play of `worn` keeps
pub record IsWornNow (head : ImageHead) (reserve bad : ℕ) (die : DieState) : Type 0 where
  pub same_shape : die.shape ≡ shape_of head
  pub fixed : die.fixed ≡ bad ∷ (head.blocks + reserve + 1) ∷ 0 ∷ 0 ∷ []

pub worn_now_after : (head : ImageHead) (reserve bad : ℕ) (old new : DieState) → IsWornNow head reserve bad old → Kept old new → IsWornNow head reserve bad new
worn_now_after head reserve bad old new now kept = record { same_shape = kept.shape ∙ now.same_shape; fixed = kept.fixed ∙ now.fixed }

module _ (head : ImageHead) (reserve bad : ℕ) (fits : IsReserve head reserve) (die : DieState) (now : IsWornNow head reserve bad die) (inner : WornMem) (tally : Tally)
    (over : IsSpareOver head.blocks inner tally die) where
  all_fixed : inner.every ∷ inner.die.shape.blocks ∷ tally.named_at_opening ∷ tally.pages_at_opening ∷ [] ≡ bad ∷ (head.blocks + reserve + 1) ∷ 0 ∷ 0 ∷ []
  all_fixed = sym (ap (λ (d : DieState). d.fixed) over.shows) ∙ now.fixed

  pub every_is : inner.every ≡ bad
  every_is = ap (λ (xs : List ℕ). get_or xs 0 0) all_fixed

  blocks_are : inner.die.shape.blocks ≡ head.blocks + reserve + 1
  blocks_are = ap (λ (xs : List ℕ). get_or xs 1 0) all_fixed

  pages_are : inner.die.shape.pages ≡ head.pages
  pages_are = ap (λ (s : Shape). s.pages) (sym (ap (λ (d : DieState). d.shape) over.shows) ∙ now.same_shape)

  named_were : tally.named_at_opening ≡ 0
  named_were = ap (λ (xs : List ℕ). get_or xs 2 0) all_fixed

  pages_were : tally.pages_at_opening ≡ 0
  pages_were = ap (λ (xs : List ℕ). get_or xs 3 0) all_fixed

  pub fails_used_up : (x : ℕ) → Rose x (faults die) → (left_of head.blocks inner tally ≡ 0) × (reserve < bad_erases_of inner)
  fails_used_up x rose =
      let st : DieState = worn_state inner in
      let sum : faults die ≡ count_sum (count_sum 0 tally.read_faults) (count_sum 0 tally.change_faults) = ap faults over.shows in
      let some : 0 < count_sum 0 tally.read_faults + count_sum 0 tally.change_faults = rose_some x (faults die) (count_sum 0 tally.read_faults) (count_sum 0 tally.change_faults) sum rose in
      let own = over.facts.own_explained (omega (arith, some)) refl in
      let counted : IsCounted st head.blocks tally = over.facts.table_counted refl in
      let blocks = blocks_are in
      let pages = pages_are in
      let named = named_were in
      let were = pages_were in
      let count : tally.written ≡ reserve =
      elim (used_up st head.blocks own.0 (omega (arith, blocks))) [
        | inl all ↦ omega (arith, all, counted.named, named, blocks)
        | inr full ↦ omega (arith, full, counted.used, were, pages, fits.pages, counted.named, named, blocks, at_most (is_named st) (1 + head.blocks) (st.shape.blocks - (1 + head.blocks)))
      ] in
      (omega (arith, count, blocks, named), omega (arith, count, own.1, over.facts.bad_counted))

  pub never_bad : (x : ℕ) → bad ≡ 0 → Rose x (faults die) → ⊥
  never_bad x none rose =
      let more = (fails_used_up x rose).1 in
      let zero_bad : inner.bad_erases ≡ 0 = inner.none_counted (every_is ∙ none) in
      omega (arith, more, zero_bad)

same_blocks : (head : ImageHead) (reserve bad : ℕ) (die : DieState) → IsWornNow head reserve bad die → (spare : IsSpareDie die) → IsSpareOver head.blocks spare.inner spare.tally die
same_blocks head reserve bad die now spare =
    let is : spare.logical ≡ head.blocks = ap (λ (s : Shape). s.blocks) (sym (ap (λ (d : DieState). d.shape) spare.over.shows) ∙ now.same_shape) in
    subst (λ (n : ℕ). IsSpareOver n spare.inner spare.tally die) is spare.over

worn_step : (head : ImageHead) (reserve bad : ℕ) → IsReserve head reserve → (e : Event) → IsWornNow head reserve bad e.after.device.die → IsSpareDie e.after.device.die
    → (e.reply ≡ Fault → Rose (faults e.before.device.die) (faults e.after.device.die))
    → IsWornStep head reserve bad e
worn_step head reserve bad fits e now spare rose =
    let over = same_blocks head reserve bad e.after.device.die now spare in
    record {
      leaves = (spare.inner, spare.tally, over);
      used_up = λ fault inner tally shows. fails_used_up head reserve bad fits e.after.device.die now inner tally shows (faults e.before.device.die) (rose fault);
      never = λ none fault. never_bad head reserve bad fits e.after.device.die now spare.inner spare.tally over (faults e.before.device.die) none (rose fault);
    }

worn_steps : (head : ImageHead) (reserve bad : ℕ) → IsReserve head reserve → (d : Numbers) (before : View) (events : List Event) (after : View) → IsWornNow head reserve bad before.device.die
    → IsPlay d before events after
    → AllByRecursion (λ e. IsSpareDie e.after.device.die) events → AllByRecursion (IsWornStep head reserve bad) events
unfolding IsPlay
worn_steps head reserve bad fits d before [] after now play spares = tt
worn_steps head reserve bad fits d before (e ∷ events) after now play spares =
    let step : IsPlaying d e = play.1 in
    let here : IsWornNow head reserve bad e.before.device.die = subst (λ (v : View). IsWornNow head reserve bad v.device.die) (sym play.0) now in
    let next : IsWornNow head reserve bad e.after.device.die = worn_now_after head reserve bad e.before.device.die e.after.device.die here step.kept in
    (worn_step head reserve bad fits e next spares.0 step.step.cause, worn_steps head reserve bad fits d e.after events after next play.2 spares.1)

pub worn_each : (head : ImageHead) (reserve bad : ℕ) → is_within_limits head ≡ true → IsReserve head reserve → (die : DieState) → IsBlankWorn head reserve bad die → (view : View)
    → IsPlayStart head die view
    → (events : List Event) (after : View) → IsPlay (numbers_named head) view events after → All (λ e. IsSpareDie e.after.device.die) events → All (IsWornStep head reserve bad) events
worn_each head reserve bad within fits die worn view start events after play spares =
    let first : IsWornNow head reserve bad die = record { same_shape = (worn_blank head reserve bad within fits die worn).same_shape; fixed = worn_fixed head reserve bad within fits die worn } in
    let mounted : IsWornNow head reserve bad start.device.view.die = worn_now_after head reserve bad die start.device.view.die first start.mounts.kept in
    let now : IsWornNow head reserve bad view.device.die = subst (λ (v : DeviceView). IsWornNow head reserve bad v.die) (sym start.same) mounted in
    All-from_recursion (IsWornStep head reserve bad) events
    (worn_steps head reserve bad fits (numbers_named head) view events after now play (recursion_from_All (λ e. IsSpareDie e.after.device.die) events spares))

-- what was played on a die with reserve blocks over a blank worn one
pub worn_ends : {D : Type 0} {state : D → DieState} (head : ImageHead) (reserve bad : ℕ) → is_within_limits head ≡ true → IsReserve head reserve → (die : DieState) → IsBlankWorn head reserve bad die
    → (lines : List Line) (out : Output) (status : Status) → EndsPlay (IsPlayStart head die) (LeavesDie state) (numbers_named head) lines out status → ((spare : D) → IsSpareDie (state spare))
    → EndsPlay (IsWornStart head reserve bad) (IsWornStep head reserve bad) (numbers_named head) lines out status
worn_ends {D} {state} head reserve bad within fits die worn lines out status ends spares =
    ends_more (IsPlayStart head die) (IsWornStart head reserve bad) (LeavesDie state) (IsWornStep head reserve bad) (numbers_named head) lines out status (λ view start. (die, worn, start))
    (λ view start events after play each. worn_each head reserve bad within fits die worn view start events after play
    (All-weaker (LeavesDie state) (λ (e : Event). IsSpareDie e.after.device.die) (λ e leaves. subst IsSpareDie leaves.1 (spares leaves.0)) events each)) ends
