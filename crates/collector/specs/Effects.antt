-- How records that were put change the book.
use Rattle.std.specs.Prelude.{ℕ, ◌+◌, ◌-◌, ◌/◌, ◌<◌, ◌==◌, if◌then◌else◌, false, Option, Some, None, length}
use Rattle.sector_map.specs.declared.entry.Entry.{Entry}
use Rattle.sector_map.specs.Entry.{place_of}
use Rattle.block_state.specs.declared.state.State.{State}
use Rattle.block_state.specs.declared.state.State.TheVariants.{Active, Used, Spare}
use Rattle.block_state.specs.State.{is_active}
use Rattle.block_state.specs.Book.{BookValue, state_at, live_at, with_state, with_live}

-- the page that an Active block fills next
abbrev pub fill_of : State → ℕ
fill_of (Active fill) = fill
fill_of _ = 0

-- the block that an entry's record stands in
abbrev pub block_in : BookValue → Entry → ℕ
block_in book entry = (place_of entry).page / book.pages

abbrev pub former_in : BookValue → Option Entry → Option ℕ
former_in book None = None
former_in book (Some entry) = Some (block_in book entry)

-- one live record less in the block of the sector's former live record, if it had one
abbrev pub one_less : BookValue → Option ℕ → BookValue
one_less book None = book
one_less book (Some former) = with_live book former (live_at book former - 1)

-- the record's block has one live record more, and the former one's block one less
abbrev pub recorded : BookValue → ℕ → Option ℕ → BookValue
recorded book block former = one_less (with_live book block (live_at book block + 1)) former

-- an Active block after a record on its page `fill`: it closes where that was its last page
abbrev pub filled : BookValue → ℕ → BookValue
filled book block =
    if fill_of (state_at book block) + 1 == book.pages then with_state book block (Used 0)
    else with_state book block (Active (fill_of (state_at book block) + 1))

-- the record effect on the book, for a record in this block: an Active block fills by one page
abbrev pub after_record : BookValue → ℕ → Option ℕ → BookValue
after_record book block former = if is_active (state_at book block) then filled (recorded book block former) block else recorded book block former

-- the seal of a collection: the spare becomes Active with the copies, and the victim becomes the Spare, not known to be blank
abbrev pub sealed : BookValue → ℕ → ℕ → BookValue
sealed book victim spare =
    with_state (with_live (with_live (with_state book spare (Active (live_at book victim))) spare (live_at book victim)) victim 0) victim (Spare false)

-- the former record's block has a live record
abbrev pub MayDrop : BookValue → Option ℕ → Type 0
MayDrop book None = Unit {0}
MayDrop book (Some former) = (former < length book.states) × (0 < live_at book former)
