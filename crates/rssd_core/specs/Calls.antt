-- How many change calls and reads the rules make.
use Rattle.std.specs.Prelude.{ℕ, ◌+◌, ◌*◌, true, List, if◌then◌else◌, max, sum_by, Option, Some, None}
use Rattle.std.specs.List.{range_with_len}
use Rattle.block_state.specs.declared.state.State.{State}
use Rattle.block_state.specs.declared.state.State.TheVariants.{Spare}
use Rattle.block_state.specs.Book.{BookValue, state_at, live_at}
use Rattle.page_alloc.specs.declared.next_page.NextPage.{NextPage}
use Rattle.page_alloc.specs.declared.next_page.NextPage.TheVariants.{Page, Take, Wipe, Collect}
use Rattle.reuse_pool.specs.declared.unit.ReuseUnit.{ReuseUnit}
use Rattle.page_codec.specs.Geometry.{Geometry}
use Rattle.page_codec.specs.Records.{live_record}
use Rattle.page_codec.specs.Sound.{stands_in}
use Rattle.collector.specs.Moves.{get_reads}
use Rattle.rssd_core.specs.Rules.{next_page}

-- the page that comes next, once it is at hand: behind the copies where the victim is collected
abbrev pub named_page : BookValue → NextPage → ℕ
named_page v (Page page) = page
named_page v (Take block) = block * v.pages
named_page v (Wipe block) = block * v.pages
named_page v (Collect victim spare) = spare * v.pages + live_at v victim

-- an erase where the Spare is not known to be blank
abbrev pub erase_calls : State → ℕ
erase_calls (Spare true) = 0
erase_calls _ = 1

-- a collection's change calls: an erase if there is one, 2 for each copy and 1 for the seal; and none where there is no collection
abbrev pub collection_calls : BookValue → NextPage → ℕ
collection_calls v (Collect victim spare) = erase_calls (state_at v spare) + 2 * live_at v victim + 1
collection_calls v _ = 0

-- the change calls before a page is at hand: those of a collection, or 1 for a victim that is erased
abbrev pub calls_before : BookValue → NextPage → ℕ
calls_before v (Page page) = 0
calls_before v (Take block) = 0
calls_before v (Wipe block) = 1
calls_before v (Collect victim spare) = collection_calls v (Collect victim spare)

-- a record on a clean page: its program and its gate, after what gets the page
abbrev pub clean_calls : BookValue → ℕ
clean_calls v = calls_before v (next_page v) + 2

-- the reads of a collection: its victim's pages, and those of getting each live record of it that holds bytes
abbrev pub collection_reads : Geometry → List (List ℕ) → NextPage → ℕ
collection_reads g cells (Collect victim spare) =
    g.pages + sum_by (λ sector. if stands_in g victim (live_record g cells sector) then get_reads g (live_record g cells sector) else 0) (range_with_len 0 g.sectors)
collection_reads g cells _ = 0

-- the reads of a write for its offered unit
abbrev pub offer_reads : Geometry → Option ReuseUnit → ℕ
offer_reads g None = 0
offer_reads g (Some unit) = g.span

-- the records that are copied before a page is at hand, each with a number of its own
abbrev pub copies_due : BookValue → NextPage → ℕ
copies_due v (Collect victim spare) = live_at v victim
copies_due v _ = 0

-- the reads of an idle move: at most all pages of its block, and then its record
abbrev pub move_reads : Geometry → ℕ
move_reads g = g.pages + max 1 g.span
