-- How the book, the next seq and the tally of moved records move in one call.
use Rattle.std.specs.Prelude.{◌≡◌, ◌⊎◌, ℕ, ◌+◌, ◌^◌, ◌<◌, ◌≤◌, List, if◌then◌else◌, nat_lt, Some}
use Rattle.std.specs.List.{sum_by}
use Rattle.cell_die.specs.Counts.{count_sum, Rose}
use Rattle.zero_count.specs.declared.Header.{Header}
use Rattle.block_state.specs.Book.{BookValue, live_at}
use Rattle.page_alloc.specs.declared.next_page.NextPage.TheVariants.{Collect}
use Rattle.page_codec.specs.declared.place.Place.{Place}
use Rattle.page_codec.specs.Records.{header_in}
use Rattle.page_codec.specs.Sound.{IsSound}
use Rattle.rssd_core.specs.Rules.{next_page}
use Rattle.rssd_core.specs.BookChanges.{Change, Seals, Leads}
use Rattle.rssd_core.specs.Calls.{collection_calls}
use Rattle.rssd_core.specs.DeviceValue.{Numbers, DeviceView}
use Rattle.rssd_core.specs.Failures.{CutCame, TellsPower, cut_of}

-- the part of changes rose: exactly, or as far as a count that stands at its greatest number tells
abbrev pub ChangesRose : DeviceView → DeviceView → Type 0
ChangesRose old new = Rose old.die.change_faults new.die.change_faults

abbrev pub ChangesStayed : DeviceView → DeviceView → Type 0
ChangesStayed old new = old.die.change_faults < new.die.change_faults → ⊥

-- the records moved by the seals among some changes: the victim's live count for each
abbrev pub sealed_records : BookValue → List Change → ℕ
sealed_records v changes = sum_by (sealed_by v) changes
  where
    sealed_by : BookValue → Change → ℕ
    sealed_by v (Seals victim spare) = live_at v victim
    sealed_by v _ = 0

-- The book moves by uses of rules, of which a call may make these, and the tally of moved records rises by what they moved.
pub record MovesBook (d : Numbers) (May : List Change → Type 0) (Rises : List Change → ℕ → Type 0) (AtCut : ℕ → Type 0) (old new : DeviceView) : Type 0 where
  pub changes : List Change
  pub leads : Leads d.reuse_max old.book changes new.book
  pub may : May changes
  pub rise : ℕ
  pub rises : Rises changes rise
  pub tally : new.moved ≡ count_sum old.moved rise
  -- what the rise is where an armed cut came
  pub at_cut : AtCut rise

-- The rise where a cut came that was armed on a die with power, by its number.
abbrev pub WhereCut : (ℕ → ℕ → Type 0) → DeviceView → DeviceView → ℕ → Type 0
WhereCut AtCut old new rise = TellsPower old.die → CutCame old.die new.die → AtCut (cut_of old.die) rise

-- The next seq rises by fewer than 2^8 in a call, and each valid header after it stood in its slot before or has a seq
-- drawn in the call. The second holds where the cells were sound or no change call failed.
pub record MovesSeq (d : Numbers) (old new : DeviceView) : Type 0 where
  pub not_less : old.seq ≤ new.seq
  pub few : new.seq < old.seq + 2 ^ 8
  pub headers : IsSound d.geometry old.die.cells ⊎ (ChangesRose old new → ⊥) → (place : Place) (h : Header) → header_in d.geometry new.die.cells place ≡ Some h
      → (header_in d.geometry old.die.cells place ≡ Some h) ⊎ ((old.seq ≤ h.seq) × (h.seq < old.seq + 2 ^ 8))

-- a collection under way at a cut counts exactly where its seal came before it
abbrev pub CollectAtCut : BookValue → ℕ → ℕ → Type 0
CollectAtCut v c rise = (victim spare : ℕ) → next_page v ≡ Collect victim spare
    → rise ≡ (if nat_lt (collection_calls v (next_page v)) c then live_at v victim else 0)
