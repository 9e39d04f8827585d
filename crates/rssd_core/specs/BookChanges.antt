-- How a device's book changes: uses of its rules, in order.
use Rattle.std.specs.Prelude.{◌≡◌, ℕ, ◌≤◌, Bool, true, false, List, [], ◌∷◌, ◌++◌, Option, Some, None}
use Rattle.std.specs.List.{count_by}
use Rattle.block_state.specs.declared.state.State.TheVariants.{Active, Spare}
use Rattle.block_state.specs.State.{is_active}
use Rattle.block_state.specs.Book.{BookValue, state_at, with_state}
use Rattle.page_alloc.specs.declared.next_page.NextPage.TheVariants.{Page, Take, Wipe, Collect}
use Rattle.reuse_pool.specs.declared.unit.ReuseUnit.{ReuseUnit}
use Rattle.reuse_pool.specs.Offer.{passed}
use Rattle.reuse_pool.specs.Recycling.{Recycles}
use Rattle.collector.specs.Effects.{recorded, filled, sealed}
use Rattle.rssd_core.specs.Rules.{next_page, first_block, offer_of}

-- one use of a rule. `former` is the block of the sector's former live record
pub data Change : Type 0 where
  -- the lowest-numbered Clean block becomes Active
  Takes : (block : ℕ) → Change
  -- the victim, without a live record, is erased and becomes Active
  Wipes : (block : ℕ) → Change
  -- before a collection a Spare that is not known to be blank is erased, and it is not blank from the first copy on
  Erases : (spare : ℕ) → Change
  Copies : (spare : ℕ) → Change
  -- the seal of a collection
  Seals : (victim spare : ℕ) → Change
  -- a record on the Active block's next page, and one over a unit
  Fills : (former : Option ℕ) → Change
  Rewrites : (unit : ReuseUnit) (former : Option ℕ) → Change
  -- the offered unit is passed
  Passes : (unit : ReuseUnit) → Change
  -- blocks that are due offer their units
  Offers : Change

-- the record effect on the Active block's next page
abbrev pub filled_in : BookValue → Option ℕ → Option ℕ → BookValue
filled_in v None former = v
filled_in v (Some block) former = filled (recorded v block former) block

-- the victim is to be collected into this Spare
abbrev pub Collecting : BookValue → ℕ → Type 0
Collecting v spare = (victim : ℕ) × (next_page v ≡ Collect victim spare)

-- the rule applies to v, and its use makes v into w
abbrev pub UsesRule : ℕ → BookValue → Change → BookValue → Type 0
UsesRule reuse_max v (Takes block) w = (next_page v ≡ Take block) × (w ≡ with_state v block (Active 0))
UsesRule reuse_max v (Wipes block) w = (next_page v ≡ Wipe block) × (w ≡ with_state v block (Active 0))
UsesRule reuse_max v (Erases spare) w = Collecting v spare × (state_at v spare ≡ Spare false) × (w ≡ with_state v spare (Spare true))
UsesRule reuse_max v (Copies spare) w = Collecting v spare × (state_at v spare ≡ Spare true) × (w ≡ with_state v spare (Spare false))
UsesRule reuse_max v (Seals victim spare) w = (next_page v ≡ Collect victim spare) × (w ≡ sealed v victim spare)
UsesRule reuse_max v (Fills former) w = (page : ℕ) × (next_page v ≡ Page page) × (w ≡ filled_in v (first_block is_active v) former)
UsesRule reuse_max v (Rewrites unit former) w = (offer_of v ≡ Some unit) × (w ≡ recorded v unit.block former)
UsesRule reuse_max v (Passes unit) w = (offer_of v ≡ Some unit) × (w ≡ with_state v unit.block (passed v unit))
UsesRule reuse_max v Offers w = Recycles reuse_max v w

-- the changes, one after another, lead from v to w
unfoldable pub Leads : ℕ → BookValue → List Change → BookValue → Type 0
Leads reuse_max v [] w = w ≡ v
Leads reuse_max v (change ∷ changes) w = (next : BookValue) × UsesRule reuse_max v change next × Leads reuse_max next changes w

abbrev pub is_pass : Change → Bool
is_pass (Passes unit) = true
is_pass _ = false

abbrev pub is_seal : Change → Bool
is_seal (Seals victim spare) = true
is_seal _ = false

abbrev pub is_take : Change → Bool
is_take (Takes block) = true
is_take _ = false

abbrev pub is_wipe : Change → Bool
is_wipe (Wipes block) = true
is_wipe _ = false

abbrev pub is_erase : Change → Bool
is_erase (Erases spare) = true
is_erase _ = false

abbrev pub is_copy : Change → Bool
is_copy (Copies spare) = true
is_copy _ = false

abbrev pub is_offer : Change → Bool
is_offer Offers = true
is_offer _ = false

-- the changes of an idle call
abbrev pub is_idle : Change → Bool
is_idle (Fills former) = true
is_idle Offers = true
is_idle _ = false

abbrev pub passes : List Change → ℕ
passes changes = count_by is_pass changes

-- blocks that are due offer their units once, as the last of the changes
pub record OffersLast (changes : List Change) : Type 0 where
  pub before : List Change
  pub last : changes ≡ before ++ Offers ∷ []
  pub none_before : count_by is_offer before ≡ 0

-- so a call ends that does not leave the device stopped, and none of a call that does
abbrev pub OffersAtEnd : Bool → List Change → Type 0
OffersAtEnd false changes = OffersLast changes
OffersAtEnd true changes = count_by is_offer changes ≡ 0

-- a write or trim uses each rule of clean pages and of collection at most once
pub record EachOnce (changes : List Change) : Type 0 where
  pub takes : count_by is_take changes ≤ 1
  pub wipes : count_by is_wipe changes ≤ 1
  pub erases : count_by is_erase changes ≤ 1
  pub copies : count_by is_copy changes ≤ 1
  pub seals : count_by is_seal changes ≤ 1
