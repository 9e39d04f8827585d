-- The audit's verdict: the first part of soundness that does not hold, and the first place where it does not.
use Rattle.std.specs.Prelude.{◌≡◌, ℕ, ◌+◌, ◌^◌, ◌<◌, ◌≤◌, List, ◌∷◌, ◌++◌, Option, Some, None}
use Rattle.std.specs.List.{filter_map, All}
use Rattle.zero_count.specs.declared.Header.{Header}
use Rattle.spare_gate.specs.Slots.{word_at}
use Rattle.page_codec.specs.declared.place.Place.{Place}
use Rattle.page_codec.specs.Geometry.{Geometry, spare_at}
use Rattle.page_codec.specs.Records.{Placed, places, header_in}
use Rattle.page_codec.specs.Sound.{IsSound, HeadersBelow, SeqsDiffer, live_count}
use Rattle.image_audit.specs.HeaderCells.{LiesBelowValid}
use Rattle.image_audit.specs.declared.verdict.Verdict.{Verdict}
use Rattle.image_audit.specs.declared.verdict.Verdict.TheVariants.{Sound, Header as BadHeader, SameSeq, NoSpare, Number}

-- this is the first of a list of which something holds
pub record IsFirst {X : Type 0} (P : X → Type 0) (xs : List X) (x : X) : Type 0 where
  pub before : List X
  pub after : List X
  pub split : xs ≡ before ++ x ∷ after
  pub holds : P x
  pub none_before : All (λ y. P y → ⊥) before

abbrev pub at_place : ℕ → ℕ → Place
at_place page slot = record { page = page; slot = slot }

abbrev pub placed_in : Place → Option Header → Option Placed
placed_in place None = None
placed_in place (Some header) = Some (record { place = place; header = header })

-- the valid headers with their slots, by page and then by slot
unfoldable pub headers : Geometry → List (List ℕ) → List Placed
headers g cells = filter_map (λ place. placed_in place (header_in g cells place)) (places g)

-- the header cells of a slot lie below no valid word
abbrev pub LiesBelowNone : Geometry → List (List ℕ) → Place → Type 0
LiesBelowNone g cells place = LiesBelowValid (word_at (spare_at g cells place.page) place.slot) → ⊥

-- the seqs of two headers are one
abbrev pub SameSeqAs : Placed → Placed → Type 0
SameSeqAs a b = b.header.seq ≡ a.header.seq

-- The first of some headers whose seq stands in a later one, and the first such later one.
pub record IsFirstRepeat (headers : List Placed) (a b : Placed) : Type 0 where
  pub before : List Placed
  pub after : List Placed
  pub split : headers ≡ before ++ a ∷ after
  pub repeated : IsFirst (SameSeqAs a) after b
  -- no header before it has its seq in a later one
  pub none_before : (front rest : List Placed) (c : Placed) → before ≡ front ++ c ∷ rest → All (λ d. SameSeqAs c d → ⊥) (rest ++ a ∷ after)

-- the two headers stand in these slots
pub record RepeatsAt (g : Geometry) (cells : List (List ℕ)) (first second : Place) : Type 0 where
  pub header : Header
  pub other : Header
  pub repeat : IsFirstRepeat (headers g cells) (record { place = first; header = header }) (record { place = second; header = other })

-- every block has a live record
abbrev pub EveryBlockLive : Geometry → List (List ℕ) → Type 0
EveryBlockLive g cells = (block : ℕ) → block < g.blocks → live_count g cells block ≡ 0 → ⊥

-- some block has none
abbrev pub SomeBlockFree : Geometry → List (List ℕ) → Type 0
SomeBlockFree g cells = (block : ℕ) × (block < g.blocks) × (live_count g cells block ≡ 0)

-- the first header whose seq is not bounded stands in this slot
pub record IsHighAt (g : Geometry) (cells : List (List ℕ)) (place : Place) : Type 0 where
  pub header : Header
  pub first : IsFirst (λ placed. 2 ^ 62 + 2 ^ 20 ≤ placed.header.seq) (headers g cells) (record { place = place; header = header })

-- What each verdict says of the cells. The verdicts before it do not apply.
abbrev pub IsVerdict : Geometry → List (List ℕ) → Verdict → Type 0
IsVerdict g cells Sound = IsSound g cells
IsVerdict g cells (BadHeader page slot) = IsFirst (LiesBelowNone g cells) (places g) (at_place page slot)
IsVerdict g cells (SameSeq page slot other_page other_slot) = HeadersBelow g cells × RepeatsAt g cells (at_place page slot) (at_place other_page other_slot)
IsVerdict g cells NoSpare = HeadersBelow g cells × SeqsDiffer g cells × EveryBlockLive g cells
IsVerdict g cells (Number page slot) = HeadersBelow g cells × SeqsDiffer g cells × SomeBlockFree g cells × IsHighAt g cells (at_place page slot)
