-- Where a write goes.
use Rattle.std.specs.Prelude.{◌≡◌, ◌⊎◌, ◌↔◌, ℕ, ◌^◌, ◌<◌, ◌≤◌, List, length, Some, None}
use Rattle.reuse_pool.specs.declared.unit.ReuseUnit.{ReuseUnit}
use Rattle.rssd_core.specs.Rules.{offer_of}
use Rattle.rssd_core.specs.DeviceValue.{Numbers}
use Rattle.rssd_core.specs.Writes.{OfferCarries, OfferDeclines, OverUnit, OnCleanPage}
use Rattle.rssd_script.specs.declared.lines.Line.TheVariants.{Write}
use Rattle.rssd_script.specs.declared.replies.Reply.TheVariants.{First, Second, Declined}
use Rattle.rssd_run.specs.View.{Event, IsOn, NoFailure}

-- a write that nothing refuses before it is tried
pub record IsTried (d : Numbers) (e : Event) (sector : ℕ) (bytes : List ℕ) : Type 0 where
  pub write : e.line ≡ Write sector bytes
  pub on : IsOn e.before.array
  pub in_range : sector < d.geometry.sectors
  pub fits : length bytes ≤ d.geometry.sector_bytes
  pub numbers : e.before.device.seq < 2 ^ 62

-- `second` comes exactly where a unit is offered whose cells can carry the sector; `declined` exactly where they can't;
-- `first` exactly where none is offered; each where no call failed
pub record PlacedExactly (d : Numbers) (e : Event) (sector : ℕ) (row : List ℕ) : Type 0 where
  pub second : (e.reply ≡ Second) ↔ (NoFailure e × OfferCarries d e.before.device row)
  pub declined : (e.reply ≡ Declined) ↔ (NoFailure e × OfferDeclines d e.before.device row)
  pub first : (e.reply ≡ First) ↔ (NoFailure e × (offer_of e.before.device.book ≡ None))
  pub over_unit : e.reply ≡ Second → (unit : ReuseUnit) → offer_of e.before.device.book ≡ Some unit → OverUnit d e.before.device e.after.device sector row unit
  pub on_clean : (e.reply ≡ Declined) ⊎ (e.reply ≡ First) → OnCleanPage d e.before.device e.after.device sector row 1
