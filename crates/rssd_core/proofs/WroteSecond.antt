-- A write over the offered unit, from its steps to the contract: the record was put, the unit passed, and blocks recycled.
use Rattle.std.proofs.Common.{◌≡◌, ℕ, ◌+◌, ◌^◌, ◌<◌, false, IsTrue as Passing, List, [], ◌∷◌, length, Option, refl, sym, ap, ◌∙◌, subst, arith, Some, ◌-◌}
use Rattle.std.proofs.lemmas.Option.{same_Some}
use Rattle.cell_die.specs.Counts.{count_sum}
use Rattle.cell_die.proofs.Sequences.{passed_within}
use Rattle.block_state.specs.declared.state.State.{State}
use Rattle.block_state.specs.Book.{BookValue, state_at}
use Rattle.reuse_pool.specs.declared.unit.ReuseUnit.{ReuseUnit}
use Rattle.reuse_pool.specs.Offer.{IsOffer, is_recycled}
use Rattle.reuse_pool.specs.Recycling.{Recycles}
use Rattle.collector.specs.Store.{Store, IsTrueStore}
use Rattle.collector.specs.Store as stores
use Rattle.collector.specs.Effects.{recorded}
use Rattle.collector.proofs.Books.{SameStates, recorded_states}
use Rattle.rssd_core.specs.declared.device.Placed.TheVariants.{Second}
use Rattle.rssd_core.specs.BookChanges.{Rewrites, Passes, Offers}
use Rattle.rssd_core.specs.DeviceValue.{Numbers}
use Rattle.rssd_core.specs.Outcomes.{Wrote}
use Rattle.rssd_core.specs.Steps.{PutOver, former_block, bytes_in}
use Rattle.rssd_core.specs.Writes.{OverUnit, slot_of_unit}
use Rattle.rssd_core.proofs.Chained.{leads_append, leads_one, went_passed, no_cut_came}
use Rattle.rssd_core.proofs.Rules.{offer_is}
use Rattle.rssd_core.proofs.WroteFirst.{view_at, moves_seq}

-- the record effect leaves the offer
pub offer_recorded : (v : BookValue) (unit : ReuseUnit) (block : ℕ) (former : Option ℕ) → IsOffer v unit → IsOffer (recorded v block former) unit
offer_recorded v unit block former (within, is, first) = (
  subst (λ (states : List State). unit.block < length states) (sym same.states) within,
  state_same unit.block ∙ is,
  λ c below recycled. first c below (subst (λ (s : State). Passing (is_recycled s)) (state_same c) recycled),
)
  where
    same : SameStates v (recorded v block former)
    same = recorded_states v block former

    state_same : (c : ℕ) → state_at (recorded v block former) c ≡ state_at v c
    state_same c = ap (λ (states : List State). state_at (record v { states = states }) c) (recorded_states v block former).states

pub wrote_second : (d : Numbers) (sector : ℕ) (unit : ReuseUnit) (bytes : List ℕ) (old new : Store) (book : BookValue) (first second declined moved : ℕ)
    → old.seq < 2 ^ 62 → first < 2 ^ 64 → second < 2 ^ 64 → declined < 2 ^ 64 → moved < 2 ^ 64
    → IsOffer old.book unit → stores.Holds d.geometry old new
    → PutOver d.geometry d.meaning.decoding unit (record { sector = sector; seq = old.seq; kind = 1 }) bytes old new → Recycles d.reuse_max new.book book
    → Wrote d sector bytes Second
    (record { numbers = d; view = view_at old first second declined moved; stopped = false })
    (record { numbers = d; view = view_at (record new { book = book }) first (count_sum second 1) declined moved; stopped = false })
wrote_second d sector unit bytes old new book first second declined moved fresh few_first few_second few_declined few_moved offer holds p recycles = record {
  fresh = fresh;
  rows = p.rows;
  place = (
    (unit, offer_is old.book unit offer, (bytes_in d.geometry new unit, p.above, p.carries)),
    λ other is. over other (same_Some unit other (sym (offer_is old.book unit offer) ∙ is)),
  );
  draws = record { drawn = p.seq; erases = p.erases };
  calls = went_passed (d.geometry.span + 1) d.geometry.span _ old.die new.die p.calls;
  book = record {
    changes = Rewrites unit former ∷ Passes unit ∷ Offers ∷ [];
    leads = leads_append d.reuse_max old.book after book (Rewrites unit former ∷ []) (Passes unit ∷ Offers ∷ [])
        (leads_one d.reuse_max old.book after (Rewrites unit former) (offer_is old.book unit offer, refl))
        (leads_append d.reuse_max after new.book book (Passes unit ∷ []) (Offers ∷ [])
        (leads_one d.reuse_max after new.book (Passes unit) (offer_is after unit (offer_recorded old.book unit unit.block former offer), p.book))
        (leads_one d.reuse_max new.book book Offers recycles));
    may = (
      refl,
      record { takes = omega arith; wipes = omega arith; erases = omega arith; copies = omega arith; seals = omega arith },
      record { before = Rewrites unit former ∷ Passes unit ∷ []; last = refl; none_before = refl },
    );
    rise = 0;
    rises = refl;
    tally = omega arith;
    at_cut = λ power came. absurd (no_cut_came (d.geometry.span + 1) d.geometry.span old.die new.die (passed_within d.geometry.span (omega arith) p.calls) power came);
  };
  seq = moves_seq d old new (view_at old first second declined moved) (view_at (record new { book = book }) first (count_sum second 1) declined moved) refl refl refl refl holds (omega (arith, p.seq));
  counts = record { first = omega arith; second = refl; declined = omega arith };
  running = refl;
}
  where
    former : Option ℕ
    former = former_block old.book old.table sector

    after : BookValue
    after = recorded old.book unit.block (former_block old.book old.table sector)

    last_drawn : old.seq ≡ new.seq - 1
    last_drawn = omega (arith, p.seq)

    over : (other : ReuseUnit) → unit ≡ other → OverUnit d (view_at old first second declined moved) (view_at (record new { book = book }) first (count_sum second 1) declined moved) sector bytes other
    over other same = subst
        (λ (u : ReuseUnit). OverUnit d (view_at old first second declined moved) (view_at (record new { book = book }) first (count_sum second 1) declined moved) sector bytes u) same
        (record {
          live = p.live ∙ (λ i. Some (record { place = slot_of_unit d unit; header = record { sector = sector; seq = last_drawn i; kind = 1 } }));
          above = p.above;
          carries = p.carries;
          gives = p.gives;
        })
