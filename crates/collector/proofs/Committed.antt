-- What a committed record and a live record say, in parts.
use Rattle.std.proofs.Common.{◌≡◌, ℕ, ◌<◌, Bool, true, false, List, ◌&&◌, nat_lt, if◌then◌else◌, Option, Some, None, refl, sym, ap, ◌∙◌, subst}
use Rattle.std.proofs.lemmas.Bool.{and_parts, ltb-true}
use Rattle.std.proofs.lemmas.Option.{same_Some, none-some}
use Rattle.zero_count.specs.declared.Header.{Header}
use Rattle.spare_gate.specs.Slots.{is_gate_charged}
use Rattle.page_codec.specs.declared.place.Place.{Place}
use Rattle.page_codec.specs.Geometry.{Geometry, block_of, spare_at}
use Rattle.page_codec.specs.Records.{Placed, may_hold, record_in, below_sectors, header_in, is_copy, is_sealed, is_committed, if_committed, committed_in, live_record}
use Rattle.page_codec.proofs.Newest.{newest_some}
use Rattle.page_codec.proofs.Live.{of_records, live_counts}

-- a committed record stands behind its gate, and a copy in a sealed block
pub record CommittedSo (g : Geometry) (cells : List (List ℕ)) (place : Place) (h : Header) : Type 0 where
  pub holds : may_hold g place ≡ true
  pub header : header_in g cells place ≡ Some h
  pub record_there : record_in g cells place ≡ Some h
  pub sector : h.sector < g.sectors
  pub gate : is_gate_charged (spare_at g cells place.page) place.slot ≡ true
  pub sealed : is_copy h ≡ true → is_sealed g cells (block_of g place.page) ≡ true

below_parts : (g : Geometry) (o : Option Header) (h : Header) → below_sectors g o ≡ Some h → (o ≡ Some h) × (h.sector < g.sectors)
below_parts g None h e = absurd (none-some h e)
below_parts g (Some k) h e = at (nat_lt k.sector g.sectors) refl e
  where
    at : (t : Bool) → nat_lt k.sector g.sectors ≡ t → (if t then Some k else None) ≡ Some h → (Some k ≡ Some h) × (h.sector < g.sectors)
    at true l m = let same = same_Some k h m in (ap Some same, subst (λ (x : Header). x.sector < g.sectors) same (ltb-true _ _ l))
    at false l m = absurd (none-some h m)

pub record_parts : (g : Geometry) (cells : List (List ℕ)) (place : Place) (h : Header) → record_in g cells place ≡ Some h
    → (may_hold g place ≡ true) × (header_in g cells place ≡ Some h) × (h.sector < g.sectors)
unfolding record_in
record_parts g cells place h e = at (may_hold g place) refl e
  where
    at : (t : Bool) → may_hold g place ≡ t → (if t then below_sectors g (header_in g cells place) else None) ≡ Some h
        → (may_hold g place ≡ true) × (header_in g cells place ≡ Some h) × (h.sector < g.sectors)
    at true m k = let p = below_parts g (header_in g cells place) h k in (m, p.0, p.1)
    at false m k = absurd (none-some h k)

if_parts : (g : Geometry) (cells : List (List ℕ)) (place : Place) (o : Option Header) (h : Header) → if_committed g cells place o ≡ Some h → (o ≡ Some h) × (is_committed g cells place h ≡ true)
if_parts g cells place None h e = absurd (none-some h e)
if_parts g cells place (Some k) h e = at (is_committed g cells place k) refl e
  where
    at : (t : Bool) → is_committed g cells place k ≡ t → (if t then Some k else None) ≡ Some h → (Some k ≡ Some h) × (is_committed g cells place h ≡ true)
    at true c l = let same = same_Some k h l in (ap Some same, subst (λ (z : Header). is_committed g cells place z ≡ true) same c)
    at false c l = absurd (none-some h l)

gate_parts : (g : Geometry) (cells : List (List ℕ)) (place : Place) (h : Header) → is_committed g cells place h ≡ true
    → (is_gate_charged (spare_at g cells place.page) place.slot ≡ true) × (is_copy h ≡ true → is_sealed g cells (block_of g place.page) ≡ true)
unfolding is_committed
gate_parts g cells place h e =
    let p = and_parts _ _ e in (
      p.0,
      λ copy. subst (λ (t : Bool). (if t then is_sealed g cells (block_of g place.page) else true) ≡ true) copy p.1,
    )

pub committed_so : (g : Geometry) (cells : List (List ℕ)) (place : Place) (h : Header) → committed_in g cells place ≡ Some h → CommittedSo g cells place h
unfolding committed_in
committed_so g cells place h e =
    let c = if_parts g cells place (record_in g cells place) h e in
    let r = record_parts g cells place h c.0 in
    let p = gate_parts g cells place h c.1 in
    record { holds = r.0; header = r.1; record_there = c.0; sector = r.2; gate = p.0; sealed = p.1 }

-- a copy behind its gate is committed in a sealed block
pub copy_committed : (g : Geometry) (cells : List (List ℕ)) (place : Place) (h : Header) → record_in g cells place ≡ Some h → is_gate_charged (spare_at g cells place.page) place.slot ≡ true
    → is_sealed g cells (block_of g place.page) ≡ true → committed_in g cells place ≡ Some h
unfolding committed_in is_committed
copy_committed g cells place h there gate sealed =
    ap (if_committed g cells place) there
    ∙ ap (λ (t : Bool). if t then Some h else None)
    (ap (λ (t : Bool). t && (if is_copy h then is_sealed g cells (block_of g place.page) else true)) gate
    ∙ (ap (λ (s : Bool). if is_copy h then s else true) sealed ∙ both (is_copy h)))
  where
    both : (t : Bool) → (if t then true else true) ≡ true
    both true = refl
    both false = refl

-- a live record is of its sector, and committed
pub record LiveSo (g : Geometry) (cells : List (List ℕ)) (sector : ℕ) (x : Placed) : Type 0 where
  pub of_sector : x.header.sector ≡ sector
  pub within : sector < g.sectors
  pub committed : committed_in g cells x.place ≡ Some x.header
  pub so : CommittedSo g cells x.place x.header

sector_of : (g : Geometry) (cells : List (List ℕ)) (sector : ℕ) (x : Placed) → live_record g cells sector ≡ Some x → x.header.sector ≡ sector
unfolding live_record
sector_of g cells sector x e = (of_records g cells sector x (newest_some _ x e).one).1

pub live_so : (g : Geometry) (cells : List (List ℕ)) (sector : ℕ) (x : Placed) → live_record g cells sector ≡ Some x → LiveSo g cells sector x
live_so g cells sector x e =
    let counted = live_counts g cells sector x e in
    let so = committed_so g cells x.place x.header counted in
    let same = sector_of g cells sector x e in
    record { of_sector = same; within = subst (λ (s : ℕ). s < g.sectors) same so.sector; committed = counted; so = so }

-- two live records in one slot are one
pub live_apart : (g : Geometry) (cells : List (List ℕ)) (s t : ℕ) (x y : Placed) → live_record g cells s ≡ Some x → live_record g cells t ≡ Some y → x.place ≡ y.place → x ≡ y
live_apart g cells s t x y e f same =
    let header = same_Some x.header y.header (sym (live_so g cells s x e).committed ∙ (ap (committed_in g cells) same ∙ (live_so g cells t y f).committed)) in
    λ i. record { place = same i; header = header i }
