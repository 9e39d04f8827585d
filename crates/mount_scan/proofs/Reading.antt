-- What noting a record keeps: the live counts stay those of the map, and the map names the newest record of each sector.
use Rattle.std.proofs.Common.{◌≡◌, inl, inr, ℕ, ◌+◌, ◌-◌, ◌/◌, ◌<◌, cond, List, length, ◌==◌, Option, Some, None, refl, sym, ap, ◌∙◌, subst, arith, get_or-set_same, get_or-set_other}
use Rattle.std.specs.List.{count_by}
use Rattle.std.proofs.lemmas.Bool.{cases_eq, cases_lt, eq-eqb, ne_eqb}
use Rattle.std.proofs.lemmas.List.{get_or_past, length-set}
use Rattle.std.proofs.lemmas.List.Sums.{sum_by-set, get_or-le-sum_by}
use Rattle.std.proofs.Math.ListN.{set}
use Rattle.sector_map.specs.declared.entry.Entry.{Entry}
use Rattle.sector_map.specs.Entry.{place_of, entry_at}
use Rattle.block_state.specs.Book.{BookValue, live_at}
use Rattle.mount_scan.specs.Noted.{is_entry_in, forgotten, counted}

-- one where an entry names a page of the block
abbrev pub ones : ℕ → ℕ → Option Entry → ℕ
ones pages block entry = cond (is_entry_in pages block entry) 1 0

-- one at the block itself
abbrev pub one_at : ℕ → ℕ → ℕ
one_at at block = cond (at == block) 1 0

-- an entry of the map is counted in its block
pub some_counted : (pages : ℕ) (map : List (Option Entry)) (sector : ℕ) (entry : Entry) → entry_at map sector ≡ Some entry
    → 0 < count_by (is_entry_in pages ((place_of entry).page / pages)) map
some_counted pages map sector entry e =
    let block : ℕ = (place_of entry).page / pages in
    elim (cases_lt sector (length map)) [
      | inl within ↦ (
          let one : ones pages block (entry_at map sector) ≡ 1 = ap (ones pages block) e ∙ ap (λ t. cond t 1 0) (eq-eqb block block refl) in
          omega (arith, get_or-le-sum_by (ones pages block) map sector None within, one))
      | inr past ↦ absurd (none_is (sym (get_or_past map sector None past) ∙ e))
    ]
  where
    none_is : {X : Type 0} {x : X} → None ≡ Some x → ⊥
    none_is h = cc

-- the live counts with one less in the block of an entry of the map
pub forgotten_live : (v : BookValue) (former : Option Entry) (block : ℕ)
    → ((entry : Entry) → former ≡ Some entry → ((place_of entry).page / v.pages < length v.live) × (0 < live_at v ((place_of entry).page / v.pages)))
    → live_at (forgotten v former) block + ones v.pages block former ≡ live_at v block
forgotten_live v None block some = omega arith
forgotten_live v (Some entry) block some =
    let at : ℕ = (place_of entry).page / v.pages in
    let s = some entry refl in
    elim (cases_eq block at) [
      | inl same ↦ (
          let now : live_at (forgotten v (Some entry)) block ≡ live_at v at - 1 = rw same (get_or-set_same v.live at (live_at v at - 1) 0 s.0) in
          let one : ones v.pages block (Some entry) ≡ 1 = ap (λ t. cond t 1 0) (eq-eqb at block (sym same)) in
          let was : live_at v block ≡ live_at v at = ap (live_at v) same in
          omega (arith, now, one, was, s.1))
      | inr other ↦ (
          let now : live_at (forgotten v (Some entry)) block ≡ live_at v block = get_or-set_other v.live at block (live_at v at - 1) 0 other in
          let one : ones v.pages block (Some entry) ≡ 0 = ap (λ t. cond t 1 0) (ne_eqb at block (λ e. other (sym e))) in
          omega (arith, now, one))
    ]

pub counted_live : (v : BookValue) (at block : ℕ) → at < length v.live → live_at (counted v at) block ≡ live_at v block + one_at at block
counted_live v at block within = elim (cases_eq block at) [
  | inl same ↦ (
      let now : live_at (counted v at) block ≡ live_at v at + 1 = rw same (get_or-set_same v.live at (live_at v at + 1) 0 within) in
      let one : one_at at block ≡ 1 = ap (λ t. cond t 1 0) (eq-eqb at block (sym same)) in
      let was : live_at v block ≡ live_at v at = ap (live_at v) same in
      omega (arith, now, one, was))
  | inr other ↦ (
      let now : live_at (counted v at) block ≡ live_at v block = get_or-set_other v.live at block (live_at v at + 1) 0 other in
      let one : one_at at block ≡ 0 = ap (λ t. cond t 1 0) (ne_eqb at block (λ e. other (sym e))) in
      omega (arith, now, one))
]

pub forgotten_long : (v : BookValue) (former : Option Entry) → length (forgotten v former).live ≡ length v.live
forgotten_long v None = refl
forgotten_long v (Some entry) = length-set v.live ((place_of entry).page / v.pages) _

-- the live counts after a record takes over stay those of the map
pub live_taken : (v : BookValue) (map : List (Option Entry)) (sector at : ℕ) (entry : Option Entry) (block : ℕ) → sector < length map → at < length v.live
    → ((b : ℕ) → live_at v b ≡ count_by (is_entry_in v.pages b) map)
    → ((e : Entry) → entry_at map sector ≡ Some e → (place_of e).page / v.pages < length v.live)
    → ones v.pages block entry ≡ one_at at block
    → live_at (counted (forgotten v (entry_at map sector)) at) block ≡ count_by (is_entry_in v.pages block) (set map sector entry)
live_taken v map sector at entry block in_map in_live live within named =
    let former = entry_at map sector in
    let first : live_at (forgotten v former) block + ones v.pages block former ≡ live_at v block
    = forgotten_live v former block (λ e is. (within e is, subst (λ n. 0 < n) (sym (live ((place_of e).page / v.pages))) (some_counted v.pages map sector e is))) in
    let then' : live_at (counted (forgotten v former) at) block ≡ live_at (forgotten v former) block + one_at at block
    = counted_live (forgotten v former) at block (subst (λ n. at < n) (sym (forgotten_long v former)) in_live) in
    let moved = sum_by-set (ones v.pages block) map sector entry None in_map in
    omega (arith, first, then', moved, live block, named)
