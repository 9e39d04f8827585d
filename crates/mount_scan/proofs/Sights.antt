-- A page more of a block: whether it is blank, its seal where it is the first, and its level where a unit begins there.
use Rattle.std.proofs.Common.{◌≡◌, ◌⊎◌, inl, inr, ℕ, suc, ◌+◌, ◌*◌, ◌/◌, ◌%◌, ◌<◌, ◌≤◌, max, drop, Bool, true, false, List, [], ◌∷◌, ◌&&◌, ◌==◌, nat_lt, not, if◌then◌else◌, refl, sym, ap, ◌∙◌}
use Rattle.std.proofs.Common.{subst, arith}
use Rattle.std.specs.List.{list_all, range_with_len}
use Rattle.std.proofs.lemmas.Bool.{cases_eq, cases_lt, eq-eqb, ne_eqb, lt-ltb, eqb-true, ltb-true, and_parts, false≢true, cond-true, cond-false}
use Rattle.std.proofs.lemmas.Nat.{div-mul-add, mod-mul-add, div-add-mod', mul-le}
use Rattle.std.proofs.lemmas.List.Folds.{list_all-append}
use Rattle.cell_die.specs.Cells.{page_at, is_blank}
use Rattle.spare_gate.specs.Slots.{is_slot_blank, is_seal_charged}
use Rattle.page_codec.specs.declared.seen.Seen.{Seen}
use Rattle.page_codec.specs.Seen.{seen_page}
use Rattle.page_codec.specs.Geometry.{Geometry, units, unit_page, spare_at}
use Rattle.page_codec.specs.Records.{is_sealed}
use Rattle.page_codec.specs.TrueBook.{UnitSlotBlank, is_block_blank}
use Rattle.mount_scan.specs.declared.sight.Sight.{Sight}
use Rattle.mount_scan.specs.Mounted.{IsLevel, SlotUsed}
use Rattle.mount_scan.specs.Scanned.{Shows}
use Rattle.mount_scan.specs.Settled.{page_level}
use Rattle.mount_scan.specs.Sight.{sight_with}
use Rattle.mount_scan.proofs.Settling.{range_last}

-- ---- the level of a page

-- the highest slot from 1 on that is not blank, and 0 where there is none
record Highest (generations : ℕ) (spare : List ℕ) (level : ℕ) : Type 0 where
  within : level < generations
  above : (slot : ℕ) → level < slot → slot < generations → is_slot_blank spare slot ≡ true
  reached : (level ≡ 0) ⊎ (is_slot_blank spare level ≡ false)

highest_of_two : (spare : List ℕ) (second : Bool) → is_slot_blank spare 1 ≡ second → Highest 2 spare (if not second then 1 else 0)
highest_of_two spare true is = record {
  within = omega arith;
  above = λ slot more less. let same : 1 ≡ slot = omega arith in subst (λ k. is_slot_blank spare k ≡ true) same is;
  reached = inl refl;
}
highest_of_two spare false is = record { within = omega arith; above = λ slot more less. absurd (omega arith); reached = inr is }

highest_of_three : (spare : List ℕ) (second third : Bool) → is_slot_blank spare 1 ≡ second → is_slot_blank spare 2 ≡ third → Highest 3 spare (if not third then 2 else (if not second then 1 else 0))
highest_of_three spare second false is third_is = record { within = omega arith; above = λ slot more less. absurd (omega arith); reached = inr third_is }
highest_of_three spare false true is third_is = record {
  within = omega arith;
  above = λ slot more less. let same : 2 ≡ slot = omega arith in subst (λ k. is_slot_blank spare k ≡ true) same third_is;
  reached = inr is;
}
highest_of_three spare true true is third_is = record {
  within = omega arith;
  above = λ slot more less. elim (cases_eq 1 slot) [
    | inl same ↦ subst (λ k. is_slot_blank spare k ≡ true) same is
    | inr other ↦ (let same : 2 ≡ slot = omega arith in subst (λ k. is_slot_blank spare k ≡ true) same third_is)
  ];
  reached = inl refl;
}

highest_on : (main_bytes generations : ℕ) (page : List ℕ) → (generations ≡ 2) ⊎ (generations ≡ 3) → Highest generations (drop main_bytes page) (page_level (seen_page main_bytes generations page))
highest_on main_bytes generations page slots = elim slots [
  | inl two ↦ subst (λ n. Highest n (drop main_bytes page) (page_level (seen_page main_bytes n page))) (sym two) (highest_of_two (drop main_bytes page) _ refl)
  | inr three ↦ subst (λ n. Highest n (drop main_bytes page) (page_level (seen_page main_bytes n page))) (sym three) (highest_of_three (drop main_bytes page) _ _ refl refl)
]

-- ---- the pages of a block

-- no page yet
pub shows_none : (g : Geometry) (cells : List (List ℕ)) (block : ℕ) → 0 < g.generations → Shows g cells block 0 (record { blank = true; sealed = false; level = 0 })
shows_none g cells block some = record {
  blank = refl;
  sealed = λ less. absurd (omega arith);
  within = some;
  above = λ u slot less. absurd (omega arith);
  reached = inl refl;
}

and_true : (a b : Bool) → (a && (b && true)) ≡ (a && b)
and_true true true = refl
and_true true false = refl
and_true false b = refl

module _ (g : Geometry) (cells : List (List ℕ)) (block number : ℕ) (sight : Sight) (seen : Seen) (unit : Bool) (slots : (g.generations ≡ 2) ⊎ (g.generations ≡ 3)) (some : 0 < g.span)
    (seen_is : seen ≡ seen_page g.main_bytes g.generations (page_at cells (block * g.pages + number))) (unit_is : unit ≡ (number % g.span == 0 && nat_lt (number / g.span) (units g)))
    (shows : Shows g cells block number sight) where
  page : ℕ
  page = block * g.pages + number

  blank_more : (sight.blank && seen.blank) ≡ list_all (λ p. is_blank (page_at cells p)) (range_with_len (block * g.pages) (number + 1))
  blank_more =
      let test : ℕ → Bool = λ p. is_blank (page_at cells p) in
      let on : number + 1 ≡ suc number = omega arith in
      (λ i. shows.blank i && (seen_is i).blank)
      ∙ (sym (and_true (list_all test (range_with_len (block * g.pages) number)) (test (block * g.pages + number)))
      ∙ (sym (list_all-append test (range_with_len (block * g.pages) number) ((block * g.pages + number) ∷ []))
      ∙ (ap (list_all test) (sym (range_last (block * g.pages) number (block * g.pages + number) refl))
      ∙ ap (λ n. list_all test (range_with_len (block * g.pages) n)) (sym on))))

  sealed_more : (if number == 0 then seen.seal else sight.sealed) ≡ is_sealed g cells block
  sealed_more = elim (cases_eq number 0) [
    | inl first ↦ (
        cond-true (number == 0) seen.seal sight.sealed (eq-eqb number 0 first)
        ∙ (ap (λ (s : Seen). s.seal) seen_is ∙ ap (λ p. is_seal_charged (spare_at g cells p)) (let same : block * g.pages + number ≡ block * g.pages = omega (arith, first) in same)))
    | inr later ↦ cond-false (number == 0) seen.seal sight.sealed (ne_eqb number 0 later) ∙ shows.sealed (omega (arith, later))
  ]

  own : Highest g.generations (spare_at g cells (block * g.pages + number)) (page_level seen)
  own =
      subst (λ (s : Seen). Highest g.generations (spare_at g cells (block * g.pages + number)) (page_level s)) (sym seen_is)
      (highest_on g.main_bytes g.generations (page_at cells (block * g.pages + number)) slots)

  -- a page that is the first of a unit
  begins : (u : ℕ) → u * g.span ≡ number → u < units g → unit ≡ true
  begins u same less =
      let at : number ≡ u * g.span + 0 = omega (arith, same) in
      let zero : number % g.span ≡ 0 = ap (λ n. n % g.span) at ∙ mod-mul-add u g.span 0 some in
      let number_of : number / g.span ≡ u = ap (λ n. n / g.span) at ∙ div-mul-add u g.span 0 some in
      let below : number / g.span < units g = subst (λ n. n < units g) (sym number_of) less in
      unit_is ∙ (λ i. eq-eqb (number % g.span) 0 zero i && lt-ltb (number / g.span) (units g) below i)

  -- and the unit of such a page
  begun : unit ≡ true → (u : ℕ) × (u < units g) × (unit_page g block u ≡ block * g.pages + number)
  begun is =
      let parts = and_parts _ _ (sym unit_is ∙ is) in
      let zero : number % g.span ≡ 0 = eqb-true (number % g.span) 0 parts.0 in
      let whole : number / g.span * g.span ≡ number = let e = div-add-mod' number g.span in omega (arith, e, zero) in
      (number / g.span, ltb-true (number / g.span) (units g) parts.1, ap (λ n. block * g.pages + n) whole)

  abbrev Level : ℕ → Type 0
  Level level =
      (level < g.generations) × ((u slot : ℕ) → u * g.span < number + 1 → u < units g → level < slot → slot < g.generations → UnitSlotBlank g cells block u slot)
      × ((level ≡ 0) ⊎ SlotUsed g cells block level)

  level_begun : unit ≡ true → Level (max sight.level (page_level seen))
  level_begun is = (
    omega (arith, shows.within, own.within),
    λ u slot reached inside more less. elim (cases_lt (u * g.span) number) [
      | inl earlier ↦ shows.above u slot earlier inside (omega (arith, more)) less
      | inr now ↦ (
          let same : unit_page g block u ≡ block * g.pages + number = (let e : u * g.span ≡ number = omega (arith, reached, now) in ap (λ n. block * g.pages + n) e) in
          subst (λ p. is_slot_blank (spare_at g cells p) slot ≡ true) (sym same) (own.above slot (omega (arith, more)) less))
    ],
    elim (cases_lt sight.level (page_level seen)) [
      | inl higher ↦ elim own.reached [
        | inl zero ↦ absurd (omega (arith, zero, higher))
        | inr used ↦ (
            let it = begun is in
            let same : page_level seen ≡ max sight.level (page_level seen) = omega (arith, higher) in
            inr (subst (SlotUsed g cells block) same (it.0, it.1, subst (λ p. is_slot_blank (spare_at g cells p) (page_level seen) ≡ false) (sym it.2) used)))
      ]
      | inr lower ↦ (
          let same : sight.level ≡ max sight.level (page_level seen) = omega (arith, lower) in
          subst (λ l. (l ≡ 0) ⊎ SlotUsed g cells block l) same shows.reached)
    ],
  )

  level_within : unit ≡ false → Level sight.level
  level_within is = (
    shows.within,
    λ u slot reached inside more less. elim (cases_lt (u * g.span) number) [
      | inl earlier ↦ shows.above u slot earlier inside more less
      | inr now ↦ absurd (false≢true (sym is ∙ begins u (omega (arith, reached, now)) inside))
    ],
    shows.reached,
  )

  level_more : (t : Bool) → unit ≡ t → Level (if t then max sight.level (page_level seen) else sight.level)
  level_more true is = level_begun is
  level_more false is = level_within is

  pub shows_more : Shows g cells block (number + 1) (sight_with sight seen number unit)
  shows_more =
      let level = level_more unit refl in
      record { blank = blank_more; sealed = λ less. sealed_more; within = level.0; above = level.1; reached = level.2 }

-- All pages of a block: whether it is blank, and its level.
pub block_blank : (g : Geometry) (cells : List (List ℕ)) (block : ℕ) (sight : Sight) → Shows g cells block g.pages sight → is_block_blank g cells block ≡ sight.blank
block_blank g cells block sight shows = sym shows.blank

pub block_level : (g : Geometry) (cells : List (List ℕ)) (block : ℕ) (sight : Sight) → 0 < g.span → Shows g cells block g.pages sight → IsLevel g cells block sight.level
block_level g cells block sight some shows = record {
  within = shows.within;
  above = λ u slot inside more less. shows.above u slot (unit_within u inside) inside more less;
  reached = shows.reached;
}
  where
    unit_within : (u : ℕ) → u < units g → u * g.span < g.pages
    unit_within u inside =
        let whole = div-add-mod' g.pages g.span in
        let below : (u + 1) * g.span ≤ g.pages / g.span * g.span = mul-le (u + 1) g.span (g.pages / g.span) g.span (omega (arith, inside)) (omega arith) in
        omega (arith, whole, below)
