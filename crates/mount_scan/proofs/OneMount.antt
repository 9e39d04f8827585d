-- The mount rule leaves no choice: two mounted books of the same cells have the same states, live counts and order, and two next
-- seqs are one.
use Rattle.std.proofs.Common.{◌≡◌, inl, inr, ℕ, ◌-◌, ◌<◌, ◌≤◌, List, refl, sym, ap, ◌∙◌, subst, arith}
use Rattle.std.specs.List.{filter, range_with_len}
use Rattle.std.proofs.lemmas.Bool.{cases_eq, cases_lt, false≢true}
use Rattle.std.proofs.lemmas.List.{get_or_past}
use Rattle.block_state.specs.declared.state.State.{State}
use Rattle.block_state.specs.declared.state.State.TheVariants.{Clean, Active, Used, Recycled, Reused, Spare}
use Rattle.block_state.specs.State.{is_closed}
use Rattle.block_state.specs.Book.{BookValue, state_at, live_at}
use Rattle.page_codec.specs.Geometry.{Geometry}
use Rattle.page_codec.specs.TrueBook.{is_block_blank}
use Rattle.mount_scan.specs.Mounted.{IsFound, IsHighestFree, IsLevel, IsMounted, IsMountedSeq}

-- ---- a block

-- no level is below another one of the same block
not_below : (g : Geometry) (cells : List (List ℕ)) (block low high : ℕ) → IsLevel g cells block low → IsLevel g cells block high → low < high → ⊥
not_below g cells block low high first second less = elim second.reached [
  | inl zero ↦ absurd (omega (arith, zero, less))
  | inr used ↦ false≢true (sym used.2 ∙ first.above used.0 high used.1 less second.within)
]

one_level : (g : Geometry) (cells : List (List ℕ)) (block a b : ℕ) → IsLevel g cells block a → IsLevel g cells block b → a ≡ b
one_level g cells block a b first second = elim (cases_lt a b) [
  | inl less ↦ absurd (not_below g cells block a b first second less)
  | inr more ↦ elim (cases_lt b a) [
    | inl less ↦ absurd (not_below g cells block b a second first less)
    | inr same ↦ omega (arith, more, same)
  ]
]

one_found : (g : Geometry) (cells : List (List ℕ)) (block : ℕ) (s t : State) → IsFound g cells block s → IsFound g cells block t → s ≡ t
one_found g cells block Clean Clean a b = refl
one_found g cells block Clean (Used level) a b = absurd (false≢true (sym b.0 ∙ a))
one_found g cells block Clean Reused a b = absurd (false≢true (sym b.0 ∙ a))
one_found g cells block (Used level) Clean a b = absurd (false≢true (sym a.0 ∙ b))
one_found g cells block (Used level) (Used other) a b = ap Used (one_level g cells block level other a.1 b.1)
one_found g cells block (Used level) Reused a b = absurd (let same = one_level g cells block level (g.generations - 1) a.1 b.1 in omega (arith, same, a.2))
one_found g cells block Reused Clean a b = absurd (false≢true (sym a.0 ∙ b))
one_found g cells block Reused (Used level) a b = absurd (let same = one_level g cells block (g.generations - 1) level a.1 b.1 in omega (arith, same, b.2))
one_found g cells block Reused Reused a b = refl
one_found g cells block (Active fill) t a b = absurd a
one_found g cells block (Recycled level next) t a b = absurd a
one_found g cells block (Spare blank) t a b = absurd a
one_found g cells block s (Active fill) a b = absurd b
one_found g cells block s (Recycled level next) a b = absurd b
one_found g cells block s (Spare blank) a b = absurd b

one_free : (g : Geometry) (cells : List (List ℕ)) (a b : ℕ) → IsHighestFree g cells a → IsHighestFree g cells b → a ≡ b
one_free g cells a b first second = elim (cases_lt a b) [
  | inl less ↦ absurd (let some = first.highest b less second.within in omega (arith, some, second.free))
  | inr more ↦ elim (cases_lt b a) [
    | inl less ↦ absurd (let some = second.highest a less first.within in omega (arith, some, first.free))
    | inr same ↦ omega (arith, more, same)
  ]
]

-- ---- the book

module _ (g : Geometry) (cells : List (List ℕ)) (v w : BookValue) (first : IsMounted g cells v) (second : IsMounted g cells w) where
  same_spare : second.spare ≡ first.spare
  same_spare = one_free g cells second.spare first.spare second.free first.free

  state_inside : (block : ℕ) → block < g.blocks → state_at v block ≡ state_at w block
  state_inside block inside = elim (cases_eq block first.spare) [
    | inl same ↦ subst (λ b. state_at v b ≡ state_at w b) (sym same)
        (first.spare_state ∙ subst (λ b. Spare (is_block_blank g cells b) ≡ state_at w b) same_spare (sym second.spare_state))
    | inr apart ↦ one_found g cells block (state_at v block) (state_at w block) (first.found block inside apart) (second.found block inside (λ e. apart (e ∙ same_spare)))
  ]

  pub one_state : (block : ℕ) → state_at v block ≡ state_at w block
  one_state block = elim (cases_lt block g.blocks) [
    | inl inside ↦ state_inside block inside
    | inr past ↦
        get_or_past v.states block Clean (subst (λ n. n ≤ block) (sym first.sizes.blocks) past)
        ∙ sym (get_or_past w.states block Clean (subst (λ n. n ≤ block) (sym second.sizes.blocks) past))
  ]

  pub one_live : (block : ℕ) → block < g.blocks → live_at v block ≡ live_at w block
  one_live block inside = first.live block inside ∙ sym (second.live block inside)

  pub one_order : v.order ≡ w.order
  one_order = first.order ∙ ((λ i. filter (λ block. is_closed (one_state block i)) (range_with_len 0 g.blocks)) ∙ sym second.order)

-- ---- the next seq

not_above : (g : Geometry) (cells : List (List ℕ)) (low high : ℕ) → IsMountedSeq g cells low → IsMountedSeq g cells high → high ≤ low
not_above g cells low high first second = elim second.reached [
  | inl one ↦ omega (arith, one, first.some)
  | inr from ↦ (let most = first.greatest from.0 from.1 from.2 in omega (arith, most, from.3))
]

pub one_seq : (g : Geometry) (cells : List (List ℕ)) (a b : ℕ) → IsMountedSeq g cells a → IsMountedSeq g cells b → a ≡ b
one_seq g cells a b first second = omega (arith, not_above g cells a b first second, not_above g cells b a second first)
