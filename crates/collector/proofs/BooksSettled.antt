-- The book and the map after the seal, move by move.
use Rattle.std.proofs.Common.{◌≡◌, inl, inr, ℕ, ◌+◌, ◌<◌, false, List, length, slice_set, Option, Some, None, refl, sym, ap, ◌∙◌, subst, arith, length-set, get_or-set_same, get_or-set_other}
use Rattle.std.proofs.Common.{take, get_or-take}
use Rattle.std.proofs.lemmas.Bool.{cases_eq, cond-false}
use Rattle.sector_map.specs.declared.entry.Entry.{Entry}
use Rattle.sector_map.specs.Entry.{entry_at}
use Rattle.block_state.specs.State.{is_closed}
use Rattle.block_state.specs.Book.{BookValue, state_at, live_at, with_live}
use Rattle.collector.specs.declared.moves.Move.{Move}
use Rattle.collector.specs.Settles.{move_at, no_move, entry_on, NamesMoves}
use Rattle.collector.proofs.BooksAgain.{set_twice, set_same}

-- an open block's live count is set again and again
pub live_twice : (v : BookValue) (b m n : ℕ) → is_closed (state_at v b) ≡ false → with_live (with_live v b m) b n ≡ with_live v b n
live_twice v b m n open_block =
    let live : slice_set (slice_set v.live b m) b n ≡ slice_set v.live b n = set_twice v.live b m n in
    let inner : (with_live v b m).order ≡ v.order = cond-false (is_closed (state_at v b)) _ v.order open_block in
    let outer : (with_live (with_live v b m) b n).order ≡ (with_live v b m).order = cond-false (is_closed (state_at v b)) _ (with_live v b m).order open_block in
    let plain : (with_live v b n).order ≡ v.order = cond-false (is_closed (state_at v b)) _ v.order open_block in
    let order : (with_live (with_live v b m) b n).order ≡ (with_live v b n).order = outer ∙ (inner ∙ sym plain) in
    λ i. record v { live = live i; order = order i }

pub live_same : (v : BookValue) (b n : ℕ) → is_closed (state_at v b) ≡ false → live_at v b ≡ n → with_live v b n ≡ v
live_same v b n open_block is =
    let live : slice_set v.live b n ≡ v.live = ap (slice_set v.live b) (sym is) ∙ set_same v.live b 0 in
    let order : (with_live v b n).order ≡ v.order = cond-false (is_closed (state_at v b)) _ v.order open_block in
    λ i. record v { live = live i; order = order i }

pub names_none : (first : ℕ) (moves : List Move) (old : List (Option Entry)) → NamesMoves first moves 0 old old
names_none first moves old = record { long = refl; named = λ i h f. absurd (omega arith); others = λ sector f. refl }

pub names_more : (first : ℕ) (moves : List Move) (n : ℕ) (old mid : List (Option Entry)) → NamesMoves first moves n old mid → (move_at moves n).sector < length old
    → NamesMoves first moves (n + 1) old (slice_set mid (move_at moves n).sector (Some (entry_on (move_at moves n) (first + n))))
names_more first moves n old mid s within = record {
  long = length-set mid (move_at moves n).sector _ ∙ s.long;
  named = λ i h last. elim (cases_eq i n) [
    | inl same ↦ subst (λ (k : ℕ). entry_at (slice_set mid (move_at moves n).sector (Some (entry_on (move_at moves n) (first + n)))) (move_at moves k).sector
        ≡ Some (entry_on (move_at moves k) (first + k))) (sym same)
        (get_or-set_same mid (move_at moves n).sector _ None (omega (arith, within, s.long)))
    | inr apart ↦ get_or-set_other mid (move_at moves n).sector (move_at moves i).sector _ None (λ e. last n (omega (arith, h, apart)) (omega arith) (sym e))
        ∙ s.named i (omega (arith, h, apart)) (λ j k l. last j k (omega (arith, l)))
  ];
  others = λ sector none. get_or-set_other mid (move_at moves n).sector sector _ None (λ e. none n (omega arith) (sym e)) ∙ s.others sector (λ i h. none i (omega (arith, h)));
}

-- the moves that are named are the first ones of a longer list
pub names_whole : (first : ℕ) (moves : List Move) (n : ℕ) (old new : List (Option Entry)) → NamesMoves first (take n moves) n old new → NamesMoves first moves n old new
names_whole first moves n old new s = record {
  long = s.long;
  named = λ i h last. subst (λ (m : Move). entry_at new m.sector ≡ Some (entry_on m (first + i))) (same i h)
      (s.named i h (λ j after within e. last j after within (sym (ap (λ (m : Move). m.sector) (same j within)) ∙ (e ∙ ap (λ (m : Move). m.sector) (same i h)))));
  others = λ sector none. s.others sector (λ i h e. none i h (sym (ap (λ (m : Move). m.sector) (same i h)) ∙ e));
}
  where
    same : (i : ℕ) → i < n → move_at (take n moves) i ≡ move_at moves i
    same i h = get_or-take n moves i no_move h
