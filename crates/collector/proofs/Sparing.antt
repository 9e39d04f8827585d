-- Where only the Spare changes, and no live record, the tables stay true.
use Rattle.std.proofs.Common.{◌≡◌, ◌≢◌, inl, inr, ℕ, Bool, true, List, map, Option, Some, sym, ap, ◌∙◌, subst, length-set}
use Rattle.std.specs.List.{range_with_len}
use Rattle.std.proofs.lemmas.Bool.{cases_eq, false≢true, eq-eqb}
use Rattle.sector_map.specs.declared.entry.Entry.{Entry}
use Rattle.block_state.specs.declared.state.State.TheVariants.{Spare}
use Rattle.block_state.specs.State.{is_spare}
use Rattle.block_state.specs.Book.{BookValue, IsSpare, HasOneSpare, state_at, with_state}
use Rattle.page_codec.specs.Geometry.{Geometry, block_of}
use Rattle.page_codec.specs.Records.{Placed, live_record}
use Rattle.page_codec.specs.Sound.{live_count, stands_in}
use Rattle.page_codec.specs.TrueBook.{IsTrue as IsTrueTo, IsTrueState, IsTrueSpare, IsNextSeq, is_block_blank, live_map, entry_of}
use Rattle.page_codec.proofs.SoundErase.{live_count_same}
use Rattle.collector.proofs.Books.{state_here, state_there, valid_state, spare_within}
use Rattle.collector.proofs.Counting.{none_passes}
use Rattle.collector.proofs.Committed.{live_so}
use Rattle.collector.proofs.Elsewhere.{OnlyIn}
use Rattle.collector.proofs.States.{state_stays}

-- the same live records, the same map
pub live_map_same : (g : Geometry) (old new : List (List ℕ)) → ((sector : ℕ) → live_record g new sector ≡ live_record g old sector) → live_map g new ≡ live_map g old
unfolding live_map
live_map_same g old new same = λ i. map (λ sector. entry_of (same sector i)) (range_with_len 0 g.sectors)

-- in a block that counts no live record none stands
pub none_stands : (g : Geometry) (cells : List (List ℕ)) (block : ℕ) → live_count g cells block ≡ 0 → (sector : ℕ) (x : Placed) → live_record g cells sector ≡ Some x → block_of g x.place.page ≢ block
unfolding live_count
none_stands g cells block none sector x e here = false≢true (
    sym (none_passes (λ s. stands_in g block (live_record g cells s)) g.sectors none sector (live_so g cells sector x e).within)
    ∙ (ap (stands_in g block) e ∙ eq-eqb _ _ here))

-- the Spare stays the one Spare, marked as it may be
pub spare_remarked : (v : BookValue) (b : ℕ) (marked : Bool) → IsSpare v b → HasOneSpare v → HasOneSpare (with_state v b (Spare marked))
spare_remarked v b marked is (spare, is_one, only) = (
  b,
  ap is_spare (state_here v b (Spare marked) (spare_within v b is)),
  λ c c_is. elim (cases_eq c b) [
    | inl same ↦ same
    | inr other ↦ only c (sym (ap is_spare (state_there v b c (Spare marked) other)) ∙ c_is) ∙ sym (only b is)
  ],
)

module _ (g : Geometry) (old new : List (List ℕ)) (book : BookValue) (table : List (Option Entry)) (seq now spare : ℕ) (marked : Bool) where
  pub spare_changes : IsTrueTo g old book table seq → IsSpare book spare → OnlyIn g old new spare
      → ((sector : ℕ) → live_record g new sector ≡ live_record g old sector) → (marked ≡ true → is_block_blank g new spare ≡ true) → live_count g old spare ≡ 0 → IsNextSeq g new now
      → IsTrueTo g new (with_state book spare (Spare marked)) table now
  spare_changes t is others same blank free next = record {
    live_counts = λ block within. t.live_counts block within ∙ sym (live_count_same g old new same block);
    entries = t.entries ∙ sym (live_map_same g old new same);
    one_spare = spare_remarked book spare marked is t.one_spare;
    states = λ block within. elim (cases_eq block spare) [
      | inl here ↦ subst (IsTrueState g new block) (sym (ap (state_at (with_state book spare (Spare marked))) here ∙ state_here book spare (Spare marked) (spare_within book spare is)))
          (subst (λ (b : ℕ). IsTrueSpare g new b marked) (sym here) (record { free = live_count_same g old new same spare ∙ free; blank = blank }))
      | inr other ↦ subst (IsTrueState g new block) (sym (state_there book spare block (Spare marked) other))
          (state_stays g old new block (record {
            pages = λ page here. others page (λ e. other (sym here ∙ e));
            live = λ sector placed e here. sym (same sector) ∙ e;
            count = live_count_same g old new same block;
          }) (state_at book block) (t.states block within))
    ];
    kept = valid_state book spare (Spare marked) t.kept (spare_within book spare is) tt (λ active. absurd (false≢true active));
    next_seq = next;
    sizes = record {
      blocks = length-set book.states spare (Spare marked) ∙ t.sizes.blocks;
      pages = t.sizes.pages;
      units = t.sizes.units;
      generations = t.sizes.generations;
    };
  }
