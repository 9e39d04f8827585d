-- What every put of a fresh record keeps, whatever its outcome: sound cells, pad cells, and that each valid header stood in its slot
-- before or was drawn.
use Rattle.std.proofs.Common.{◌≡◌, ◌≢◌, ◌⊎◌, inl, inr, ℕ, ◌+◌, ◌^◌, ◌<◌, ◌≤◌, true, false, List, Option, Some, sym, ap, ◌∙◌, arith, subst}
use Rattle.std.proofs.lemmas.Bool.{cases_eq, cases_lt, cases_Bool, eqb-true, false≢true}
use Rattle.zero_count.specs.declared.Header.{Header}
use Rattle.zero_count.specs.HeaderWord.{IsHeader}
use Rattle.cell_die.specs.DieState.{DieState, IsShaped}
use Rattle.cell_die.specs.Pads.{NoPadCharged}
use Rattle.cell_die.specs.Changes.{SameCells}
use Rattle.cell_die.specs.Counts.{Stayed}
use Rattle.cell_die.specs.Calls.{Kept}
use Rattle.cell_die.proofs.Sequences.{kept_trans}
use Rattle.spare_gate.specs.Slots.{is_gate_charged}
use Rattle.sector_map.specs.declared.entry.Entry.{Entry}
use Rattle.block_state.specs.declared.state.State.{State}
use Rattle.block_state.specs.declared.state.State.TheVariants.{Clean, Active, Used, Recycled, Reused, Spare}
use Rattle.block_state.specs.State.{is_spare}
use Rattle.block_state.specs.Book.{BookValue, state_at}
use Rattle.page_codec.specs.declared.place.Place.{Place}
use Rattle.page_codec.specs.Geometry.{Geometry, block_of, shape_of, spare_at}
use Rattle.page_codec.specs.Records.{header_in, is_copy, live_record}
use Rattle.page_codec.specs.Sound.{IsSound, live_count, stands_in}
use Rattle.page_codec.specs.Puts.{Puts, first_slot}
use Rattle.page_codec.specs.Promises.{HoldsRecord, IsFresh}
use Rattle.page_codec.specs.TrueBook.{IsTrue, IsTrueState, IsTrueActive, IsNextSeq}
use Rattle.page_codec.proofs.PutLaws.{PutsCells, header_after, put_keeps_headers, put_keeps_seqs, put_keeps_bound, put_keeps_live, put_wins}
use Rattle.page_codec.proofs.PutPads.{put_keeps_pads}
use Rattle.page_codec.proofs.PutCells.{put_cells}
use Rattle.collector.specs.Store.{Store, Holds, IsTrueStore}
use Rattle.collector.proofs.Blanks.{committed_header}
use Rattle.collector.proofs.Books.{active_within, spare_within}
use Rattle.collector.proofs.NextPage.{PutsNext, next_page, next_page_within, block_of_next, gate_before, holds_record}
use Rattle.collector.proofs.Tables.{free_stays}

-- a record that is no copy is put in a slot whose gate was not charged
pub record PutsRecord (g : Geometry) (place : Place) (h : Header) (old new : List (List ℕ)) : Type 0 where
  pub put : PutsCells g place h old new
  pub holds : HoldsRecord g place h
  pub single : is_copy h ≡ false
  pub gate : is_gate_charged (spare_at g old place.page) place.slot ≡ false
  pub fresh : IsFresh g old h

-- the next seq is greater than that of every valid header, where it is not the greatest number
pub fresh_seqs : (g : Geometry) (cells : List (List ℕ)) (seq : ℕ) → IsNextSeq g cells seq → seq < 2 ^ 62 → (place : Place) (k : Header) → header_in g cells place ≡ Some k → k.seq < seq
fresh_seqs g cells seq (inl below) small place k e = below place k e
fresh_seqs g cells seq (inr greatest) small place k e = absurd (omega arith)

-- Another block without a live record still has none, in either outcome.
pub free_after : (g : Geometry) (place : Place) (h : Header) (old new : List (List ℕ)) → PutsRecord g place h old new → (block : ℕ) → block_of g place.page ≢ block → live_count g old block ≡ 0
    → live_count g new block ≡ 0
free_after g place h old new p block apart free = free_stays g old new block (λ sector within stands. at sector stands (cases_Bool (is_gate_charged (spare_at g new place.page) place.slot))) free
  where
    own : (sector : ℕ) → is_gate_charged (spare_at g new place.page) place.slot ≡ true → stands_in g block (live_record g new sector) ≡ true → (sector ≡ h.sector) ⊎ (sector ≢ h.sector)
        → live_record g new sector ≡ live_record g old sector
    own sector charged stands (inr other) = (put_wins g place h old new p.put p.holds p.single p.gate charged (λ q k e. p.fresh q k (committed_header g old q k e))).others sector other
    own sector charged stands (inl same) =
        let there = (put_wins g place h old new p.put p.holds p.single p.gate charged (λ q k e. p.fresh q k (committed_header g old q k e))).live in
        absurd (apart (eqb-true (block_of g place.page) block (ap (stands_in g block) (sym (ap (live_record g new) same ∙ there)) ∙ stands)))

    at : (sector : ℕ) → stands_in g block (live_record g new sector) ≡ true
        → (is_gate_charged (spare_at g new place.page) place.slot ≡ true) ⊎ (is_gate_charged (spare_at g new place.page) place.slot ≡ false) → live_record g new sector ≡ live_record g old sector
    at sector stands (inl charged) = own sector charged stands (cases_eq sector h.sector)
    at sector stands (inr uncharged) = put_keeps_live g place h old new p.put p.gate uncharged sector

-- Sound cells stay sound, where some block has no live record afterwards.
pub put_keeps_sound : (g : Geometry) (place : Place) (h : Header) (old new : List (List ℕ)) → PutsCells g place h old new → IsHeader h → IsFresh g old h → h.seq < 2 ^ 62 + 2 ^ 20
    → (block : ℕ) × (block < g.blocks) × (live_count g new block ≡ 0) → IsSound g old → IsSound g new
put_keeps_sound g place h old new p header fresh small free sound = record {
  below_valid = put_keeps_headers g place h old new p header sound.below_valid;
  seqs_differ = put_keeps_seqs g place h old new p header fresh sound.seqs_differ;
  one_free = free;
  small_seqs = put_keeps_bound g place h old new (2 ^ 62 + 2 ^ 20) p header small sound.small_seqs;
}

-- what a put of the seq that was drawn keeps
pub put_holds : (g : Geometry) (place : Place) (h : Header) (old new : Store) → PutsCells g place h old.die.cells new.die.cells → IsHeader h → IsFresh g old.die.cells h → Kept old.die new.die
    → h.seq ≡ old.seq → new.seq ≡ old.seq + 1 → old.seq < 2 ^ 62 + 2 ^ 20 → (block : ℕ) × (block < g.blocks) × (live_count g new.die.cells block ≡ 0) → Holds g old new
put_holds g place h old new p header fresh kept drawn next small free = record {
  kept = kept;
  pads = put_keeps_pads g place h old.die.cells new.die.cells p;
  sound = put_keeps_sound g place h old.die.cells new.die.cells p header fresh (omega arith) free;
  seqs = omega arith;
  drew = λ _ other k e. elim (header_after g place h old.die.cells new.die.cells p header other k e) [
    | inl stood ↦ inl stood
    | inr own ↦ (let is : k.seq ≡ h.seq = ap (λ (x : Header). x.seq) own.1 in inr (omega arith, omega arith))
  ];
}

-- ---- no change, and calls before that change no cell

pub same_holds : (g : Geometry) (old new : Store) → Kept old.die new.die → SameCells old.die new.die → new.seq ≡ old.seq → Holds g old new
same_holds g old new kept same seq = record {
  kept = kept;
  pads = λ none. subst (NoPadCharged (shape_of g)) (sym same.cells) none;
  sound = λ sound. subst (IsSound g) (sym same.cells) sound;
  seqs = omega arith;
  drew = λ _ place k e. inl (ap (λ (cells : List (List ℕ)). header_in g cells place) (sym same.cells) ∙ e);
}

pub holds_after : (g : Geometry) (old new : Store) (mid : DieState) → Kept old.die mid → SameCells old.die mid → mid.change_faults ≡ old.die.change_faults → Holds g (record old { die = mid }) new
    → Holds g old new
holds_after g old new mid kept same stayed rest = record {
  kept = kept_trans kept rest.kept;
  pads = λ none. rest.pads (subst (NoPadCharged (shape_of g)) (sym same.cells) none);
  sound = λ sound. rest.sound (subst (IsSound g) (sym same.cells) sound);
  seqs = rest.seqs;
  drew = λ when place k e. elim (rest.drew (elim when [
    | inl sound ↦ inl (subst (IsSound g) (sym same.cells) sound)
    | inr still ↦ inr (subst (λ (n : ℕ). Stayed n new.die.change_faults) (sym stayed) still)
  ]) place k e) [
    | inl stood ↦ inl (ap (λ (cells : List (List ℕ)). header_in g cells place) (sym same.cells) ∙ stood)
    | inr drawn ↦ inr drawn
  ];
}

-- ---- the next page of the Active block

-- a put on the next page of the Active block, as a call leaves it
pub next_put : {Content : (ℕ → List ℕ) → Type 0} (g : Geometry) (block fill : ℕ) (h : Header) (old new : DieState) (book : BookValue) (table : List (Option Entry)) (seq : ℕ)
    → Puts Content 1 (first_slot (next_page g block fill)) h old new → old.shape ≡ shape_of g → new.shape ≡ old.shape → IsShaped old → IsShaped new
    → IsTrue g old.cells book table seq → state_at book block ≡ Active fill → seq < 2 ^ 62 → h.seq ≡ seq → IsHeader h → h.sector < g.sectors → is_copy h ≡ false
    → PutsNext g block fill h old.cells new.cells
next_put g block fill h old new book table seq p shape same shaped shaped_new t active small drawn header sector single = record {
  block_in = within;
  slots = slots;
  active = is_active_block;
  header = header;
  sector = sector;
  single = single;
  fresh = λ place k e. subst (λ (n : ℕ). k.seq < n) (sym drawn) (fresh_seqs g old.cells seq t.next_seq small place k e);
  put = put_cells g (first_slot (next_page g block fill)) h old new p shape same shaped shaped_new (next_page_within g block fill within is_active_block.room) (omega arith);
  only = λ page apart. p.others page (elim (cases_lt page (next_page g block fill)) [ inl below ↦ inl below | inr above ↦ inr (omega (arith, apart)) ]);
}
  where
    within : block < g.blocks
    within = omega (arith, active_within book block fill active, t.sizes.blocks)

    slots : 1 ≤ g.generations
    slots = omega (arith, t.kept.two_generations, t.sizes.generations)

    is_active_block : IsTrueActive g old.cells block fill
    is_active_block = subst (IsTrueState g old.cells block) active (t.states block within)

-- the Spare block has no live record, and is not the Active one
pub free_spare : (g : Geometry) (cells : List (List ℕ)) (book : BookValue) (table : List (Option Entry)) (seq block fill : ℕ) → IsTrue g cells book table seq → state_at book block ≡ Active fill
    → (spare : ℕ) × (spare < g.blocks) × (spare ≢ block) × (live_count g cells spare ≡ 0)
free_spare g cells book table seq block fill t active = (spare, within, apart, free (state_at book spare) t.one_spare.1 (t.states spare within))
  where
    spare : ℕ
    spare = t.one_spare.0

    within : t.one_spare.0 < g.blocks
    within = omega (arith, spare_within book t.one_spare.0 t.one_spare.1, t.sizes.blocks)

    apart : t.one_spare.0 ≢ block
    apart same = false≢true (sym (ap is_spare active) ∙ (ap (λ (b : ℕ). is_spare (state_at book b)) (sym same) ∙ t.one_spare.1))

    free : (s : State) → is_spare s ≡ true → IsTrueState g cells t.one_spare.0 s → live_count g cells t.one_spare.0 ≡ 0
    free (Spare marked) is is_true = is_true.free
    free Clean is is_true = absurd (false≢true is)
    free (Active n) is is_true = absurd (false≢true is)
    free (Used n) is is_true = absurd (false≢true is)
    free (Recycled n m) is is_true = absurd (false≢true is)
    free Reused is is_true = absurd (false≢true is)

module _ (g : Geometry) (block fill : ℕ) (h : Header) (old new : List (List ℕ)) (p : PutsNext g block fill h old new) where
  pub next_record : PutsRecord g (first_slot (next_page g block fill)) h old new
  next_record = record { put = p.put; holds = holds_record g block fill h old new p; single = p.single; gate = gate_before g block fill h old new p; fresh = p.fresh }

-- What a put on the next page of the Active block keeps, in either outcome.
pub next_holds : (g : Geometry) (block fill : ℕ) (h : Header) (old new : Store) → PutsNext g block fill h old.die.cells new.die.cells → Kept old.die new.die
    → IsTrueStore g old → state_at old.book block ≡ Active fill → old.seq < 2 ^ 62 → h.seq ≡ old.seq → new.seq ≡ old.seq + 1 → Holds g old new
next_holds g block fill h old new p kept t active small drawn next =
    let free = free_spare g old.die.cells old.book old.table old.seq block fill t active in
    put_holds g (first_slot (next_page g block fill)) h old new p.put p.header p.fresh kept drawn next (omega arith) (
      free.0,
      free.1,
      free_after g (first_slot (next_page g block fill)) h old.die.cells new.die.cells (next_record g block fill h old.die.cells new.die.cells p) free.0
          (λ e. free.2 (sym e ∙ block_of_next g block fill p.active.room)) free.3,
    )
