-- Once all slots are scanned and each block has its state, the book is that of the mount rule.
use Rattle.std.proofs.Common.{◌≡◌, inl, inr, ℕ, ◌<◌, ◌≤◌, List, length, ◌==◌, Some, refl, sym, ap, ◌∙◌, subst, arith}
use Rattle.std.specs.Prelude.{slice_index_or}
use Rattle.std.specs.List.{filter, range_with_len}
use Rattle.std.proofs.lemmas.Bool.{cases_lt, eq-eqb, ne_eqb}
use Rattle.std.proofs.lemmas.List.{get_or_past}
use Rattle.block_state.specs.declared.state.State.{State}
use Rattle.block_state.specs.declared.state.State.TheVariants.{Clean, Active, Used, Recycled, Reused, Spare}
use Rattle.block_state.specs.State.{is_closed}
use Rattle.block_state.specs.Book.{state_at, live_at}
use Rattle.page_codec.specs.Geometry.{Geometry}
use Rattle.page_codec.specs.Records.{places}
use Rattle.page_codec.specs.Sound.{live_count}
use Rattle.page_codec.specs.TrueBook.{HasSizes, is_block_blank}
use Rattle.mount_scan.specs.declared.tables.Tables.{Tables}
use Rattle.mount_scan.specs.Mounted.{IsFound, IsMounted}
use Rattle.mount_scan.specs.Noted.{IsReading, Names}
use Rattle.mount_scan.specs.Settled.{IsLastFree, Settles, settled, settled_at, is_clean}
use Rattle.mount_scan.proofs.AllSlots.{lives_are_live}

-- what the cells make a block is Clean exactly where none of them is charged
found_blank : (g : Geometry) (cells : List (List ℕ)) (block : ℕ) (found : State) → IsFound g cells block found → is_clean found ≡ is_block_blank g cells block
found_blank g cells block Clean is = sym is
found_blank g cells block (Active fill) is = absurd is
found_blank g cells block (Used level) is = sym is.0
found_blank g cells block (Recycled level next) is = absurd is
found_blank g cells block Reused is = sym is.0
found_blank g cells block (Spare blank) is = absurd is

module _ (g : Geometry) (cells : List (List ℕ)) (spare : ℕ) (old new : Tables) (sizes : HasSizes g old.book) (reading : IsReading old) (names : Names g cells (places g) old)
    (found : (block : ℕ) → block < g.blocks → IsFound g cells block (slice_index_or old.found.items block Clean)) (free : IsLastFree old.book g.blocks (Some spare))
    (settles : Settles spare old new) where
  lives : (block : ℕ) → live_at old.book block ≡ live_count g cells block
  lives block = lives_are_live g cells old block sizes.pages reading names

  within : (block : ℕ) → block < g.blocks → block < length old.book.states
  within block inside = subst (λ n. block < n) (sym sizes.blocks) inside

  settled_past : (block : ℕ) → g.blocks ≤ block → state_at new.book block ≡ settled_at old.found.items spare block
  settled_past block past =
      get_or_past new.book.states block Clean (subst (λ n. n ≤ block) (sym (settles.blocks ∙ sizes.blocks)) past)
      ∙ sym (ap (λ s. settled s (block == spare)) (get_or_past old.found.items block Clean (subst (λ n. n ≤ block) (sym (reading.found ∙ sizes.blocks)) past))
      ∙ ap (settled Clean) (ne_eqb block spare (λ e. omega (arith, free.0))))

  states : (block : ℕ) → state_at new.book block ≡ settled_at old.found.items spare block
  states block = elim (cases_lt block g.blocks) [ inl inside ↦ settles.states block (within block inside) | inr past ↦ settled_past block past ]

  pub book_is_mounted : IsMounted g cells new.book
  book_is_mounted = record {
    sizes = record {
      blocks = settles.blocks ∙ sizes.blocks;
      pages = settles.pages ∙ sizes.pages;
      units = settles.units ∙ sizes.units;
      generations = settles.generations ∙ sizes.generations;
    };
    spare = spare;
    free = record {
      within = free.0;
      free = sym (lives spare) ∙ free.1;
      highest = λ higher above inside. subst (λ n. 0 < n) (lives higher) (free.2 higher above inside);
    };
    spare_state =
        states spare ∙ (ap (settled (slice_index_or old.found.items spare Clean)) (eq-eqb spare spare refl) ∙ ap Spare (found_blank g cells spare _ (found spare free.0)));
    found = λ block inside apart.
        subst (IsFound g cells block) (sym (states block ∙ ap (settled (slice_index_or old.found.items block Clean)) (ne_eqb block spare apart))) (found block inside);
    live = λ block inside. ap (λ l. slice_index_or l block 0) settles.live ∙ lives block;
    order =
        settles.order
        ∙ (ap (λ n. filter (λ b. is_closed (settled_at old.found.items spare b)) (range_with_len 0 n)) sizes.blocks
        ∙ (λ i. filter (λ b. is_closed (sym (states b) i)) (range_with_len 0 g.blocks)));
  }
