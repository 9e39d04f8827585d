-- While pages are read, what a record's taking over changes keeps the tables as a scan has them.
use Rattle.std.proofs.Common.{◌≡◌, inl, inr, ℕ, ◌+◌, ◌/◌, ◌<◌, Bool, true, false, length, get_or, if◌then◌else◌, Option, Some, None, refl, sym, ap, ◌∙◌, subst, arith, get_or-set_same}
use Rattle.std.proofs.Common.{get_or-set_other}
use Rattle.std.specs.List.{count_by}
use Rattle.std.proofs.lemmas.Bool.{cases_eq, cond-false}
use Rattle.std.proofs.lemmas.List.{length-set}
use Rattle.std.proofs.lemmas.Option.{same_Some}
use Rattle.zero_count.specs.declared.Header.{Header}
use Rattle.sector_map.specs.declared.entry.Entry.{Entry}
use Rattle.sector_map.specs.declared.entry.Entry.TheVariants.{Held, Zeros}
use Rattle.sector_map.specs.Entry.{place_of, entry_at}
use Rattle.block_state.specs.State.{is_closed}
use Rattle.block_state.specs.declared.state.State.TheVariants.{Clean}
use Rattle.block_state.specs.Book.{BookValue, state_at, live_at, with_live}
use Rattle.page_codec.specs.declared.place.Place.{Place}
use Rattle.page_codec.specs.Sectors.{says_zeros}
use Rattle.page_codec.specs.TrueBook.{entry_of}
use Rattle.mount_scan.specs.declared.tables.Tables.{Tables}
use Rattle.mount_scan.specs.Noted.{is_entry_in, forgotten, counted, IsReading, SameBlocks, TakesOver, Stays, MoreAt}
use Rattle.mount_scan.proofs.Reading.{ones, one_at, live_taken, forgotten_live, counted_live, forgotten_long, some_counted}

same_with_live : (v : BookValue) (b n : ℕ) → state_at v b ≡ Clean → SameBlocks v (with_live v b n)
same_with_live v b n clean = record {
  states = refl;
  order = cond-false (is_closed (state_at v b)) _ _ (ap is_closed clean);
  counts = length-set v.live b n;
  pages = refl;
  units = refl;
  generations = refl;
}

pub same_refl : (v : BookValue) → SameBlocks v v
same_refl v = record { states = refl; order = refl; counts = refl; pages = refl; units = refl; generations = refl }

pub same_trans : (u v w : BookValue) → SameBlocks u v → SameBlocks v w → SameBlocks u w
same_trans u v w first second = record {
  states = second.states ∙ first.states;
  order = second.order ∙ first.order;
  counts = second.counts ∙ first.counts;
  pages = second.pages ∙ first.pages;
  units = second.units ∙ first.units;
  generations = second.generations ∙ first.generations;
}

same_forgotten : (v : BookValue) (former : Option Entry) → ((b : ℕ) → state_at v b ≡ Clean) → SameBlocks v (forgotten v former)
same_forgotten v None clean = same_refl v
same_forgotten v (Some entry) clean = let b : ℕ = (place_of entry).page / v.pages in same_with_live v b _ (clean b)

states_forgotten : (v : BookValue) (former : Option Entry) → (forgotten v former).states ≡ v.states
states_forgotten v None = refl
states_forgotten v (Some entry) = refl

same_counted : (v : BookValue) (former : Option Entry) (at : ℕ) → ((b : ℕ) → state_at v b ≡ Clean) → SameBlocks v (counted (forgotten v former) at)
same_counted v former at clean =
    same_trans v (forgotten v former) (counted (forgotten v former) at) (same_forgotten v former clean)
    (same_with_live (forgotten v former) at _ (ap (λ s. get_or s at Clean) (states_forgotten v former) ∙ clean at))

-- the entry of a record names its page
entry_page : (place : Place) (header : Header) (entry : Entry) → entry_of (Some (record { place = place; header = header })) ≡ Some entry → (place_of entry).page ≡ place.page
entry_page place header entry = at (says_zeros header) where
  at : (t : Bool) → (if t then Some (Zeros (record { page = place.page; slot = place.slot })) else Some (Held (record { page = place.page; slot = place.slot }))) ≡ Some entry
      → (place_of entry).page ≡ place.page
  at true e = ap (λ n. (place_of n).page) (sym (same_Some _ entry e))
  at false e = ap (λ n. (place_of n).page) (sym (same_Some _ entry e))

entry_ones : (pages block : ℕ) (place : Place) (header : Header) → ones pages block (entry_of (Some (record { place = place; header = header }))) ≡ one_at (place.page / pages) block
entry_ones pages block place header = at (says_zeros header) where
  at : (t : Bool) → ones pages block (if t then Some (Zeros (record { page = place.page; slot = place.slot })) else Some (Held (record { page = place.page; slot = place.slot })))
      ≡ one_at (place.page / pages) block
  at true = refl
  at false = refl

module _ (old new : Tables) (place : Place) (header : Header) (reading : IsReading old) (in_map : header.sector < length old.map)
    (in_states : place.page / old.book.pages < length old.book.states) where
  in_live : place.page / old.book.pages < length old.book.live
  in_live = subst (λ n. place.page / old.book.pages < n) (sym reading.lives) in_states

  pub same_taken : TakesOver old new place header → SameBlocks old.book new.book
  same_taken t = subst (SameBlocks old.book) (sym t.book) (same_counted old.book (entry_at old.map header.sector) (place.page / old.book.pages) reading.clean)

  pub room_taken : TakesOver old new place header → MoreAt (place.page / old.book.pages) 1 old new
  room_taken t block =
      let former : Option Entry = entry_at old.map header.sector in
      let at : ℕ = place.page / old.book.pages in
      let now : live_at new.book block ≡ live_at (counted (forgotten old.book former) at) block = ap (λ v. live_at v block) t.book in
      let first : live_at (forgotten old.book former) block + ones old.book.pages block former ≡ live_at old.book block
      = forgotten_live old.book former block (λ e is. (
        subst (λ n. (place_of e).page / old.book.pages < n) (sym reading.lives) (reading.within header.sector e is),
        subst (λ n. 0 < n) (sym (reading.live ((place_of e).page / old.book.pages))) (some_counted old.book.pages old.map header.sector e is),
      )) in
      let then' : live_at (counted (forgotten old.book former) at) block ≡ live_at (forgotten old.book former) block + one_at at block
      = counted_live (forgotten old.book former) at block (subst (λ n. at < n) (sym (forgotten_long old.book former)) in_live) in
      omega (arith, now, first, then')

  pub reading_taken : TakesOver old new place header → IsReading new
  reading_taken t =
      let same = same_taken t in
      let entry : Option Entry = entry_of (Some (record { place = place; header = header })) in
      let at : ℕ = place.page / old.book.pages in
      record {
        seqs = ap length t.seqs ∙ (length-set old.seqs.items header.sector header.seq ∙ (reading.seqs ∙ sym (ap length t.map ∙ length-set old.map header.sector entry)));
        found = ap (λ f. length f.items) t.found ∙ (reading.found ∙ sym (ap length same.states));
        lives = same.counts ∙ (reading.lives ∙ sym (ap length same.states));
        some_pages = subst (λ n. 0 < n) (sym same.pages) reading.some_pages;
        live = λ block.
            ap (λ v. live_at v block) t.book
            ∙ (live_taken old.book old.map header.sector at entry block in_map in_live reading.live
            (λ e is. subst (λ n. (place_of e).page / old.book.pages < n) (sym reading.lives) (reading.within header.sector e is)) (entry_ones old.book.pages block place header)
            ∙ (ap (count_by (is_entry_in old.book.pages block)) (sym t.map) ∙ ap (λ p. count_by (is_entry_in p block) new.map) (sym same.pages)));
        within = λ sector e is.
            subst (λ p. (place_of e).page / p < length new.book.states) (sym same.pages)
            (subst (λ s. (place_of e).page / old.book.pages < length s) (sym same.states) (elim (cases_eq sector header.sector) [
              | inl own ↦ (
                  let taken : entry ≡ Some e =
                  sym (get_or-set_same old.map header.sector entry None in_map) ∙ (ap (λ m. entry_at m header.sector) (sym t.map) ∙ subst (λ s. entry_at new.map s ≡ Some e) own is) in
                  subst (λ p. p / old.book.pages < length old.book.states) (sym (entry_page place header e taken)) in_states)
              | inr other ↦ reading.within sector e (sym (get_or-set_other old.map header.sector sector entry None other) ∙ (ap (λ m. entry_at m sector) (sym t.map) ∙ is))
            ]));
        clean = λ block. ap (λ s. get_or s block Clean) same.states ∙ reading.clean block;
        order = same.order ∙ reading.order;
      }

-- the same of tables of which nothing changes but the next seq
pub reading_stays : (old new : Tables) → Stays old new → IsReading old → IsReading new
reading_stays old new s reading = record {
  seqs = ap (λ f. length f.items) s.seqs ∙ (reading.seqs ∙ sym (ap length s.map));
  found = ap (λ f. length f.items) s.found ∙ (reading.found ∙ sym (ap (λ b. length b.states) s.book));
  lives = subst (λ b. length b.live ≡ length b.states) (sym s.book) reading.lives;
  some_pages = subst (λ b. 0 < b.pages) (sym s.book) reading.some_pages;
  live = λ block. subst (λ b. live_at b block ≡ count_by (is_entry_in b.pages block) new.map) (sym s.book) (reading.live block ∙ ap (count_by (is_entry_in old.book.pages block)) (sym s.map));
  within = λ sector e is. subst (λ b. (place_of e).page / b.pages < length b.states) (sym s.book) (reading.within sector e (ap (λ m. entry_at m sector) (sym s.map) ∙ is));
  clean = λ block. subst (λ b. state_at b block ≡ Clean) (sym s.book) (reading.clean block);
  order = ap (λ b. b.order) s.book ∙ reading.order;
}
