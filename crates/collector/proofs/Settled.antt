-- After the seal the tables are true: the map names the copies, the Spare is Active with them, and the victim is the Spare.
use Rattle.std.proofs.Common.{◌≡◌, ◌≢◌, inl, inr, ℕ, ◌+◌, ◌*◌, ◌<◌, Bool, true, false, List, length, if◌then◌else◌, Option, Some, None, refl, sym, ap, ◌∙◌, subst, arith, length-set}
use Rattle.std.proofs.lemmas.Bool.{cases_eq, cases_lt, cases_Bool, false≢true}
use Rattle.std.proofs.lemmas.List.{ext_get_or}
use Rattle.striped.specs.Meaning.{Decoding}
use Rattle.sector_map.specs.declared.entry.Entry.{Entry}
use Rattle.sector_map.specs.declared.entry.Entry.TheVariants.{Held, Zeros}
use Rattle.sector_map.specs.Entry.{entry_at}
use Rattle.block_state.specs.declared.state.State.TheVariants.{Active, Spare}
use Rattle.block_state.specs.State.{is_spare, is_closed}
use Rattle.block_state.specs.Book.{BookValue, IsValid, IsSpare, HasOneSpare, state_at, live_at, with_state, with_live}
use Rattle.page_codec.specs.Geometry.{Geometry}
use Rattle.page_codec.specs.Records.{Placed, live_record}
use Rattle.page_codec.specs.Sectors.{says_zeros}
use Rattle.page_codec.specs.Sound.{stands_in, live_count}
use Rattle.page_codec.specs.TrueBook.{IsTrue as IsTrueTo, IsTrueState, IsTrueActive, IsTrueSpare, live_map, entry_of}
use Rattle.collector.specs.declared.moves.Move.{Move}
use Rattle.collector.specs.Collections.{copy_of, nth}
use Rattle.collector.specs.Effects.{sealed}
use Rattle.collector.specs.Inside.{Inside, Begun}
use Rattle.collector.specs.Settles.{move_of, move_at, entry_on, NamesMoves, settled}
use Rattle.collector.specs.Store.{Store}
use Rattle.collector.proofs.BlankPages.{blank_slot}
use Rattle.collector.proofs.Books.{state_here, state_there, live_here, live_there}
use Rattle.collector.proofs.BooksAgain.{state_twice}
use Rattle.collector.proofs.Committed.{live_so}
use Rattle.collector.proofs.Named.{live_entry, live_map_long}
use Rattle.collector.proofs.Reaching.{spare_is, fresh_now}
use Rattle.collector.proofs.Sealing.{Seals, one_each, moved, others_live, header_stays, victim_free, spare_count, other_count, other_stays, spare_blank, spare_slot}
use Rattle.collector.proofs.States.{state_stays, unit_in_block}

-- the spare's mark before the seal does not matter
pub settled_again : (v : BookValue) (victim spare n : ℕ) (marked : Bool) → spare < length v.states → is_closed (state_at v spare) ≡ false
    → settled (with_state v spare (Spare marked)) victim spare n ≡ settled v victim spare n
settled_again v victim spare n marked within open_block =
    ap (λ (w : BookValue). with_state (with_live (with_live w spare n) victim 0) victim (Spare false)) (state_twice v spare (Spare marked) (Active n) within open_block refl refl)

-- ---- the book

module _ (book : BookValue) (victim spare n : ℕ) (apart : victim ≢ spare) (in_victim : victim < length book.states) (in_spare : spare < length book.states)
    (counts : length book.live ≡ length book.states) where
  active : BookValue
  active = with_state book spare (Active n)

  pub settled_victim : state_at (settled book victim spare n) victim ≡ Spare false
  settled_victim = state_here (with_live (with_live (with_state book spare (Active n)) spare n) victim 0) victim (Spare false) (omega (arith, in_victim, length-set book.states spare (Active n)))

  pub settled_spare : state_at (settled book victim spare n) spare ≡ Active n
  settled_spare = state_there (with_live (with_live (with_state book spare (Active n)) spare n) victim 0) victim spare (Spare false) (λ e. apart (sym e)) ∙ state_here book spare (Active n) in_spare

  pub settled_other : (block : ℕ) → block ≢ victim → block ≢ spare → state_at (settled book victim spare n) block ≡ state_at book block
  settled_other block no_victim no_spare =
      state_there (with_live (with_live (with_state book spare (Active n)) spare n) victim 0) victim block (Spare false) no_victim ∙ state_there book spare block (Active n) no_spare

  pub live_of_victim : live_at (settled book victim spare n) victim ≡ 0
  live_of_victim = live_here (with_live (with_state book spare (Active n)) spare n) victim 0 (omega (arith, in_victim, counts, length-set book.live spare n))

  pub live_of_spare : live_at (settled book victim spare n) spare ≡ n
  live_of_spare =
      live_there (with_live (with_state book spare (Active n)) spare n) victim spare 0 (λ e. apart (sym e)) ∙ live_here (with_state book spare (Active n)) spare n (omega (arith, in_spare, counts))

  pub live_of_other : (block : ℕ) → block ≢ victim → block ≢ spare → live_at (settled book victim spare n) block ≡ live_at book block
  live_of_other block no_victim no_spare =
      live_there (with_live (with_state book spare (Active n)) spare n) victim block 0 no_victim ∙ live_there (with_state book spare (Active n)) spare block n no_spare

  pub settled_one : IsSpare book spare → HasOneSpare book → HasOneSpare (settled book victim spare n)
  settled_one is (one, one_is, only) = (
    victim,
    ap is_spare settled_victim,
    λ c c_is. elim (cases_eq c victim) [
      | inl same ↦ same
      | inr no_victim ↦ elim (cases_eq c spare) [
        | inl same ↦ absurd (false≢true (sym (ap is_spare (ap (state_at (settled book victim spare n)) same ∙ settled_spare)) ∙ c_is))
        | inr no_spare ↦ absurd (no_spare (only c (sym (ap is_spare (settled_other c no_victim no_spare)) ∙ c_is) ∙ sym (only spare is)))
      ]
    ],
  )

-- ---- the tables

-- What is known once the seal is charged and the moves are named.
pub record Settles (g : Geometry) (d : Decoding) (victim spare : ℕ) (start now : Store) (new : List (List ℕ)) (records : List Placed) (moves : List Move) (table : List (Option Entry)) : Type 0 where
  pub begun : Begun g victim spare start
  pub inside : Inside g d spare start now records
  pub seals : Seals g d victim spare start.seq start.die.cells now.die.cells new records
  pub moved_to : (i : ℕ) → i < length records → move_at moves i ≡ move_of (nth records i)
  pub names : NamesMoves (spare * g.pages) moves (length records) now.table table
  pub some : 0 < length records
  pub count : length records ≡ live_at start.book victim

module _ (g : Geometry) (d : Decoding) (victim spare : ℕ) (start now : Store) (new : List (List ℕ)) (records : List Placed) (moves : List Move) (table : List (Option Entry))
    (s : Settles g d victim spare start now new records moves table) where
  in_victim : victim < length start.book.states
  in_victim = omega (arith, s.begun.victim_there, s.begun.tables.sizes.blocks)

  in_spare : spare < length start.book.states
  in_spare = omega (arith, s.begun.spare_there, s.begun.tables.sizes.blocks)

  n : ℕ
  n = length records

  same_settled : settled now.book victim spare (length records) ≡ settled start.book victim spare (length records)
  same_settled = elim s.inside.book [
    | inl unmarked ↦ ap (λ (v : BookValue). settled v victim spare (length records)) unmarked.0
    | inr marked ↦ ap (λ (v : BookValue). settled v victim spare (length records)) marked
        ∙ settled_again start.book victim spare (length records) false in_spare (ap is_closed s.begun.is_spare)
  ]

  -- the book is that of the rule
  pub book_is : settled now.book victim spare (length records) ≡ sealed start.book victim spare
  book_is = same_settled ∙ ap (settled start.book victim spare) s.count

  -- ---- the map

  sector_of : (i : ℕ) → i < length records → (move_at moves i).sector ≡ (nth records i).header.sector
  sector_of i h = ap (λ (m : Move). m.sector) (s.moved_to i h)

  entry_same : (x : Placed) (i : ℕ) → Some (entry_on (move_of x) (spare * g.pages + i)) ≡ entry_of (Some (copy_of g spare start.seq x i))
  entry_same x i = at (says_zeros x.header)
    where
      at : (t : Bool) → Some (if t then Zeros (record { page = spare * g.pages + i; slot = 0 }) else Held (record { page = spare * g.pages + i; slot = 0 }))
          ≡ entry_of (Some (record { place = record { page = spare * g.pages + i; slot = 0 }; header = record { sector = x.header.sector; seq = start.seq + i; kind = if t then 4 else 2 } }))
      at true = refl
      at false = refl

  entry_at_new : (sector : ℕ) → sector < g.sectors → entry_at table sector ≡ entry_of (live_record g new sector)
  entry_at_new sector within = each (live_record g start.die.cells sector) refl
    where
      kept : stands_in g victim (live_record g start.die.cells sector) ≡ false → entry_at table sector ≡ entry_of (live_record g new sector)
      kept not = s.names.others sector (λ i h same. false≢true (sym not
          ∙ (ap (λ (t : ℕ). stands_in g victim (live_record g start.die.cells t)) (sym same ∙ sector_of i h)
          ∙ (ap (stands_in g victim) (s.seals.are_live.live i h) ∙ s.seals.are_live.inside i h))))
          ∙ (ap (λ (t : List (Option Entry)). entry_at t sector) (s.inside.table ∙ s.begun.tables.entries)
          ∙ (live_entry g start.die.cells sector within
          ∙ ap entry_of (sym (others_live g d victim spare start.seq start.die.cells now.die.cells new records s.seals sector not))))

      each : (o : Option Placed) → live_record g start.die.cells sector ≡ o → entry_at table sector ≡ entry_of (live_record g new sector)
      each None e = kept (ap (stands_in g victim) e)
      each (Some x) e = elim (cases_Bool (stands_in g victim (Some x))) [
        | inr not ↦ kept (ap (stands_in g victim) e ∙ not)
        | inl is ↦ (
            let m = moved g d victim spare start.seq start.die.cells now.die.cells new records s.seals sector x e is in
            let here : (move_at moves m.0).sector ≡ sector = sector_of m.0 m.1 ∙ (ap (λ (z : Placed). z.header.sector) m.2 ∙ (live_so g start.die.cells sector x e).of_sector) in
            ap (entry_at table) (sym here)
            ∙ (s.names.named m.0 m.1 (λ j after within same. omega (
              arith,
              after,
              one_each g d victim spare start.seq start.die.cells now.die.cells new records s.seals j m.0 within m.1 (sym (sector_of j within) ∙ (same ∙ sector_of m.0 m.1)),
            ))
            ∙ (ap (λ (mv : Move). Some (entry_on mv (spare * g.pages + m.0))) (s.moved_to m.0 m.1)
            ∙ (entry_same (nth records m.0) m.0 ∙ ap entry_of (sym m.3)))))
      ]

  map_is : table ≡ live_map g new
  map_is = ext_get_or None table (live_map g new) (long ∙ sym (live_map_long g new)) (λ i h.
      let within : i < g.sectors = omega (arith, h, long) in
      entry_at_new i within ∙ sym (live_entry g new i within))
    where
      long : length table ≡ g.sectors
      long = s.names.long ∙ (ap (length {A = Option Entry}) (s.inside.table ∙ s.begun.tables.entries) ∙ live_map_long g start.die.cells)

  -- ---- the blocks

  spare_active : IsTrueActive g new spare (length records)
  spare_active = record {
    room = omega (arith, s.count, s.begun.few);
    blank = spare_blank g d victim spare start.seq start.die.cells now.die.cells new records s.seals s.some;
    above = λ u slot in_units above within. elim (cases_lt (u * g.span) (length records)) [
      | inl copied ↦ spare_slot g d victim spare start.seq start.die.cells now.die.cells new records s.seals (u * g.span) slot copied above within
      | inr past ↦ blank_slot g new (spare * g.pages + u * g.span)
          (spare_blank g d victim spare start.seq start.die.cells now.die.cells new records s.seals s.some (u * g.span) past (unit_in_block g spare u in_units)) slot
    ];
  }

  pub settled_true : IsValid (settled now.book victim spare (length records)) → IsTrueTo g new (settled now.book victim spare (length records)) table now.seq
  settled_true valid = subst (λ (v : BookValue). IsTrueTo g new v table now.seq) (sym same_settled) (record {
    live_counts = λ block within. elim (cases_eq block victim) [
      | inl same ↦ ap (live_at (settled start.book victim spare (length records))) same
          ∙ (live_of_victim start.book victim spare (length records) s.begun.apart in_victim in_spare s.begun.tables.kept.counts
          ∙ sym (ap (live_count g new) same ∙ victim_free g d victim spare start.seq start.die.cells now.die.cells new records s.seals))
      | inr no_victim ↦ elim (cases_eq block spare) [
        | inl same ↦ ap (live_at (settled start.book victim spare (length records))) same
            ∙ (live_of_spare start.book victim spare (length records) s.begun.apart in_victim in_spare s.begun.tables.kept.counts
            ∙ (s.count ∙ (s.begun.tables.live_counts victim s.begun.victim_there
            ∙ sym (ap (live_count g new) same ∙ spare_count g d victim spare start.seq start.die.cells now.die.cells new records s.seals))))
        | inr no_spare ↦ live_of_other start.book victim spare (length records) s.begun.apart in_victim in_spare s.begun.tables.kept.counts block no_victim no_spare
            ∙ (s.begun.tables.live_counts block within ∙ sym (other_count g d victim spare start.seq start.die.cells now.die.cells new records s.seals block no_spare no_victim))
      ]
    ];
    entries = map_is;
    one_spare = settled_one start.book victim spare (length records) s.begun.apart in_victim in_spare s.begun.tables.kept.counts (spare_is g d victim spare start s.begun) s.begun.tables.one_spare;
    states = λ block within. elim (cases_eq block victim) [
      | inl same ↦ subst (IsTrueState g new block)
          (sym (ap (state_at (settled start.book victim spare (length records))) same
          ∙ settled_victim start.book victim spare (length records) s.begun.apart in_victim in_spare s.begun.tables.kept.counts))
          (subst (λ (v : ℕ). IsTrueSpare g new v false) (sym same)
          (record { free = victim_free g d victim spare start.seq start.die.cells now.die.cells new records s.seals; blank = λ e. absurd (false≢true e) }))
      | inr no_victim ↦ elim (cases_eq block spare) [
        | inl same ↦ subst (IsTrueState g new block)
            (sym (ap (state_at (settled start.book victim spare (length records))) same
            ∙ settled_spare start.book victim spare (length records) s.begun.apart in_victim in_spare s.begun.tables.kept.counts))
            (subst (λ (v : ℕ). IsTrueActive g new v (length records)) (sym same) spare_active)
        | inr no_spare ↦ subst (IsTrueState g new block)
            (sym (settled_other start.book victim spare (length records) s.begun.apart in_victim in_spare s.begun.tables.kept.counts block no_victim no_spare))
            (state_stays g start.die.cells new block (other_stays g d victim spare start.seq start.die.cells now.die.cells new records s.seals block no_spare no_victim)
            (state_at start.book block) (s.begun.tables.states block within))
      ]
    ];
    kept = subst IsValid same_settled valid;
    next_seq = inl (λ place h e. omega (
      arith,
      fresh_now g d victim spare start s.begun now records s.inside place h (sym (header_stays g d victim spare start.seq start.die.cells now.die.cells new records s.seals place) ∙ e),
      s.inside.seq,
    ));
    sizes = record {
      blocks = length-set _ victim (Spare false) ∙ (length-set start.book.states spare (Active (length records)) ∙ s.begun.tables.sizes.blocks);
      pages = s.begun.tables.sizes.pages;
      units = s.begun.tables.sizes.units;
      generations = s.begun.tables.sizes.generations;
    };
  })
