-- One move more is counted and named.
use Rattle.std.proofs.Common.{◌≡◌, ◌+◌, ◌*◌, ◌<◌, ℕ, false, length, Some, slice_set, refl, sym, ap, ◌∙◌, subst, arith}
use Rattle.sector_map.specs.declared.entry.Entry.{Entry}
use Rattle.block_state.specs.declared.state.State.TheVariants.{Active}
use Rattle.block_state.specs.State.{is_closed}
use Rattle.block_state.specs.Book.{BookValue, state_at, live_at, with_state, with_live}
use Rattle.collector.specs.Settles.{NamesMoves, move_at}
use Rattle.collector.proofs.Books.{state_here, live_here, spare_within}
use Rattle.collector.proofs.BooksSettled.{live_twice, names_more}
use Rattle.collector.proofs.settle.settle.Goals as goal

pub loop-i-preserved : goal.loop-i-preserved
loop-i-preserved c =
    let active : BookValue = with_state c.args.book.now c.args.spare (Active (length c.args.moves.now)) in
    let within : c.args.spare < length c.args.book.now.states = spare_within c.args.book.now c.args.spare c.requires.is_spare in
    let open_block : is_closed (state_at (with_state c.args.book.now c.args.spare (Active (length c.args.moves.now))) c.args.spare) ≡ false
    = ap is_closed (state_here c.args.book.now c.args.spare (Active (length c.args.moves.now)) within) in
    let i = c.loop-i.i in
    record {
      book = c.add_live.ensures
          ∙ (ap (λ (v : BookValue). with_live v c.args.spare (live_at v c.args.spare + 1)) c.loop-i.invariant.book
          ∙ (live_twice (with_state c.args.book.now c.args.spare (Active (length c.args.moves.now))) c.args.spare i _ open_block
          ∙ ap (λ (n : ℕ). with_live (with_state c.args.book.now c.args.spare (Active (length c.args.moves.now))) c.args.spare (n + 1))
          (live_here (with_state c.args.book.now c.args.spare (Active (length c.args.moves.now))) c.args.spare i (omega (arith, within, c.pages.ensures.valid.counts)))));
      map = subst (NamesMoves (c.args.spare * c.pages.result) c.args.moves.now (c.loop-i.i + 1) c.args.map.now)
          (sym (c.set.ensures ∙ ap (λ (entry : Entry). slice_set c.loop-i.map (move_at c.args.moves.now c.loop-i.i).sector (Some entry)) c.entry_for.ensures))
          (names_more (c.args.spare * c.pages.result) c.args.moves.now c.loop-i.i c.args.map.now c.loop-i.map c.loop-i.invariant.map (c.requires.sectors c.loop-i.i c.loop-i-test.true));
      fill = refl;
    }

pub returns-clause-map : goal.returns-clause-map
returns-clause-map c =
    let all : c.loop-i.i ≡ length c.args.moves.now = omega (arith, c.loop-i-test.false, c.loop-i.auto.i-end) in
    subst (λ (n : ℕ). NamesMoves (c.args.spare * n) c.args.moves.now (length c.args.moves.now) c.args.map.now c.loop-i.map) c.pages.ensures.value
    (subst (λ (n : ℕ). NamesMoves (c.args.spare * c.pages.result) c.args.moves.now n c.args.map.now c.loop-i.map) all c.loop-i.invariant.map)
