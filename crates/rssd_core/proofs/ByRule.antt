-- The moves of an idle call are moves by the idle-move rule, one after another.
use Rattle.std.proofs.Common.{◌≡◌, ℕ, ◌-◌, List, [], ◌∷◌, ◌++◌, Option, refl, sym, ap, ◌∙◌, subst}
use Rattle.sector_map.specs.declared.entry.Entry.{Entry}
use Rattle.block_state.specs.Victim.{IsIdleVictim}
use Rattle.page_codec.specs.TrueBook.{IsTrue}
use Rattle.collector.specs.Moves.{Moved}
use Rattle.collector.specs.Store.{Store, IsTrueStore}
use Rattle.rssd_core.specs.DeviceValue.{Numbers}
use Rattle.rssd_core.specs.IdleRule.{Moment, MoveByRule, MovesByRule}
use Rattle.rssd_core.specs.Rules.{room_left}
use Rattle.rssd_core.proofs.IdleLeft.{room_active}

-- what moves of a store
abbrev pub moment : Store → Moment
moment s = record { die = s.die; book = s.book; seq = s.seq }

pub move_by_rule : (d : Numbers) (old new : Store) → IsTrueStore d.geometry old → (m : Moved d.geometry d.meaning.decoding old new) → MoveByRule d m.first.header.sector (moment old) (moment new)
move_by_rule d old new t m = record {
  block = m.block;
  fill = m.fill;
  active = m.active;
  victim = m.victim;
  is_victim = subst (λ (room : ℕ). IsIdleVictim old.book room m.victim) (sym room) m.is_victim;
  first = m.first;
  is_first = m.is_first;
  of_sector = refl;
  live = m.live;
  others = m.others;
  cells = m.cells;
  rows = m.rows;
  book = m.book;
  seq = m.seq;
  true_book = subst (λ (table : List (Option Entry)). IsTrue d.geometry new.die.cells new.book table new.seq) m.tables.entries m.tables;
  calls = m.calls;
}
  where
    room : room_left old.book ≡ d.geometry.pages - m.fill
    room = room_active old.book t.kept m.block m.fill m.active ∙ ap (λ (pages : ℕ). pages - m.fill) t.sizes.pages

pub rule_none : (d : Numbers) (old new : Moment) → new ≡ old → MovesByRule d [] old new
unfolding MovesByRule
rule_none d old new same = same

pub rule_append : (d : Numbers) (sectors : List ℕ) (sector : ℕ) (old mid new : Moment) → MovesByRule d sectors old mid → MoveByRule d sector mid new → MovesByRule d (sectors ++ sector ∷ []) old new
unfolding MovesByRule
rule_append d [] sector old mid new first then = (new, subst (λ (m : Moment). MoveByRule d sector m new) first then, refl)
rule_append d (x ∷ xs) sector old mid new first then = (first.0, first.1, rule_append d xs sector first.0 mid new first.2 then)
