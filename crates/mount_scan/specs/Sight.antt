-- What one page more shows of a block.
use Rattle.std.specs.Prelude.{ℕ, Bool, ◌&&◌, ◌==◌, max, if◌then◌else◌}
use Rattle.page_codec.specs.declared.seen.Seen.{Seen}
use Rattle.mount_scan.specs.declared.sight.Sight.{Sight}
use Rattle.mount_scan.specs.Settled.{page_level}

-- The first page shows the seal, and the first page of each unit its level.
abbrev pub sight_with : Sight → Seen → ℕ → Bool → Sight
sight_with sight seen number unit = record {
  blank = sight.blank && seen.blank;
  sealed = if number == 0 then seen.seal else sight.sealed;
  level = if unit then max sight.level (page_level seen) else sight.level;
}
