-- How far a reader of images reads, and bytes that nothing behind them makes an image.
use Rattle.std.specs.Prelude.{◌≡◌, ℕ, ◌+◌, ◌≤◌, Bool, List, ◌++◌, length, Result, Ok, Err}
use Rattle.die_image.specs.declared.head.ImageHead.{ImageHead}
use Rattle.die_image.specs.declared.error.ImageError.{ImageError}
use Rattle.die_image.specs.Image.{head_length, die_bytes, head_read, image_read, Fed}

-- the most bytes of an image that can change the answer: those of its head, and, where they are one, its cells and a byte more
abbrev pub reach_of : Bool → Result ImageHead ImageError → ℕ
reach_of is_old (Ok head) = head_length is_old + die_bytes head + 1
reach_of is_old (Err why) = head_length is_old

-- the reader was fed no more
abbrev pub IsWithinReach : Fed → Type 0
IsWithinReach fed = length fed.bytes ≤ reach_of fed.is_old (head_read fed.is_old fed.bytes)

-- the bytes are refused for this cause, and so they are with any bytes behind them
abbrev pub IsRefusedAnyway : Bool → List ℕ → ImageError → Type 0
IsRefusedAnyway is_old bytes why = (more : List ℕ) → image_read is_old (bytes ++ more) ≡ Err why
