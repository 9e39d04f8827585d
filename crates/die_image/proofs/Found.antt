-- What decode gives is what has this image.
use Rattle.std.proofs.Common.{◌≡◌, ℕ, true, false, List, Result, Ok, Err, Vec, Global}
use Rattle.std.specs.Prelude.{IfOk}
use Rattle.die_image.specs.declared.head.ImageHead.{ImageHead}
use Rattle.die_image.specs.declared.error.ImageError.{ImageError}
use Rattle.die_image.specs.Image.{image, old_image, image_read, AreCells, AreOldCells, Gives}
use Rattle.die_image.proofs.Back.{IsBytes, image_found, old_image_found}

pub is_found : (bytes : List ℕ) (result : Result (ImageHead × Vec ℕ Global) ImageError) → IsBytes bytes →
    Gives {Y = ImageHead × List ℕ} (λ read. (read.0, read.1.items)) result (image_read false bytes) →
    IfOk result (λ read. AreCells read.0 read.1.items × (bytes ≡ image read.0 read.1.items))
is_found bytes (Ok read) fits h = image_found bytes read.0 read.1.items fits h
is_found bytes (Err why) fits h = tt

pub is_old_found : (bytes : List ℕ) (result : Result (ImageHead × Vec ℕ Global) ImageError) → IsBytes bytes →
    Gives {Y = ImageHead × List ℕ} (λ read. (read.0, read.1.items)) result (image_read true bytes) →
    IfOk result (λ read. AreOldCells read.0 read.1.items × (bytes ≡ old_image read.0 read.1.items))
is_old_found bytes (Ok read) fits h = old_image_found bytes read.0 read.1.items fits h
is_old_found bytes (Err why) fits h = tt
