-- What is read has this image, and what has this image is read: two laws on lists.
use Rattle.std.proofs.Common.{ℕ, true, List, Result, ap, subst, ◌∙◌, arith}
use Rattle.die_image.specs.declared.head.ImageHead.{ImageHead}
use Rattle.die_image.specs.declared.error.ImageError.{ImageError}
use Rattle.die_image.specs.Image.{image_read, Gives}
use Rattle.die_image.proofs.Again.{old_image_again}
use Rattle.die_image.proofs.Found.{is_old_found}
use Rattle.die_image.proofs.decoding.decode_old.Goals as goal

pub returns-clause-found : goal.returns-clause-found
returns-clause-found c = is_old_found c.args.bytes.now c.read_all.result (λ i. omega (arith, c.type_inv.bytes i)) (rw c.old.ensures at c.read_all.ensures)

pub returns-clause-only : goal.returns-clause-only
returns-clause-only c = λ head cells are e.
    subst (λ (read : Result (ImageHead × List ℕ) ImageError). Gives (λ read. (read.0, read.1.items)) c.read_all.result read) (ap (image_read true) e ∙ old_image_again head cells are)
    (rw c.old.ensures at c.read_all.ensures)
