-- What is read of an image are the cells of its head, and their image is read as these again.
use Rattle.std.proofs.Common.{◌≡◌, ℕ, List, Ok, true, false, Result, ap}
use Rattle.die_image.specs.declared.error.ImageError.{ImageError}
use Rattle.die_image.specs.declared.head.ImageHead.{ImageHead}
use Rattle.die_image.specs.Image.{image as image_of, image_read}
use Rattle.die_image.proofs.Again.{image_again}
use Rattle.die_image.proofs.Back.{read_found}
use Rattle.rssd_run.specs.Upgrades.{sectors_in}
use Rattle.rssd_run.proofs.run.upgrade.upgrades_keep_the_sectors.Goals as goal

same_sectors : (result : Result (ImageHead × List ℕ) ImageError) (head new_head : ImageHead) (cells new_cells : List ℕ) → result ≡ Ok (head, cells) → result ≡ Ok (new_head, new_cells)
    → sectors_in new_head new_cells ≡ sectors_in head cells
same_sectors result head new_head cells new_cells is other =
    let same : ◌≡◌ {A = ImageHead × List ℕ} (new_head, new_cells) (head, cells) = cc in
    ap (λ (p : ImageHead × List ℕ). sectors_in p.0 p.1) same

pub returns : goal.returns
returns c = λ bytes head cells e.
    let read : image_read false (image_of head cells) ≡ Ok (head, cells) = image_again head cells (read_found true bytes head cells e).are in
    record { read = read; same = λ new_head new_cells other. same_sectors (image_read false (image_of head cells)) head new_head cells new_cells read other }
