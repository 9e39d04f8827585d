-- Each cause has its line; only want of memory has none.
use Rattle.std.proofs.Common.{◌≡◌, refl}
use Rattle.die_image.specs.declared.error.ImageError.{ImageError}
use Rattle.die_image.specs.declared.error.ImageError.TheVariants as images
use Rattle.rssd_run.specs.declared.status.Status.{Status}
use Rattle.rssd_run.specs.declared.status.Status.TheVariants.{BadImage}
use Rattle.rssd_run.specs.Statuses.{Output, GaveLine, RefusesImageSo, bad_image}

refused_so : (why : ImageError) (status : Status) (out : Output) → (why ≡ images.OutOfMemory → ⊥) → status ≡ BadImage → GaveLine out (bad_image why) → RefusesImageSo why status out
refused_so images.OutOfMemory status out other is line = absurd (other refl)
refused_so images.Magic status out other is line = (is, line)
refused_so images.Version status out other is line = (is, line)
refused_so images.Shape status out other is line = (is, line)
refused_so images.Short status out other is line = (is, line)
refused_so images.Long status out other is line = (is, line)
refused_so images.PadCells status out other is line = (is, line)
