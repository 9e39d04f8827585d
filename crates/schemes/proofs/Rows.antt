-- Each scheme has the numbers of its row.
use Rattle.std.proofs.Common.{refl}
use Rattle.die_image.specs.declared.scheme.SchemeName.{SchemeName}
use Rattle.die_image.specs.declared.scheme.SchemeName.TheVariants.{Plain16, Rs16, Rs512, Coset16, Coset512, Flip16, Flip512, Ham16, Ham512}
use Rattle.die_image.specs.Schemes.{row_of}
use Rattle.schemes.specs.Schemes.{meaning_named, plain_meaning, pair_meaning, coset_meaning, flip_meaning, seven_meaning, HasRow}

pub named_row : (name : SchemeName) → HasRow name (meaning_named name)
unfolding meaning_named plain_meaning pair_meaning coset_meaning flip_meaning seven_meaning row_of
named_row Plain16 = record { sector_bytes = refl; page_bytes = refl; span = refl; generations = refl }
named_row Rs16 = record { sector_bytes = refl; page_bytes = refl; span = refl; generations = refl }
named_row Rs512 = record { sector_bytes = refl; page_bytes = refl; span = refl; generations = refl }
named_row Coset16 = record { sector_bytes = refl; page_bytes = refl; span = refl; generations = refl }
named_row Coset512 = record { sector_bytes = refl; page_bytes = refl; span = refl; generations = refl }
named_row Flip16 = record { sector_bytes = refl; page_bytes = refl; span = refl; generations = refl }
named_row Flip512 = record { sector_bytes = refl; page_bytes = refl; span = refl; generations = refl }
named_row Ham16 = record { sector_bytes = refl; page_bytes = refl; span = refl; generations = refl }
named_row Ham512 = record { sector_bytes = refl; page_bytes = refl; span = refl; generations = refl }
