-- A name that is none of the nine is found in no row.
use Rattle.std.proofs.Common.{refl}
use Rattle.die_image.specs.Schemes.{row_of, scheme_of_name}
use Rattle.die_image.proofs.Texts.{other_text}
use Rattle.die_image.proofs.scheme.SchemeName.of_name.Goals as goal

pub returns-in_default : goal.returns-in_default
unfolding scheme_of_name row_of
returns-in_default c =
    rw (
      other_text _ _ c.in_default.not-plain16,
      other_text _ _ c.in_default.not-rs16,
      other_text _ _ c.in_default.not-rs512,
      other_text _ _ c.in_default.not-coset16,
      other_text _ _ c.in_default.not-coset512,
      other_text _ _ c.in_default.not-flip16,
      other_text _ _ c.in_default.not-flip512,
      other_text _ _ c.in_default.not-ham16,
      other_text _ _ c.in_default.not-ham512,
    ) refl
