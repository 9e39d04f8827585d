-- What an audit answers.
use Rattle.std.specs.Prelude.{◌≡◌, ◌≢◌, ◌↔◌, ℕ, List, []}
use Rattle.striped.specs.Meaning.{Decoding}
use Rattle.page_codec.specs.Geometry.{Geometry}
use Rattle.page_codec.specs.Sectors.{stored}
use Rattle.page_codec.specs.Sound.{IsSound}
use Rattle.image_audit.specs.declared.verdict.Verdict.{Verdict}
use Rattle.image_audit.specs.declared.verdict.Verdict.TheVariants.{Sound}
use Rattle.image_audit.specs.Held.{held, array_told}
use Rattle.image_audit.specs.Verdicts.{IsVerdict}

-- a verdict on cells, and the sectors that are told with it
pub record IsAudit (g : Geometry) (decoding : Decoding) (cells : List (List ℕ)) (found : Verdict) (told : List (ℕ × List ℕ)) : Type 0 where
  -- the first that applies, at its first place
  pub verdict : IsVerdict g cells found
  -- it is that the cells are sound exactly where they are
  pub sound : (found ≡ Sound) ↔ IsSound g cells
  -- then each sector that has a live record is told, in the order in which the sectors are first found
  pub tells : found ≡ Sound → told ≡ held g decoding cells
  -- with zeros for the others these are the sectors that the cells stand for
  pub array : found ≡ Sound → array_told g told ≡ stored g decoding cells
  -- with another verdict nothing is told
  pub nothing : found ≢ Sound → told ≡ []
