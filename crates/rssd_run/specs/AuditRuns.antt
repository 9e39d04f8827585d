-- The command `audit`: what an audit of an image finds, and the lines that tell it.
use Rattle.std.specs.Prelude.{◌≡◌, ◌≢◌, ℕ, false, List, [], ◌∷◌, ◌++◌, map, codes, decimal}
use Rattle.die_image.specs.declared.head.ImageHead.{ImageHead}
use Rattle.image_audit.specs.declared.verdict.Verdict.{Verdict}
use Rattle.image_audit.specs.declared.verdict.Verdict.TheVariants.{Sound, Header, SameSeq, NoSpare, Number}
use Rattle.image_audit.specs.Images.{geometry_of, pages_in}
use Rattle.image_audit.specs.Audits.{IsAudit}
use Rattle.page_codec.specs.Sound.{IsSound}
use Rattle.rssd_script.specs.Text.{hex_or_dash}
use Rattle.rssd_run.specs.Statuses.{Input, Output, Took, TookPart, GaveLine}
use Rattle.rssd_run.specs.ReadImage.{ReadsImage}
use Rattle.schemes.specs.Schemes.{meaning_named}

-- the verdict on the cells of a head's die, by the head's scheme, and the sectors that are told with it
abbrev pub IsAuditOf : ImageHead → List ℕ → Verdict → List (ℕ × List ℕ) → Type 0
IsAuditOf head cells found told = IsAudit (geometry_of head) (meaning_named head.scheme).decoding (pages_in (geometry_of head) cells) found told

-- an audit of these cells can only find them sound
abbrev pub IsFoundSound : ImageHead → List ℕ → Type 0
IsFoundSound head cells = (found : Verdict) (told : List (ℕ × List ℕ)) → IsAuditOf head cells found told → found ≡ Sound

-- ---- the lines

-- a slot: its page, and its number there
abbrev pub slot_text : ℕ → ℕ → List ℕ
slot_text page slot = decimal page ++ 32 ∷ decimal slot

-- a verdict, without its line feed
abbrev pub verdict_text : Verdict → List ℕ
verdict_text Sound = codes "sound"
verdict_text (Header page slot) = codes "unsound header " ++ slot_text page slot
verdict_text (SameSeq page slot other_page other_slot) = codes "unsound seq " ++ slot_text page slot ++ 32 ∷ slot_text other_page other_slot
verdict_text NoSpare = codes "unsound spare"
verdict_text (Number page slot) = codes "unsound number " ++ slot_text page slot

abbrev pub verdict_line : Verdict → List ℕ
verdict_line found = verdict_text found ++ 10 ∷ []

-- the line of a sector: its number and its bytes
abbrev pub sector_line : ℕ × List ℕ → List ℕ
sector_line told = decimal told.0 ++ 32 ∷ hex_or_dash told.1 ++ 10 ∷ []

-- the line of the verdict on sound cells, and then one for each sector that is told
abbrev pub sound_lines : List (ℕ × List ℕ) → List (List ℕ)
sound_lines told = verdict_line Sound ∷ map sector_line told

-- ---- what is given

-- all of the image was taken, it is the image of this head and these cells, and this is the audit of them
pub record IsRead (image : Input) (found : Verdict) (told : List (ℕ × List ℕ)) : Type 0 where
  pub head : ImageHead
  pub cells : List ℕ
  pub is_image : ReadsImage false image.before image.after head cells
  pub audit : IsAuditOf head cells found told

-- the cells are sound, and `out` took the lines that say so and what they hold, each in one piece, and handed them on
pub record IsAudited (image : Input) (out : Output) : Type 0 where
  pub told : List (ℕ × List ℕ)
  pub read : IsRead image Sound told
  pub lines : Took out (sound_lines told)

-- the cells are sound, and `out` failed in taking those lines
pub record IsAuditCutOff (image : Input) (out : Output) : Type 0 where
  pub told : List (ℕ × List ℕ)
  pub read : IsRead image Sound told
  pub lines : TookPart out (sound_lines told)

-- the verdict is not that the cells are sound, and `out` took its line alone
pub record IsUnsound (image : Input) (out : Output) : Type 0 where
  pub found : Verdict
  pub read : IsRead image found []
  pub not_sound : found ≢ Sound
  pub line : GaveLine out (verdict_line found)

-- all of the image was taken, and it is an image whose cells are not sound
pub record HasUnsoundImage (image : Input) : Type 0 where
  pub head : ImageHead
  pub cells : List ℕ
  pub is_image : ReadsImage false image.before image.after head cells
  pub not_sound : IsSound (geometry_of head) (pages_in (geometry_of head) cells) → ⊥
