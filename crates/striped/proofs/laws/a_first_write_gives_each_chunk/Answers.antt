-- Both halves of the test are chunk by chunk.
use Rattle.std.proofs.Common.{Bool, ◌&&◌, ap₂}
use Rattle.striped.specs.Striping.{striping, blank_page, carries, gives}
use Rattle.striped.specs.Carried.{carries_to, gives_to, both_true}
use Rattle.striped.proofs.ReadLemmas.{carries_from, gives_from}
use Rattle.striped.proofs.laws.a_first_write_gives_each_chunk.Goals as goal

pub returns : goal.returns
returns c = λ k m n bytes generations f a g b page sector. (
  λ h.
      let both = both_true (carries (striping k m m bytes) m f page sector) (gives (striping k m m bytes) m a (blank_page (striping k m m bytes)) sector page) h in (
        carries_to (striping k m m bytes) m f page sector both.0,
        gives_to (striping k m m bytes) m a (blank_page (striping k m m bytes)) sector page both.1,
      ),
  λ h.
      ap₂ (λ (x y : Bool). x && y) (carries_from (striping k m m bytes) m f page sector h.0)
      (gives_from (striping k m m bytes) m a (blank_page (striping k m m bytes)) sector page h.1),
)
