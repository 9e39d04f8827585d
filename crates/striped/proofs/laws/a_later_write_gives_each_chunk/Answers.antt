-- The test is chunk by chunk.
use Rattle.striped.specs.Striping.{striping}
use Rattle.striped.specs.Carried.{gives_to}
use Rattle.striped.proofs.ReadLemmas.{gives_from}
use Rattle.striped.proofs.laws.a_later_write_gives_each_chunk.Goals as goal

pub returns : goal.returns
returns c = λ k m n bytes generations f a g b old sector new. (gives_to (striping k m n bytes) n b old sector new, gives_from (striping k m n bytes) n b old sector new)
