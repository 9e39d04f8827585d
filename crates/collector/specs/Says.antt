-- What a page holds that says the same as a record.
use Rattle.std.specs.Prelude.{◌≡◌, ℕ, true, false, List}
use Rattle.zero_count.specs.declared.Header.{Header}
use Rattle.cell_die.specs.DieState.{DieState}
use Rattle.striped.specs.Meaning.{Meaning, IsSector}
use Rattle.page_codec.specs.declared.place.Place.{Place}
use Rattle.page_codec.specs.Puts.{FirstGives, MainBlank}
use Rattle.page_codec.specs.Sectors.{says_zeros}
use Rattle.page_codec.specs.Units.{decoded_at}

-- Where the record says bytes, the main bytes of the page are those that a first write gives for the sector that they decode to;
-- where it says zeros, they are blank.
pub record SaysSame (meaning : Meaning) (die : DieState) (place : Place) (header : Header) (page : ℕ) (done : ℕ → List ℕ) : Type 0 where
  pub bytes : says_zeros header ≡ false → FirstGives meaning page (decoded_at meaning die place) done
  pub sector : says_zeros header ≡ false → IsSector meaning (decoded_at meaning die place)
  pub zeros : says_zeros header ≡ true → MainBlank die.shape.main_bytes page done
