-- What reading an image answers, by the bytes that were taken, and how many of them are.
use Rattle.std.specs.Prelude.{◌≡◌, ◌⊎◌, ℕ, ◌≤◌, Bool, false, List, ◌++◌, length, Ok, Err}
use Rattle.rssd_io.specs.Event.{Event, HasEnded, bytes_of, failures, since}
use Rattle.die_image.specs.declared.head.ImageHead.{ImageHead}
use Rattle.die_image.specs.declared.error.ImageError.{ImageError}
use Rattle.die_image.specs.declared.error.ImageError.TheVariants.{OutOfMemory}
use Rattle.die_image.specs.Image.{head_read, image_read, Fed, wanted}
use Rattle.die_image.specs.Reach.{reach_of, IsWithinReach, IsRefusedAnyway}
use Rattle.rssd_run.specs.declared.run.image.ImageReadError.{ImageReadError}
use Rattle.rssd_run.specs.declared.run.image.ImageReadError.TheVariants.{Fault, Refused}

-- No take failed, the last one found the end of the input, and what was taken is the image of this head and these cells.
pub record ReadsImage (is_old : Bool) (old new : List Event) (head : ImageHead) (cells : List ℕ) : Type 0 where
  pub served : failures (since old new) ≡ 0
  pub ended : HasEnded (since old new)
  pub reads : image_read is_old (bytes_of (since old new)) ≡ Ok (head, cells)

-- What was taken is no image for this cause: it is all of the input, or what follows cannot change the answer.
pub record IsNoImageFor (is_old : Bool) (events : List Event) (why : ImageError) : Type 0 where
  pub refused : image_read is_old (bytes_of events) ≡ Err why
  pub settled : HasEnded events ⊎ IsRefusedAnyway is_old (bytes_of events) why

-- the same; want of memory is free
abbrev pub AreNoImage : Bool → List Event → ImageError → Type 0
AreNoImage is_old events OutOfMemory = Unit {0}
AreNoImage is_old events why = IsNoImageFor is_old events why

-- a take failed; or none did, and what was taken is no image
abbrev pub RefusesImage : Bool → List Event → List Event → ImageReadError → Type 0
RefusesImage is_old old new Fault = failures (since old new) ≡ 1
RefusesImage is_old old new (Refused why) = (failures (since old new) ≡ 0) × AreNoImage is_old (since old new) why

-- what was on record stays, and no more bytes were taken than can change the answer: a head alone where it is none
pub record TakesImage (is_old : Bool) (old new : List Event) : Type 0 where
  pub grew : new ≡ old ++ since old new
  pub most : length (bytes_of (since old new)) ≤ reach_of is_old (head_read is_old (bytes_of (since old new)))

-- the reader was fed what was taken, and no more than it wanted
pub record IsFed (old new : List Event) (was fed : Fed) : Type 0 where
  pub events : List Event
  pub came : new ≡ old ++ events
  pub served : failures events ≡ 0
  pub bytes : fed.bytes ≡ bytes_of events
  pub version : fed.is_old ≡ was.is_old
  pub well : fed.is_failed ≡ false
  pub within : IsWithinReach fed

-- the source is at its end, or the reader wants no more
abbrev pub HasAll : List Event → Fed → Type 0
HasAll events fed = HasEnded events ⊎ (wanted fed ≡ 0)
