-- How lines ended, what was told then and what was given make what a status says.
use Rattle.std.proofs.Common.{◌≡◌, ◌≢◌, inl, inr, ℕ, false, List, Option, None, Some, Result, Ok, Err, refl, ap, sym, ◌∙◌, subst, arith}
use Rattle.std.specs.Prelude.{IfOk, IfErr}
use Rattle.cell_die.specs.DieState.{DieState}
use Rattle.mem_die.specs.declared.mem.MemDie.{MemDie}
use Rattle.mem_die.specs.MemState.{mem_state}
use Rattle.die_image.specs.declared.error.ImageError.{ImageError}
use Rattle.die_image.specs.declared.error.ImageError.TheVariants as errors
use Rattle.die_image.specs.declared.head.ImageHead.{ImageHead}
use Rattle.rssd_core.specs.DeviceValue.{DeviceValue}
use Rattle.rssd_core.specs.Mount.{Mounts}
use Rattle.rssd_io.specs.Event.{Event, since}
use Rattle.rssd_run.specs.declared.run.image.ImageReadError.{ImageReadError}
use Rattle.rssd_run.specs.declared.run.image.ImageReadError.TheVariants as images
use Rattle.rssd_run.specs.Heads.{numbers_named}
use Rattle.rssd_run.specs.ImageRuns.{HasCells}
use Rattle.rssd_run.specs.ReadImage.{RefusesImage, IsNoImageFor}
use Rattle.rssd_run.specs.Statuses.{Input, Output, input, output, bad_image, no_spare}
use Rattle.lab_words.specs.declared.asked.Asked.{Asked}
use Rattle.lab_words.specs.declared.asked.AskedDie.{AskedDie}
use Rattle.lab_words.specs.declared.asked.LinesFrom.{LinesFrom}
use Rattle.lab_words.specs.declared.asked.LinesFrom.TheVariants.{Stream, Drawn}
use Rattle.rssd_lab.specs.declared.stage.Stage.{Stage}
use Rattle.rssd_lab.specs.declared.stage.Stage.TheVariants.{Blank, Image}
use Rattle.rssd_lab.specs.declared.status.Halt.{Halt}
use Rattle.rssd_lab.specs.declared.status.Halt.TheVariants.{NoSpare, Ended}
use Rattle.rssd_lab.specs.declared.status.Status.{Status}
use Rattle.rssd_lab.specs.declared.status.Status.TheVariants.{Done, BadWords, BadLine, BadImage, ReadFault, WriteFault, OutOfMemory}
use Rattle.rssd_lab.specs.declared.telling.Telling.{Telling}
use Rattle.rssd_lab.specs.Dies.{IsBlankDevice, IsReadyOf}
use Rattle.rssd_lab.specs.Stages.{AnyDie, StartOn, EndOn, head_on}
use Rattle.rssd_lab.specs.Top.{IsTold, GivesLine, SaysUnread, SettlesBlank, Settles}
use Rattle.rssd_lab.specs.Ends.{PlaysAllOf, StopsOf, HaltsOf, SaysOnBlank, SaysOnImage, PlaysOnImage, StopsOnImage}

-- ---- a blank die

blank_stop : (from : LinesFrom) (telling : Telling) (die : AskedDie) (input : Input) (out : Output) (status : Status)
    → StopsOf from telling die.head (IsBlankDevice die) input out status → SaysOnBlank from telling die input out status
blank_stop Stream telling die input out Done stops = absurd stops
blank_stop (Drawn kind seed count idle) telling die input out Done stops = absurd stops.0
blank_stop from telling die input out BadWords stops = stops
blank_stop from telling die input out BadLine stops = stops
blank_stop from telling die input out BadImage stops = stops
blank_stop from telling die input out ReadFault stops = stops
blank_stop from telling die input out WriteFault stops = stops
blank_stop from telling die input out OutOfMemory stops = stops

module _ (asked : Asked) (die : AskedDie) (input : Input) (before between after : List Event) (status : Status) where
  pub blank_settles : (r : Result (Option MemDie) Halt)
      → IfOk r (λ left. (telling : Telling) × IsTold asked telling × PlaysAllOf asked.from telling die.head (IsBlankDevice die) AnyDie input (output before between))
      → IfErr r (λ halt. (telling : Telling) × IsTold asked telling × HaltsOf asked.from telling (Blank die) input (output before between) halt)
      → SettlesBlank r status between after
      → (telling : Telling) × IsTold asked telling × SaysOnBlank asked.from telling die input (output before after) status
  blank_settles (Ok left) all halts settles = (
    all.0,
    all.1,
    subst (SaysOnBlank asked.from all.0 die input (output before after)) (sym settles.0)
        (subst (λ (log : List Event). PlaysAllOf asked.from all.0 die.head (IsBlankDevice die) AnyDie input (output before log)) (sym settles.1) all.2),
  )
  blank_settles (Err NoSpare) all halts settles = absurd halts.2.0
  blank_settles (Err (Ended how)) all halts settles = (
    halts.0,
    halts.1,
    subst (SaysOnBlank asked.from halts.0 die input (output before after)) (sym settles.0)
        (subst (λ (log : List Event). SaysOnBlank asked.from halts.0 die input (output before log) how) (sym settles.1)
        (blank_stop asked.from halts.0 die input (output before between) how halts.2)),
  )

-- ---- the die of an image

some_same : (x y : MemDie) → Some x ≡ Some y → x ≡ y
some_same x y is = cc

none_is_some : (x : MemDie) → None ≡ Some x → ⊥
none_is_some x is = absurd cc

-- which die was left
left_in : (from : LinesFrom) (telling : Telling) (head : ImageHead) (S : DeviceValue → Type 0) (P : DieState → Type 0) (input : Input) (out : Output)
    → PlaysAllOf from telling head S P input out → (die : DieState) × P die
left_in Stream telling head S P input out plays = (plays.plays.2.last.device.view.die, plays.plays.3)
left_in (Drawn kind seed count idle) telling head S P input out plays = (plays.0.2.last.device.view.die, plays.0.3)

left_so : (from : LinesFrom) (telling : Telling) (head : ImageHead) (S : DeviceValue → Type 0) (P Q : DieState → Type 0) → ((die : DieState) → P die → Q die)
    → (input : Input) (out : Output) → PlaysAllOf from telling head S P input out → PlaysAllOf from telling head S Q input out
left_so Stream telling head S P Q so input out plays = record {
  lines = plays.lines;
  came = plays.came;
  plays = (plays.plays.0, plays.plays.1, plays.plays.2, so plays.plays.2.last.device.view.die plays.plays.3);
}
left_so (Drawn kind seed count idle) telling head S P Q so input out plays =
    ((plays.0.0, plays.0.1, plays.0.2, so plays.0.2.last.device.view.die plays.0.3), plays.1)

never_stops : (from : LinesFrom) (telling : Telling) (head : ImageHead) (S : DeviceValue → Type 0) (input : Input) (out : Output) → StopsOf from telling head S input out Done → ⊥
never_stops Stream telling head S input out stops = stops
never_stops (Drawn kind seed count idle) telling head S input out stops = stops.0

never_refuses : (from : LinesFrom) (telling : Telling) (head : ImageHead) (S : DeviceValue → Type 0) (input : Input) (out : Output) → StopsOf from telling head S input out BadImage → ⊥
never_refuses Stream telling head S input out stops = stops
never_refuses (Drawn kind seed count idle) telling head S input out stops = stops.0

image_stop : (from : LinesFrom) (telling : Telling) (image input : Input) (out image_out : Output) (status : Status) → StopsOnImage from telling image input out status
    → image_out.after ≡ image_out.before → SaysOnImage from telling image input out image_out status
image_stop from telling image input out image_out Done stop none = absurd (never_stops from telling stop.head (Mounts (numbers_named stop.head) stop.die) input out stop.stops)
image_stop from telling image input out image_out BadWords stop none = (stop, none)
image_stop from telling image input out image_out BadLine stop none = (stop, none)
image_stop from telling image input out image_out BadImage stop none = absurd (never_refuses from telling stop.head (Mounts (numbers_named stop.head) stop.die) input out stop.stops)
image_stop from telling image input out image_out ReadFault stop none = (inl stop, none)
image_stop from telling image input out image_out WriteFault stop none = inr (stop, none)
image_stop from telling image input out image_out OutOfMemory stop none = (inl stop, none)

-- the stage is the die of this image
abbrev IsStageOf : Input → Stage → Type 0
IsStageOf image (Blank asked) = ⊥
IsStageOf image (Image ready) = IsReadyOf image.before image.after ready.head (mem_state ready.die)

-- the image of the die that came back was given, or not whole
abbrev kept : (from : LinesFrom) (telling : Telling) (image input : Input) (head : ImageHead) (die : DieState) → IsReadyOf image.before image.after head die
    → (before between after : List Event) → after ≡ between → (last : MemDie) (left : List ℕ) → HasCells left (mem_state last)
    → PlaysAllOf from telling head (Mounts (numbers_named head) die) (λ (d : DieState). (m : MemDie) × (Some last ≡ Some m) × (mem_state m ≡ d)) input (output before between)
    → PlaysOnImage from telling image input (output before after) left
kept from telling image input head die of before between after same last left cells plays = record {
  head = head;
  die = die;
  ready = of;
  plays = subst (λ (log : List Event). PlaysAllOf from telling head (Mounts (numbers_named head) die) (HasCells left) input (output before log)) (sym same)
      (left_so from telling head (Mounts (numbers_named head) die) (λ (d : DieState). (m : MemDie) × (Some last ≡ Some m) × (mem_state m ≡ d)) (HasCells left)
      (λ d end. (let is : last ≡ end.0 = some_same last end.0 end.1 in subst (HasCells left) (ap mem_state is ∙ end.2) cells)) input (output before between) plays);
}

module _ (asked : Asked) (stage : Stage) (image : Input) (of : IsStageOf image stage) (input : Input)
    (before between after : List Event) (image_out : Output) (status : Status) where
  pub image_settles : (r : Result (Option MemDie) Halt)
      → IfOk r (λ left. (telling : Telling) × IsTold asked telling
      × PlaysAllOf asked.from telling (head_on stage) (StartOn stage) (EndOn stage left) input (output before between))
      → IfErr r (λ halt. (telling : Telling) × IsTold asked telling × HaltsOf asked.from telling stage input (output before between) halt)
      → Settles (head_on stage) r status between after image_out.before image_out.after
      → (telling : Telling) × IsTold asked telling × SaysOnImage asked.from telling image input (output before after) image_out status
  image_settles = settles_on stage of
    where
      settles_on : (on : Stage) → IsStageOf image on → (r : Result (Option MemDie) Halt)
          → IfOk r (λ left. (telling : Telling) × IsTold asked telling
          × PlaysAllOf asked.from telling (head_on on) (StartOn on) (EndOn on left) input (output before between))
          → IfErr r (λ halt. (telling : Telling) × IsTold asked telling × HaltsOf asked.from telling on input (output before between) halt)
          → Settles (head_on on) r status between after image_out.before image_out.after
          → (telling : Telling) × IsTold asked telling × SaysOnImage asked.from telling image input (output before after) image_out status
      settles_on (Blank die) ready r all halts settles = absurd ready
      settles_on (Image die) ready (Ok None) all halts settles =
          let end = left_in asked.from all.0 die.head (StartOn (Image die)) (EndOn (Image die) None) input (output before between) all.2 in
          absurd (none_is_some end.1.0 end.1.1)
      settles_on (Image die) ready (Ok (Some last)) all halts settles =
          let given = settles.1 in
          let plays = kept asked.from all.0 image input die.head (mem_state die.die) ready before between after settles.0 last given.0 given.1 all.2 in (
            all.0,
            all.1,
            elim given.2 [
              | inl done ↦ subst (SaysOnImage asked.from all.0 image input (output before after) image_out) (sym done.0) (given.0, plays, done.1)
              | inr lost ↦ subst (SaysOnImage asked.from all.0 image input (output before after) image_out) (sym lost.0) (inl (given.0, plays, lost.1))
            ],
          )
      settles_on (Image die) ready (Err NoSpare) all halts settles =
          let told = settles.0 in (
            halts.0,
            halts.1,
            subst (SaysOnImage asked.from halts.0 image input (output before after) image_out) (sym told.0) (
              (
                inr (record {
                  head = die.head;
                  cells = ready.cells;
                  is_image = ready.reads;
                  full = record { die = mem_state die.die; made = ready.made; full = halts.2.0 };
                  line = subst (λ (log : List Event). GivesLine no_spare log after) halts.2.2 told.1;
                }),
                halts.2.1,
              ),
              settles.1,
            ),
          )
      settles_on (Image die) ready (Err (Ended how)) all halts settles =
          let told = settles.0 in
          let stop : StopsOnImage asked.from halts.0 image input (output before after) how = record {
            head = die.head;
            die = mem_state die.die;
            ready = ready;
            stops = subst (λ (log : List Event). StopsOf asked.from halts.0 die.head (StartOn (Image die)) input (output before log) how) (sym told.1) halts.2;
          } in (
            halts.0,
            halts.1,
            subst (SaysOnImage asked.from halts.0 image input (output before after) image_out) (sym told.0)
                (image_stop asked.from halts.0 image input (output before after) image_out how stop settles.1),
          )

-- the image was refused, or not read
module _ (from : LinesFrom) (telling : Telling) (image : Input) (lines out_log : List Event) (after given : List Event) (status : Status) where
  no_image : (why : ImageError) → why ≢ errors.OutOfMemory → IsNoImageFor false (since image.before image.after) why → (status ≡ BadImage) × GivesLine (bad_image why) out_log after
      → SaysOnImage from telling image (input lines lines) (output out_log after) (output given given) status
  no_image why other refused told = subst (SaysOnImage from telling image (input lines lines) (output out_log after) (output given given)) (sym told.0)
      ((inl (record { why = why; not_memory = other; refused = refused; line = told.1 }), refl), refl)

  pub unread_says : (why : ImageReadError) → RefusesImage false image.before image.after why → SaysUnread why status out_log after
      → SaysOnImage from telling image (input lines lines) (output out_log after) (output given given) status
  unread_says images.Fault refused told = subst (SaysOnImage from telling image (input lines lines) (output out_log after) (output given given)) (sym told.0)
      (inr (omega (arith, refused), refl, told.1), refl)
  unread_says (images.Refused errors.OutOfMemory) refused told = subst (SaysOnImage from telling image (input lines lines) (output out_log after) (output given given)) (sym told.0)
      (inr (refl, told.1), refl)
  unread_says (images.Refused errors.Magic) refused told = no_image errors.Magic (λ is. absurd cc) refused.1 told
  unread_says (images.Refused errors.Version) refused told = no_image errors.Version (λ is. absurd cc) refused.1 told
  unread_says (images.Refused errors.Shape) refused told = no_image errors.Shape (λ is. absurd cc) refused.1 told
  unread_says (images.Refused errors.Short) refused told = no_image errors.Short (λ is. absurd cc) refused.1 told
  unread_says (images.Refused errors.Long) refused told = no_image errors.Long (λ is. absurd cc) refused.1 told
  unread_says (images.Refused errors.PadCells) refused told = no_image errors.PadCells (λ is. absurd cc) refused.1 told
