-- Where all lines can be played and no call failed, two statuses are left.
use Rattle.std.proofs.Common.{◌≡◌, ◌⊎◌, inl, inr, ℕ, ◌+◌, List, [], ◌∷◌, ◌++◌, length, map, false, Result, Ok, Err, refl, ap, sym, ◌∙◌, subst, append-nil}
use Rattle.std.specs.List.{AllZip, AllByRecursion}
use Rattle.die_image.specs.declared.error.ImageError.{ImageError}
use Rattle.die_image.specs.declared.head.ImageHead.{ImageHead}
use Rattle.rssd_core.specs.DeviceValue.{DeviceValue}
use Rattle.rssd_core.specs.Mount.{Mounts}
use Rattle.rssd_io.specs.Event.{Event, HasEnded, bytes_of}
use Rattle.rssd_io.proofs.Logs.{since_is}
use Rattle.rssd_script.specs.declared.lines.Line.{Line}
use Rattle.rssd_script.specs.Script.{Spells, IsScript, IsWithinGrammar, FirstBadLine, line_text, script_text, text_lines}
use Rattle.rssd_script.proofs.Cuts.{text_lines-whole}
use Rattle.rssd_script.proofs.Unique.{one_line, one_script, no_bad}
use Rattle.rssd_run.specs.GiveImage.{image_pieces}
use Rattle.rssd_run.specs.Heads.{numbers_named}
use Rattle.rssd_run.specs.ImageRuns.{IsFull}
use Rattle.rssd_run.specs.Played.{IsPlayed}
use Rattle.rssd_run.specs.Statuses.{Input, Output, takes, taken, ReadFailed, WriteFailed}
use Rattle.rssd_run.specs.Top.{IsNoImage, IsFullImage}
use Rattle.rssd_run.proofs.CallStops.{stopped}
use Rattle.lab_stream.proofs.Takes.{failed_later}
use Rattle.lab_words.specs.declared.asked.Asked.{Asked}
use Rattle.lab_words.specs.declared.asked.AskedDie.{AskedDie}
use Rattle.lab_words.specs.declared.asked.DieFrom.{DieFrom}
use Rattle.lab_words.specs.declared.asked.DieFrom.TheVariants.{Blank, Image}
use Rattle.lab_words.specs.declared.asked.LinesFrom.{LinesFrom}
use Rattle.lab_words.specs.declared.asked.LinesFrom.TheVariants.{Stream, Drawn}
use Rattle.lab_stream.specs.Spelled.{EndsOnce}
use Rattle.rssd_lab.specs.declared.telling.Telling.{Telling}
use Rattle.rssd_lab.specs.declared.status.Status.{Status}
use Rattle.rssd_lab.specs.declared.status.Status.TheVariants.{Done, BadWords, BadLine, BadImage, ReadFault, WriteFault, OutOfMemory}
use Rattle.rssd_lab.specs.Dies.{IsBlankDevice}
use Rattle.rssd_lab.specs.Ends.{Call, StopsInput, StopsOf, SaysOnBlank, SaysOnImage, StopsOnImage, SaysOn, SaysOf, IsOutside, IsUnplayed, HasPlayed, HoldsImage, IsThere, ArePlayed, IsComplete}

-- ---- the last of the first lines of a script

zip_within : (texts : List (List ℕ)) (lines : List Line) → AllZip Spells texts lines → AllByRecursion IsWithinGrammar lines
zip_within [] [] zip = tt
zip_within [] (line ∷ lines) zip = absurd zip
zip_within (text ∷ texts) [] zip = tt
zip_within (text ∷ texts) (line ∷ lines) zip = (zip.0.0, zip_within texts lines zip.1)

last_of : (lines : List Line) (last : Line) (more : List (List ℕ)) (all : List Line) → AllByRecursion IsWithinGrammar (lines ++ last ∷ [])
    → AllZip Spells (map line_text (lines ++ last ∷ []) ++ more) all → AllByRecursion IsPlayed all → IsPlayed last
last_of [] last more [] within zip played = absurd zip
last_of [] last more (line ∷ all) within zip played = subst IsPlayed (one_line line last zip.0.0 within.0 (sym zip.0.1)) played.0
last_of (first ∷ lines) last more [] within zip played = absurd zip
last_of (first ∷ lines) last more (line ∷ all) within zip played = last_of lines last more all within.1 zip.1 played.1

last_in : (lines : List Line) (last : Line) → AllByRecursion IsPlayed (lines ++ last ∷ []) → IsPlayed last
last_in [] last played = played.0
last_in (first ∷ lines) last played = last_in lines last played.1

last_played : (bytes front ahead : List ℕ) (after : List Event) (lines : List Line) (last : Line) (all : List Line) → bytes ≡ front ++ ahead → IsScript front (lines ++ last ∷ [])
    → (front ≡ script_text (lines ++ last ∷ [])) ⊎ ((ahead ≡ []) × HasEnded after) → IsScript bytes all → AllByRecursion IsPlayed all → IsPlayed last
last_played bytes front ahead after lines last all is script (inl whole) whole_script played =
    let within = zip_within (text_lines front) (lines ++ last ∷ []) script in
    let cut : text_lines bytes ≡ map line_text (lines ++ last ∷ []) ++ text_lines ahead =
    ap text_lines (is ∙ ap (λ (first : List ℕ). first ++ ahead) whole) ∙ text_lines-whole (lines ++ last ∷ []) ahead within in
    last_of lines last (text_lines ahead) all within (subst (λ (texts : List (List ℕ)). AllZip Spells texts all) cut whole_script) played
last_played bytes front ahead after lines last all is script (inr over) whole_script played =
    let same : bytes ≡ front = is ∙ ap (λ (more : List ℕ). front ++ more) over.0 ∙ append-nil front in
    let one : all ≡ lines ++ last ∷ [] = one_script front all (lines ++ last ∷ []) (subst (λ (text : List ℕ). IsScript text all) same whole_script) script in
    last_in lines last (subst (AllByRecursion IsPlayed) one played)

-- ---- each status

module _ (telling : Telling) (Start : DeviceValue → Type 0) (input : Input) (out : Output) where
  never_outside : HasPlayed input → IsOutside telling Start input out → ⊥
  never_outside script outside =
      let bad = outside.bad in
      let is : takes input ≡ bad.events = since_is input.before input.after bad.events bad.came in
      let first : FirstBadLine (taken input) (length outside.lines + 1) =
      subst (λ (events : List Event). FirstBadLine (bytes_of events) (length outside.lines + 1)) (sym is) (bad.bad (subst EndsOnce is script.once)) in
      no_bad (taken input) script.lines (length outside.lines + 1) script.script first

  never_unplayed : HasPlayed input → IsUnplayed telling Start input out → ⊥
  never_unplayed script unplayed =
      let came = unplayed.came.1 in
      let is : takes input ≡ came.events = since_is input.before input.after came.events came.came in
      let are = came.spelled (subst EndsOnce is script.once) in
      unplayed.unplayed (last_played (taken input) came.front unplayed.came.0 input.after unplayed.lines unplayed.last script.lines
      (ap bytes_of is ∙ came.bytes) are.script are.whole script.script script.played)

  input_completes : (status : Status) → StopsInput telling Start input out status → HasPlayed input → (ReadFailed input → ⊥) → (WriteFailed out → ⊥)
      → (status ≡ Done) ⊎ (status ≡ OutOfMemory)
  input_completes Done stops script read given = inl refl
  input_completes OutOfMemory stops script read given = inr refl
  input_completes BadWords stops script read given = absurd stops
  input_completes BadImage stops script read given = absurd stops
  input_completes BadLine (inl outside) script read given = absurd (never_outside script outside)
  input_completes BadLine (inr unplayed) script read given = absurd (never_unplayed script unplayed)
  input_completes ReadFault stops script read given =
      let came = stops.came in
      absurd (read (failed_later input.before came.between input.after came.streamed.events came.streamed.came came.failed))
  input_completes WriteFault stops script read given = absurd (given stops.failed)

  stops_complete : (from : LinesFrom) (head : ImageHead) (status : Status) → StopsOf from telling head Start input out status → ArePlayed from input
      → (ReadFailed input → ⊥) → (WriteFailed out → ⊥) → (status ≡ Done) ⊎ (status ≡ OutOfMemory)
  stops_complete Stream head status stops script read given = input_completes status stops script read given
  stops_complete (Drawn kind seed count idle) head Done stops script read given = inl refl
  stops_complete (Drawn kind seed count idle) head OutOfMemory stops script read given = inr refl
  stops_complete (Drawn kind seed count idle) head BadWords stops script read given = absurd stops.0
  stops_complete (Drawn kind seed count idle) head BadLine stops script read given = absurd stops.0
  stops_complete (Drawn kind seed count idle) head BadImage stops script read given = absurd stops.0
  stops_complete (Drawn kind seed count idle) head ReadFault stops script read given = absurd stops.0
  stops_complete (Drawn kind seed count idle) head WriteFault stops script read given = absurd (given stops.0.failed)

ok_same : (x y : ImageHead × List ℕ) → ◌≡◌ {A = Result (ImageHead × List ℕ) ImageError} (Ok x) (Ok y) → x ≡ y
ok_same x y is = cc

module _ (from : LinesFrom) (telling : Telling) (call : Call) (played : ArePlayed from call.input) (read : ReadFailed call.input → ⊥) (given : WriteFailed call.out → ⊥) where
  blank_completes : (die : AskedDie) (status : Status) → SaysOnBlank from telling die call.input call.out status → (status ≡ Done) ⊎ (status ≡ OutOfMemory)
  blank_completes die Done says = inl refl
  blank_completes die OutOfMemory says = inr refl
  blank_completes die BadWords says = stops_complete telling (IsBlankDevice die) call.input call.out from die.head BadWords says played read given
  blank_completes die BadLine says = stops_complete telling (IsBlankDevice die) call.input call.out from die.head BadLine says played read given
  blank_completes die BadImage says = stops_complete telling (IsBlankDevice die) call.input call.out from die.head BadImage says played read given
  blank_completes die ReadFault says = stops_complete telling (IsBlankDevice die) call.input call.out from die.head ReadFault says played read given
  blank_completes die WriteFault says = stops_complete telling (IsBlankDevice die) call.input call.out from die.head WriteFault says played read given

  stop_completes : (status : Status) → StopsOnImage from telling call.image call.input call.out status → (status ≡ Done) ⊎ (status ≡ OutOfMemory)
  stop_completes status stop = stops_complete telling (Mounts (numbers_named stop.head) stop.die) call.input call.out from stop.head status stop.stops played read given

  never_refused : HoldsImage call → IsNoImage false call.image call.out ⊎ IsFullImage call.image call.out → ⊥
  never_refused holds (inl none) =
      let wrong : Ok (holds.head, holds.cells) ≡ Err none.why = sym holds.reads ∙ none.refused.refused in
      absurd cc
  never_refused holds (inr full) =
      let same : ◌≡◌ {A = ImageHead × List ℕ} (full.head, full.cells) (holds.head, holds.cells) =
      ok_same (full.head, full.cells) (holds.head, holds.cells) (sym full.is_image.reads ∙ holds.reads) in
      holds.spare (subst (λ (p : ImageHead × List ℕ). IsFull p.0 p.1) same full.full)

  image_completes : (status : Status) → HoldsImage call → SaysOnImage from telling call.image call.input call.out call.image_out status → (status ≡ Done) ⊎ (status ≡ OutOfMemory)
  image_completes Done holds says = inl refl
  image_completes OutOfMemory holds says = inr refl
  image_completes BadWords holds says = stop_completes BadWords says.0
  image_completes BadLine holds says = stop_completes BadLine says.0
  image_completes BadImage holds says = absurd (never_refused holds says.0.0)
  image_completes ReadFault holds says = elim says.0 [ inl stop ↦ stop_completes ReadFault stop | inr failed ↦ absurd (holds.read failed.0) ]
  image_completes WriteFault holds (inl lost) =
      absurd (holds.given (stopped (image_pieces lost.1.head lost.0) call.image_out.before call.image_out.after lost.2))
  image_completes WriteFault holds (inr halts) = stop_completes WriteFault halts.0

  on_completes : (die : DieFrom) (status : Status) → SaysOn die from telling call status → IsThere die call → (status ≡ Done) ⊎ (status ≡ OutOfMemory)
  on_completes (Blank die) status says there = blank_completes die status says.0
  on_completes Image status says there = image_completes status there says.0

pub completes : (asked : Asked) (call : Call) (status : Status) → SaysOf asked call status → IsComplete asked call status
completes asked call status says = λ played there read given. on_completes asked.from says.telling call played read given asked.die status says.says there
