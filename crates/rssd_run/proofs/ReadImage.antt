-- What a reader was fed of what was taken, and what its end says.
use Rattle.std.proofs.Common.{◌≡◌, ℕ, ◌+◌, ◌-◌, ◌<◌, ◌≤◌, Bool, false, List, [], ◌∷◌, ◌++◌, length, take, Result, Ok, Err, refl, sym, ap, ◌∙◌, subst, inl, inr, arith, append-nil, length-append}
use Rattle.std.specs.Prelude.{◌⊎◌}
use Rattle.rssd_io.specs.Event.{Event, HasEnded, Adds, moved, failed, bytes_of, failures, since}
use Rattle.rssd_io.proofs.Logs.{since_is, grew, failures_append, bytes_append, bytes_more, ends_with, more_came}
use Rattle.die_image.specs.declared.head.ImageHead.{ImageHead}
use Rattle.die_image.specs.declared.error.ImageError.{ImageError}
use Rattle.die_image.specs.declared.error.ImageError.TheVariants.{OutOfMemory, Magic, Version, Shape, Short, Long, PadCells}
use Rattle.die_image.specs.Image.{head_read, image_read, AreCells, Fed, wanted, end_read}
use Rattle.die_image.specs.Reach.{reach_of, IsWithinReach, IsRefusedAnyway}
use Rattle.die_image.proofs.Back.{read_found}
use Rattle.die_image.proofs.Reach.{stays_within, reach_bound, refused_anyway}
use Rattle.rssd_run.specs.declared.run.image.ImageReadError.TheVariants.{Fault, Refused}
use Rattle.rssd_run.specs.ReadImage.{ReadsImage, IsNoImageFor, AreNoImage, RefusesImage, TakesImage, IsFed, HasAll}

-- ---- what a reader was fed

-- nothing was taken yet
pub fed_none : (log : List Event) (was : Fed) → was.is_failed ≡ false → was.bytes ≡ [] → IsWithinReach was → IsFed log log was was
fed_none log was well none within = record { events = []; came = sym (append-nil log); served = refl; bytes = none; version = refl; well = well; within = within }

pub fed_more : (old between new : List Event) (was fed next : Fed) (piece : List ℕ) → IsFed old between was fed → Adds (moved piece) between new → length piece ≤ wanted fed
    → next ≡ record fed { bytes = fed.bytes ++ piece }
    → IsFed old new was next
fed_more old between new was fed next piece is adds fits next-is =
    subst (IsFed old new was) (sym next-is) (record {
      events = is.events ++ moved piece ∷ [];
      came = more_came old between new is.events (moved piece) is.came adds;
      served = omega (arith, failures_append is.events (moved piece ∷ []), is.served);
      bytes = ap (λ (xs : List ℕ). xs ++ piece) is.bytes ∙ sym (bytes_more is.events piece);
      version = is.version;
      well = is.well;
      within = stays_within fed piece is.well is.within fits;
    })

-- a take of nothing
pub took_none : (between new : List Event) (count : ℕ) (into : List ℕ) → count ≡ 0 → Adds (moved (take count into)) between new → Adds (moved []) between new
took_none between new count into none adds = subst (λ (n : ℕ). Adds (moved (take n into)) between new) none adds

-- the source is at its end
pub fed_same : (old between new : List Event) (was fed : Fed) → IsFed old between was fed → Adds (moved []) between new → IsFed old new was fed
fed_same old between new was fed is adds = record {
  events = is.events ++ moved [] ∷ [];
  came = more_came old between new is.events (moved []) is.came adds;
  served = omega (arith, failures_append is.events (moved [] ∷ []), is.served);
  bytes = is.bytes ∙ sym (bytes_more is.events [] ∙ append-nil (bytes_of is.events));
  version = is.version;
  well = is.well;
  within = is.within;
}

pub has_ended : (old between new : List Event) (was fed : Fed) → IsFed old between was fed → Adds (moved []) between new → HasEnded (since old new)
has_ended old between new was fed is adds =
    let events : List Event = is.events ++ moved [] ∷ [] in
    subst HasEnded (sym (since_is old new events (more_came old between new is.events (moved []) is.came adds))) (ends_with is.events (moved []))

-- ---- how much was taken

takes : (is_old : Bool) (old new events : List Event) (bytes : List ℕ) → new ≡ old ++ events → bytes ≡ bytes_of events → length bytes ≤ reach_of is_old (head_read is_old bytes)
    → TakesImage is_old old new
takes is_old old new events bytes came are within = record {
  grew = grew old new events came;
  most = subst (λ (xs : List ℕ). length xs ≤ reach_of is_old (head_read is_old xs)) (are ∙ ap bytes_of (sym (since_is old new events came))) within;
}

-- a source that was not called
pub takes_nothing : (is_old : Bool) (log : List Event) → TakesImage is_old log log
takes_nothing is_old log = takes is_old log log [] [] (sym (append-nil log)) refl (omega arith)

pub taken : (old new : List Event) (was fed : Fed) → IsFed old new was fed → TakesImage was.is_old old new
taken old new was fed is = subst (λ (is_old : Bool). TakesImage is_old old new) is.version (takes fed.is_old old new is.events fed.bytes is.came is.bytes is.within)

-- a take more, which failed
pub taken_failed : (old between new : List Event) (was fed : Fed) → IsFed old between was fed → Adds failed between new → TakesImage was.is_old old new
taken_failed old between new was fed is adds =
    let events : List Event = is.events ++ failed ∷ [] in
    subst (λ (is_old : Bool). TakesImage is_old old new) is.version
    (takes fed.is_old old new events fed.bytes (more_came old between new is.events failed is.came adds)
    (is.bytes ∙ sym (bytes_append is.events (failed ∷ []) ∙ append-nil (bytes_of is.events))) is.within)

pub fault : (is_old : Bool) (old between new : List Event) (was fed : Fed) → IsFed old between was fed → Adds failed between new → RefusesImage is_old old new Fault
fault is_old old between new was fed is adds =
    ap failures (since_is old new (is.events ++ failed ∷ []) (more_came old between new is.events failed is.came adds)) ∙ omega (arith, failures_append is.events (failed ∷ []), is.served)

-- a take was served, but there was no memory to feed what came
pub stuck : (is_old : Bool) (old between new : List Event) (was fed : Fed) (piece : List ℕ) → IsFed old between was fed → Adds (moved piece) between new
    → RefusesImage is_old old new (Refused OutOfMemory)
stuck is_old old between new was fed piece is adds = (
  ap failures (since_is old new (is.events ++ moved piece ∷ []) (more_came old between new is.events (moved piece) is.came adds))
      ∙ omega (arith, failures_append is.events (moved piece ∷ []), is.served),
  tt,
)

-- there is an end of what a reader is fed
pub falls : (fed next : Fed) (piece : List ℕ) → fed.is_failed ≡ false → IsWithinReach fed → length piece ≤ wanted fed → 0 < length piece → next ≡ record fed { bytes = fed.bytes ++ piece }
    → 67_108_897 - length next.bytes < 67_108_897 - length fed.bytes
falls fed next piece well within fits some next-is =
    let more : length next.bytes ≡ length fed.bytes + length piece = ap (λ (f : Fed). length f.bytes) next-is ∙ length-append fed.bytes piece in
    let bounded : length (fed.bytes ++ piece) ≤ reach_of fed.is_old (head_read fed.is_old (fed.bytes ++ piece)) = stays_within fed piece well within fits in
    omega (arith, more, bounded, length-append fed.bytes piece, reach_bound fed.is_old (fed.bytes ++ piece))

-- ---- what a reader's end says

refused_so : (is_old : Bool) (bytes : List ℕ) (why : ImageError) → IsRefusedAnyway is_old bytes why → image_read is_old bytes ≡ Err why
refused_so is_old bytes why anyway = ap (image_read is_old) (sym (append-nil bytes)) ∙ anyway []

no_error : {X : Type 0} (x : X) (why : ImageError) (read : Result X ImageError) → read ≡ Ok x → read ≡ Err why → ⊥
no_error x why read ok err = cc

same_error : {X : Type 0} (why other : ImageError) (read : Result X ImageError) → read ≡ Err why → read ≡ Err other → other ≡ why
same_error why other read this that = cc

-- what the end of a reader answers where it has not failed
end_of : (fed : Fed) → fed.is_failed ≡ false → end_read fed ≡ image_read fed.is_old fed.bytes
end_of fed well = rw well refl

-- an image is wanted to its end, and a byte more
all_read : (events : List Event) (fed : Fed) (x : ImageHead × List ℕ) → fed.is_failed ≡ false → image_read fed.is_old fed.bytes ≡ Ok x → HasAll events fed → HasEnded events
all_read events fed x well read (inl ended) = ended
all_read events fed x well read (inr none) =
    let anyway = refused_anyway fed well none in
    absurd (no_error x anyway.0 (image_read fed.is_old fed.bytes) read (refused_so fed.is_old fed.bytes anyway.0 anyway.1))

-- the bytes that were fed are those that were taken
bytes_are : (old new : List Event) (was fed : Fed) (is : IsFed old new was fed) → fed.bytes ≡ bytes_of (since old new)
bytes_are old new was fed is = is.bytes ∙ ap bytes_of (sym (since_is old new is.events is.came))

served : (old new : List Event) (was fed : Fed) → IsFed old new was fed → failures (since old new) ≡ 0
served old new was fed is = ap failures (since_is old new is.events is.came) ∙ is.served

pub reads_image : (old new : List Event) (was fed : Fed) (head : ImageHead) (cells : List ℕ) → IsFed old new was fed → HasAll (since old new) fed → end_read fed ≡ Ok (head, cells)
    → ReadsImage was.is_old old new head cells
reads_image old new was fed head cells is all read =
    let of_fed : image_read fed.is_old fed.bytes ≡ Ok (head, cells) = sym (end_of fed is.well) ∙ read in
    subst (λ (is_old : Bool). ReadsImage is_old old new head cells) is.version (record {
      served = served old new was fed is;
      ended = all_read (since old new) fed (head, cells) is.well of_fed all;
      reads = subst (λ (xs : List ℕ). image_read fed.is_old xs ≡ Ok (head, cells)) (bytes_are old new was fed is) of_fed;
    })

settled : (events : List Event) (fed : Fed) (why : ImageError) → fed.is_failed ≡ false → image_read fed.is_old fed.bytes ≡ Err why → HasAll events fed
    → HasEnded events ⊎ IsRefusedAnyway fed.is_old fed.bytes why
settled events fed why well read (inl ended) = inl ended
settled events fed why well read (inr none) =
    let anyway = refused_anyway fed well none in
    inr (subst (IsRefusedAnyway fed.is_old fed.bytes) (same_error why anyway.0 (image_read fed.is_old fed.bytes) read (refused_so fed.is_old fed.bytes anyway.0 anyway.1)) anyway.1)

named : (is_old : Bool) (events : List Event) (why : ImageError) → IsNoImageFor is_old events why → AreNoImage is_old events why
named is_old events OutOfMemory is = tt
named is_old events Magic is = is
named is_old events Version is = is
named is_old events Shape is = is
named is_old events Short is = is
named is_old events Long is = is
named is_old events PadCells is = is

pub no_image : (old new : List Event) (was fed : Fed) (why : ImageError) → IsFed old new was fed → HasAll (since old new) fed → end_read fed ≡ Err why → RefusesImage was.is_old old new (Refused why)
no_image old new was fed why is all read =
    let events : List Event = since old new in
    let of_fed : image_read fed.is_old fed.bytes ≡ Err why = sym (end_of fed is.well) ∙ read in
    let both : (xs : List ℕ) → fed.bytes ≡ xs → (image_read fed.is_old xs ≡ Err why) × (HasEnded events ⊎ IsRefusedAnyway fed.is_old xs why)
    = λ xs are. subst (λ (ys : List ℕ). (image_read fed.is_old ys ≡ Err why) × (HasEnded events ⊎ IsRefusedAnyway fed.is_old ys why)) are (of_fed, settled events fed why is.well of_fed all) in
    let here = both (bytes_of events) (bytes_are old new was fed is) in
    (served old new was fed is, subst (λ (is_old : Bool). AreNoImage is_old events why) is.version (named fed.is_old events why (record { refused = here.0; settled = here.1 })))

-- the cells of what was read are those of its head
pub read_cells : (fed : Fed) (head : ImageHead) (cells : List ℕ) → fed.is_failed ≡ false → end_read fed ≡ Ok (head, cells) → AreCells head cells
read_cells fed head cells well read = (read_found fed.is_old fed.bytes head cells (sym (end_of fed well) ∙ read)).are
