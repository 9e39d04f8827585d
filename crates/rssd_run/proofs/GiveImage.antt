-- An image that is given in pieces: those that were given, and those of the bytes that are left, are the pieces of the whole.
use Rattle.std.proofs.Common.{◌≡◌, ℕ, zero, suc, ◌+◌, ◌*◌, ◌<◌, ◌≤◌, false, min, List, [], ◌∷◌, ◌++◌, length, take, drop, get_or, refl, sym, ap, ◌∙◌, subst, inl, arith, append-nil, append_assoc}
use Rattle.std.proofs.Common.{length-append}
use Rattle.std.proofs.lemmas.List.{length-drop, nil_from_length, take-append-drop}
use Rattle.rssd_io.specs.Event.{Event, bytes_of, moved, failed}
use Rattle.rssd_io.specs.Pieces.{all_given, Gives, StopsIn}
use Rattle.rssd_io.proofs.Logs.{given_append}
use Rattle.cell_die.specs.DieState.{page_bytes}
use Rattle.die_image.specs.declared.scheme.SchemeName.{SchemeName}
use Rattle.die_image.specs.declared.head.ImageHead.{ImageHead}
use Rattle.die_image.specs.Schemes.{row_of}
use Rattle.die_image.specs.Image.{image, first_bytes, word, shape_of}
use Rattle.rssd_run.specs.GiveImage.{cut, pages_in, image_pieces}

-- so many pieces at most are enough
cut_enough : (size most more : ℕ) (bytes : List ℕ) → 0 < size → length bytes ≤ most → length bytes ≤ more → cut size most bytes ≡ cut size more bytes
unfolding cut
cut_enough size zero zero bytes some fits fits_too = refl
cut_enough size zero (suc more) [] some fits fits_too = refl
cut_enough size (suc most) zero [] some fits fits_too = refl
cut_enough size (suc most) (suc more) [] some fits fits_too = refl
cut_enough (suc size) (suc most) (suc more) (byte ∷ bytes) some fits fits_too =
    ap (λ (rest : List (List ℕ)). take (suc size) (byte ∷ bytes) ∷ rest)
    (cut_enough (suc size) most more (drop size bytes) some (omega (arith, fits, length-drop size bytes)) (omega (arith, fits_too, length-drop size bytes)))
cut_enough size zero more (byte ∷ bytes) some fits fits_too = absurd (omega (arith, fits))
cut_enough size more zero (byte ∷ bytes) some fits fits_too = absurd (omega (arith, fits_too))
cut_enough zero most more bytes some fits fits_too = absurd (omega (arith, some))

-- a piece of this size, or all
front : (size : ℕ) (piece behind : List ℕ) → length piece ≡ min size (length (piece ++ behind)) → (take size (piece ++ behind) ≡ piece) × (drop size (piece ++ behind) ≡ behind)
front zero [] behind fits = (refl, refl)
front zero (byte ∷ piece) behind fits = absurd (omega (arith, fits))
front (suc size) [] [] fits = (refl, refl)
front (suc size) [] (byte ∷ behind) fits = absurd (omega (arith, fits))
front (suc size) (byte ∷ piece) behind fits =
    let rest = front size piece behind (omega (arith, fits)) in
    (ap (λ (xs : List ℕ). byte ∷ xs) rest.0, rest.1)

-- the first page, and those behind it
pub pages_more : (size : ℕ) (piece behind : List ℕ) → 0 < size → 0 < length piece → length piece ≡ min size (length (piece ++ behind)) → pages_in size (piece ++ behind) ≡ piece ∷ pages_in size behind
unfolding cut
pages_more size [] behind some any fits = absurd (omega (arith, any))
pages_more size (byte ∷ piece) behind some any fits =
    let both = front size (byte ∷ piece) behind fits in
    ap (λ (xs : List ℕ). xs ∷ cut size (length (piece ++ behind)) (drop size (byte ∷ piece ++ behind))) both.0
    ∙ (ap (λ (xs : List ℕ). (byte ∷ piece) ∷ cut size (length (piece ++ behind)) xs) both.1
    ∙ ap (λ (pages : List (List ℕ)). (byte ∷ piece) ∷ pages) (cut_enough size (length (piece ++ behind)) (length behind) behind some (omega (arith, length-append piece behind)) (omega arith)))

-- what was given, and what is left of the pieces
pub record IsGiven (old new : List Event) (whole rest : List (List ℕ)) : Type 0 where
  pub front : List (List ℕ)
  pub given : new ≡ old ++ all_given front
  pub both : front ++ rest ≡ whole

pub given_none : (old : List Event) (whole : List (List ℕ)) → IsGiven old old whole whole
given_none old whole = record { front = []; given = sym (append-nil old); both = refl }

pub given_more : (old between new : List Event) (whole rest : List (List ℕ)) (piece : List ℕ) → IsGiven old between whole (piece ∷ rest) → new ≡ between ++ moved piece ∷ []
    → IsGiven old new whole rest
given_more old between new whole rest piece is came = record {
  front = is.front ++ piece ∷ [];
  given =
      came ∙ (ap (λ (xs : List Event). xs ++ moved piece ∷ []) is.given
      ∙ (append_assoc old (all_given is.front) (moved piece ∷ []) ∙ ap (λ (xs : List Event). old ++ xs) (sym (given_append is.front (piece ∷ [])))));
  both = append_assoc is.front (piece ∷ []) rest ∙ is.both;
}

-- a front of the next piece was given, and then the give failed
pub given_front : (old between new : List Event) (whole rest : List (List ℕ)) (piece : List ℕ) (n : ℕ) → IsGiven old between whole (piece ∷ rest)
    → new ≡ between ++ moved (take n piece) ∷ failed ∷ [] → StopsIn whole old new
given_front old between new whole rest piece n is came = inl (record {
  before = length is.front;
  inside = omega (arith, ap (length {A = List ℕ}) is.both, length-append is.front (piece ∷ rest));
  n = n;
  log = came ∙ (ap (λ (xs : List Event). xs ++ moved (take n piece) ∷ failed ∷ []) is.given
      ∙ (append_assoc old (all_given is.front) (moved (take n piece) ∷ failed ∷ [])
      ∙ (ap (λ (pieces : List (List ℕ)). old ++ (all_given pieces ++ moved (take n piece) ∷ failed ∷ [])) (sym here.0)
      ∙ ap (λ (this : List ℕ). old ++ (all_given (take (length is.front) whole) ++ moved (take n this) ∷ failed ∷ [])) (sym here.1))));
})
  where
    at : (front : List (List ℕ)) → (take (length front) (front ++ piece ∷ rest) ≡ front) × (get_or (front ++ piece ∷ rest) (length front) [] ≡ piece)
    at [] = (refl, refl)
    at (first ∷ front) = let so = at front in (ap (λ (xs : List (List ℕ)). first ∷ xs) so.0, so.1)

    here : (take (length is.front) whole ≡ is.front) × (get_or whole (length is.front) [] ≡ piece)
    here = subst (λ (xs : List (List ℕ)). (take (length is.front) xs ≡ is.front) × (get_or xs (length is.front) [] ≡ piece)) is.both (at is.front)

-- ---- page by page

next_page : (size : ℕ) (rest piece behind : List ℕ) → 0 < size → rest ≡ piece ++ behind → length piece ≡ min size (length rest) → 0 < length rest → pages_in size rest ≡ piece ∷ pages_in size behind
next_page size rest piece behind some parts fits any =
    let fits_now : length piece ≡ min size (length (piece ++ behind)) = fits ∙ ap (λ (xs : List ℕ). min size (length xs)) parts in
    ap (pages_in size) parts ∙ pages_more size piece behind some (omega (arith, some, fits, any)) fits_now

pub given_page : (old between new : List Event) (whole : List (List ℕ)) (size : ℕ) (rest piece behind : List ℕ) → IsGiven old between whole (pages_in size rest) → 0 < size → rest ≡ piece ++ behind
    → length piece ≡ min size (length rest) → 0 < length rest
    → new ≡ between ++ moved piece ∷ [] → IsGiven old new whole (pages_in size behind)
given_page old between new whole size rest piece behind is some parts fits any came =
    given_more old between new whole (pages_in size behind) piece (subst (IsGiven old between whole) (next_page size rest piece behind some parts fits any) is) came

pub given_part : (old between new : List Event) (whole : List (List ℕ)) (size : ℕ) (rest piece behind : List ℕ) (n : ℕ) → IsGiven old between whole (pages_in size rest) → 0 < size
    → rest ≡ piece ++ behind → length piece ≡ min size (length rest) → 0 < length rest
    → new ≡ between ++ moved (take n piece) ∷ failed ∷ [] → StopsIn whole old new
given_part old between new whole size rest piece behind n is some parts fits any came =
    given_front old between new whole (pages_in size behind) piece n (subst (IsGiven old between whole) (next_page size rest piece behind some parts fits any) is) came

-- the head was given, whose bytes are these
pub given_head : (old new : List Event) (head : List ℕ) (bytes : List ℕ) (pages : List (List ℕ)) → head ≡ bytes ++ [] → new ≡ old ++ moved bytes ∷ [] → IsGiven old new (head ∷ pages) pages
given_head old new head bytes pages is came =
    given_more old old new (head ∷ pages) pages head (given_none old (head ∷ pages)) (subst (λ (xs : List ℕ). new ≡ old ++ moved xs ∷ []) (sym (is ∙ append-nil bytes)) came)

-- a front of the head was given, and then the give failed
pub given_head_part : (old new : List Event) (head : List ℕ) (bytes : List ℕ) (pages : List (List ℕ)) (n : ℕ) → head ≡ bytes ++ [] → new ≡ old ++ moved (take n bytes) ∷ failed ∷ []
    → StopsIn (head ∷ pages) old new
given_head_part old new head bytes pages n is came =
    given_front old old new (head ∷ pages) pages head n (given_none old (head ∷ pages)) (subst (λ (xs : List ℕ). new ≡ old ++ moved (take n xs) ∷ failed ∷ []) (sym (is ∙ append-nil bytes)) came)

-- no byte is left: all was given
pub given_whole : (old new : List Event) (whole : List (List ℕ)) (size : ℕ) (rest : List ℕ) → IsGiven old new whole (pages_in size rest) → length rest ≡ 0 → Gives whole old new
unfolding cut
given_whole old new whole size rest is none =
    let left : pages_in size rest ≡ [] = ap (pages_in size) (nil_from_length rest none) in
    is.given ∙ ap (λ (pieces : List (List ℕ)). old ++ all_given pieces) (sym (append-nil is.front) ∙ (ap (λ (xs : List (List ℕ)). is.front ++ xs) (sym left) ∙ is.both))

-- ---- the pieces of an image, one after another, are the image

cut_bytes : (size most : ℕ) (bytes : List ℕ) → 0 < size → length bytes ≤ most → bytes_of (all_given (cut size most bytes)) ≡ bytes
unfolding cut
cut_bytes size zero [] some fits = refl
cut_bytes size (suc most) [] some fits = refl
cut_bytes (suc size) (suc most) (byte ∷ bytes) some fits =
    ap (λ (xs : List ℕ). take (suc size) (byte ∷ bytes) ++ xs) (cut_bytes (suc size) most (drop size bytes) some (omega (arith, fits, length-drop size bytes)))
    ∙ take-append-drop (suc size) (byte ∷ bytes)
cut_bytes size zero (byte ∷ bytes) some fits = absurd (omega (arith, fits))
cut_bytes zero most bytes some fits = absurd (omega (arith, some))

page_size : (scheme : SchemeName) → 0 < (row_of scheme).page_bytes + 16 * (row_of scheme).generations
unfolding row_of
page_size scheme = grind arith

joined : (head : ImageHead) (cells : List ℕ) → image head [] ++ cells ≡ image head cells
unfolding image
joined head cells = append_assoc (first_bytes false head ++ word (row_of head.scheme).generations) [] cells

pub image_bytes : (head : ImageHead) (cells : List ℕ) → bytes_of (all_given (image_pieces head cells)) ≡ image head cells
image_bytes head cells =
    ap (λ (xs : List ℕ). image head [] ++ xs) (cut_bytes (page_bytes (shape_of head)) (length cells) cells (page_size head.scheme) (omega arith)) ∙ joined head cells
