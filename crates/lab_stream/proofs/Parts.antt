-- A text gets the next part of a piece.
use Rattle.std.proofs.Common.{◌≡◌, inl, inr, ℕ, ◌+◌, ◌-◌, ◌<◌, ◌≤◌, Bool, true, false, List, [], ◌∷◌, ◌++◌, length, take, drop, refl, ap, sym, ◌∙◌, subst, arith, append_assoc}
use Rattle.std.specs.Prelude.{slice_range}
use Rattle.std.proofs.lemmas.List.{take-append-drop, take-take, drop-take, drop-drop, length-take, length-drop}
use Rattle.rssd_script.specs.Reading.{Lacks}
use Rattle.rssd_script.proofs.Texts.{Lacks-append}
use Rattle.lab_stream.specs.Texts.{IsEnded, IsText}
use Rattle.lab_stream.specs.declared.stream.Stream.{Stream}
use Rattle.lab_stream.specs.Streaming.{EndsOrGoesOn, IsWhole, ahead_of}

-- the first bytes of a range
pub front_of : (piece : List ℕ) (at end n : ℕ) → at + n ≤ end → take n (slice_range piece at end) ≡ slice_range piece at (at + n)
front_of piece at end n within =
    let e : n ≡ at + n - at = omega arith in
    take-take n (end - at) (drop at piece) (omega arith) ∙ ap (λ (k : ℕ). take k (drop at piece)) e

-- a range is its first bytes and the range of the others
pub parts_of : (piece : List ℕ) (at end n : ℕ) → at + n ≤ end → slice_range piece at end ≡ slice_range piece at (at + n) ++ slice_range piece (at + n) end
parts_of piece at end n within =
    let k : ℕ = end - (at + n) in
    let e : end - at ≡ n + k = omega arith in
    let rest : drop n (slice_range piece at end) ≡ slice_range piece (at + n) end =
    ap (λ (m : ℕ). drop n (take m (drop at piece))) e ∙ drop-take n k (drop at piece) ∙ ap (take k) (drop-drop n at piece) in
    sym (take-append-drop n (slice_range piece at end))
    ∙ ap (λ (front : List ℕ). front ++ drop n (slice_range piece at end)) (front_of piece at end n within)
    ∙ ap (λ (back : List ℕ). slice_range piece at (at + n) ++ back) rest

pub length_of_range : (piece : List ℕ) (at end : ℕ) → at ≤ end → end ≤ length piece → length (slice_range piece at end) ≡ end - at
length_of_range piece at end order room = omega (arith, length-take (end - at) (drop at piece), length-drop at piece)

-- the text behind a text that has begun
pub ended_behind : (text part : List ℕ) → Lacks 10 text → IsEnded part → IsEnded (text ++ part)
ended_behind text part lacks ended = record {
  front = text ++ ended.front;
  no_feed = Lacks-append 10 text ended.front lacks ended.no_feed;
  is = ap (λ (more : List ℕ). text ++ more) ended.is ∙ sym (append_assoc text ended.front (10 ∷ []));
}

all_of : (xs : List ℕ) (n : ℕ) → n ≡ length xs → take n xs ≡ xs
all_of xs n e = ap (λ (k : ℕ). take k xs) e ∙ whole_list xs
  where
    whole_list : (ys : List ℕ) → take (length ys) ys ≡ ys
    whole_list [] = refl
    whole_list (y ∷ ys) = ap (λ (rest : List ℕ). y ∷ rest) (whole_list ys)

-- a text that has got a part which its room has no place for
pub long_text : (text more : List ℕ) (count : ℕ) (whole : Bool) → Lacks 10 text → EndsOrGoesOn more count whole → count ≤ length more → 1049 < length (text ++ take count more)
    → IsText (text ++ take count more)
long_text text more count true lacks ended within long = inl (ended_behind text (take count more) lacks ended)
long_text text more count false lacks goes within long =
    let lacks_more : Lacks 10 (take count more) = subst (Lacks 10) (sym (all_of more count goes.1)) goes.0 in
    inr (Lacks-append 10 text (take count more) lacks lacks_more, omega (arith, long))

-- whether the text is whole with its new part
pub whole_now : {S : Type 0} (whole : Bool) (text now more : List ℕ) (count : ℕ) (stream : Stream S) → Lacks 10 text → EndsOrGoesOn more count whole
    → now ≡ text ++ take count more → (count ≡ length more → ahead_of stream ≡ []) → IsWhole whole now stream
whole_now true text now more count stream lacks ends is rest = subst IsEnded (sym is) (ended_behind text (take count more) lacks ends)
whole_now false text now more count stream lacks goes is rest =
    (subst (Lacks 10) (sym is) (Lacks-append 10 text (take count more) lacks (subst (Lacks 10) (sym (all_of more count goes.1)) goes.0)), rest goes.1)
