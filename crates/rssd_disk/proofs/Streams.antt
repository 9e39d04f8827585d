-- What was taken, take by take.
use Rattle.std.proofs.Common.{◌≡◌, ℕ, ◌+◌, ◌-◌, ◌≤◌, List, [], ◌∷◌, ◌++◌, length, take, drop, sym, ◌∙◌, ap, refl, arith}
use borrow.Rule.Slice.PartMut.{put_mid}
use Rattle.std.proofs.Math.Seq.{take-append-add}
use Rattle.std.proofs.lemmas.List.{append-nil, append_assoc, length-take, length-append, take-append-le}
use Rattle.rssd_io.specs.Event.{Event, bytes_of, bytes_in, moved, Adds}
use Rattle.rssd_disk.specs.Streams.{Takes, Skips}

bytes_of-append : (first second : List Event) → bytes_of (first ++ second) ≡ bytes_of first ++ bytes_of second
bytes_of-append [] second = refl
bytes_of-append (event ∷ first) second = ap (λ l. bytes_in event ++ l) (bytes_of-append first second) ∙ sym (append_assoc (bytes_in event) (bytes_of first) (bytes_of second))

pub takes_none : (log : List Event) → Takes log log []
takes_none log = record { events = []; came = sym (append-nil log); bytes_are = refl }

pub takes_trans : {old mid new : List Event} {first second : List ℕ} → Takes old mid first → Takes mid new second → Takes old new (first ++ second)
takes_trans {old} {mid} {new} {first} {second} f s = record {
  events = f.events ++ s.events;
  came = s.came ∙ ap (λ l. l ++ s.events) f.came ∙ append_assoc old f.events s.events;
  bytes_are = bytes_of-append f.events s.events ∙ ap (λ l. l ++ bytes_of s.events) f.bytes_are ∙ ap (λ l. first ++ l) s.bytes_are;
}

pub takes_one : (old new : List Event) (bytes : List ℕ) → Adds (moved bytes) old new → Takes old new bytes
takes_one old new bytes adds = record { events = moved bytes ∷ []; came = adds; bytes_are = append-nil bytes }

pub takes_more : (old mid new : List Event) (into piece : List ℕ) (at k count : ℕ) → at ≤ length into → count ≤ length piece → Takes old mid (take at into) → Adds (moved (take count piece)) mid new
    → Takes old new (take (at + count) (put_mid at k into piece))
takes_more old mid new into piece at k count inside fits took adds =
    let both : Takes old new (take at into ++ take count piece) = takes_trans took (takes_one mid new (take count piece) adds) in
    let front : length (take at into) ≡ at = length-take at into ∙ omega arith in
    let is : take (at + count) (put_mid at k into piece) ≡ take at into ++ take count piece
    = ap (λ n. take (n + count) (put_mid at k into piece)) (sym front)
    ∙ take-append-add (take at into) (piece ++ drop k (drop at into)) count
    ∙ ap (λ l. take at into ++ l) (take-append-le count piece (drop k (drop at into)) fits) in
    record { events = both.events; came = both.came; bytes_are = both.bytes_are ∙ sym is }

pub skips_more : (count left piece : ℕ) (old mid new : List Event) (bytes : List ℕ) → piece ≤ left → left ≤ count → length bytes ≡ piece → Skips (count - left) old mid → Takes mid new bytes
    → Skips (count - (left - piece)) old new
skips_more count left piece old mid new bytes inside within long skips taken = record {
  bytes = skips.bytes ++ bytes;
  long = length-append skips.bytes bytes ∙ omega (arith, skips.long);
  taken = takes_trans skips.taken taken;
}
