-- What marks say is the verdict on the cells, and sound cells have no other verdict.
use Rattle.std.proofs.Common.{◌≡◌, inl, inr, ℕ, ◌+◌, ◌*◌, ◌^◌, ◌<◌, ◌≤◌, List, [], ◌∷◌, ◌++◌, map, true, length, slice_index, Some, None, refl, sym, ap, ◌∙◌, subst, arith}
use Rattle.std.specs.Prelude.{◌↔◌}
use Rattle.std.specs.List.{All}
use Rattle.std.specs.Fork.{slice_chunk}
use Rattle.std.proofs.lemmas.Bool.{cases_lt}
use Rattle.std.proofs.lemmas.List.Elements.{All-weaker}
use Rattle.std.proofs.lemmas.List.FromFn.{length-map-range_with_len}
use Rattle.zero_count.specs.declared.Header.{Header}
use Rattle.cell_bits.specs.Cells.{AreBytes}
use Rattle.cell_bits.proofs.Slices.{bytes_drop, bytes_take}
use Rattle.mem_die.specs.PageLaws.{page_at-pages, chunk_whole}
use Rattle.page_codec.specs.declared.place.Place.{Place}
use Rattle.page_codec.specs.Geometry.{Geometry, HasShape, page_count, shape_of}
use Rattle.page_codec.specs.Records.{Placed, places, header_in, may_hold}
use Rattle.page_codec.specs.Sound.{IsSound, HeadersBelow, SeqsDiffer, SeqsBelow}
use Rattle.page_codec.proofs.Newest.{Member, kept_member}
use Rattle.page_codec.proofs.Within.{header_within}
use Rattle.page_codec.proofs.Live.{holds_within}
use Rattle.image_audit.specs.declared.mark.Mark.{Mark}
use Rattle.image_audit.specs.declared.verdict.Verdict.{Verdict}
use Rattle.image_audit.specs.declared.verdict.Verdict.TheVariants.{Sound, Header as BadHeader, SameSeq, NoSpare, Number}
use Rattle.striped.specs.Meaning.{Decoding}
use Rattle.image_audit.specs.Audits.{IsAudit}
use Rattle.image_audit.specs.Held.{held, array_told}
use Rattle.image_audit.specs.Images.{HasLength, pages_in, whole_bytes}
use Rattle.image_audit.specs.Marks.{marks_in, placed_of, newest_of, first_repeat, first_high, AreLive}
use Rattle.image_audit.specs.Reading.{LiesBelow, ReadTo}
use Rattle.image_audit.specs.Said.{MarksSay, SomeUntaken, HighAt, IsWhole, told_by}
use Rattle.image_audit.specs.Verdicts.{IsFirst, IsFirstRepeat, RepeatsAt, IsHighAt, SomeBlockFree, LiesBelowNone, SameSeqAs, at_place, placed_in, headers, IsVerdict}
use Rattle.image_audit.proofs.LiveCells.{IsLiveMark, live_marks, taken_counts, untaken_counts, told_held, told_stored}
use Rattle.image_audit.proofs.Marked.{marks_are_headers}
use Rattle.image_audit.proofs.Ordered.{listed_within, headers_apart, header_listed}
use Rattle.image_audit.proofs.Repeats.{all_member, none_repeated, repeat_found, FoundRepeat, high_found, none_high}
use Rattle.image_audit.proofs.Slots.{slots_split}

-- the pages of an image have the shape of its die
pub shaped : (g : Geometry) (bytes : List ℕ) → HasLength g bytes → AreBytes bytes → HasShape (shape_of g) (pages_in g bytes)
shaped g bytes long are = record {
  pages = length-map-range_with_len (slice_chunk bytes (whole_bytes g)) 0 (page_count g);
  bytes = λ page within. ap (length {A = ℕ}) (page_at-pages bytes (whole_bytes g) (page_count g) page long) ∙ chunk_whole bytes (whole_bytes g) (page_count g) page long within;
  small = λ page k. subst (λ (row : List ℕ). slice_index row k < 2 ^ 8) (sym (page_at-pages bytes (whole_bytes g) (page_count g) page long))
      (bytes_take (whole_bytes g) _ (bytes_drop (page * whole_bytes g) bytes are) k);
}

in_middle : {X : Type 0} (before after : List X) (x : X) → Member x (before ++ x ∷ after)
in_middle [] after x = inl refl
in_middle (y ∷ before) after x = inr (in_middle before after x)

first_member : {X : Type 0} (P : X → Type 0) (xs : List X) (x : X) → IsFirst P xs x → Member x xs
first_member P xs x first = subst (Member x) (sym first.split) (in_middle first.before first.after x)

listed : (g : Geometry) (page slot : ℕ) → page < page_count g → slot < g.generations → Member (at_place page slot) (places g)
listed g page slot h k = let split = slots_split g page slot h k in subst (Member (at_place page slot)) (sym split.1) (in_middle _ split.0 (at_place page slot))

headers_below : (g : Geometry) (cells : List (List ℕ)) → All (LiesBelow g cells) (places g) → HeadersBelow g cells
headers_below g cells all page slot h k = all_member (LiesBelow g cells) (places g) (at_place page slot) all (listed g page slot h k)

-- a header of the die is listed
header_member : (g : Geometry) (cells : List (List ℕ)) (place : Place) (h : Header) → HasShape (shape_of g) cells → header_in g cells place ≡ Some h
    → Member (record { place = place; header = h }) (headers g cells)
unfolding headers
header_member g cells place h shape e =
    let w = header_within g cells place h shape e in
    kept_member (λ p. placed_in p (header_in g cells p)) place (record { place = place; header = h }) (places g) (listed g place.page place.slot w.0 w.1) (ap (placed_in place) e)

module _ (g : Geometry) (cells : List (List ℕ)) (marks live : List Mark) (shape : HasShape (shape_of g) cells) (read : ReadTo g cells (places g) marks) (are : AreLive marks live) where
  are_headers : map placed_of marks ≡ headers g cells
  are_headers = ap (map placed_of) read.marked ∙ marks_are_headers g cells

  are_live : AreLive (marks_in g cells (places g)) live
  are_live = subst (λ (ms : List Mark). AreLive ms live) read.marked are

  member : (place : Place) (h : Header) → header_in g cells place ≡ Some h → Member (record { place = place; header = h }) (map placed_of marks)
  member place h e = subst (Member (record { place = place; header = h })) (sym are_headers) (header_member g cells place h shape e)

  seqs_differ : first_repeat marks ≡ None → SeqsDiffer g cells
  seqs_differ none a b h k e f same =
      ap (λ (x : Placed). x.place) (none_repeated marks none (record { place = a; header = h }) (record { place = b; header = k }) (member a h e) (member b k f) same)

  some_free : SomeUntaken g live → SomeBlockFree g cells
  some_free free = (free.0, free.1, untaken_counts g cells live free.0 are_live free.2)

  small_seqs : first_high marks ≡ None → SeqsBelow g (2 ^ 62 + 2 ^ 20) cells
  small_seqs none place h e = elim (cases_lt h.seq (2 ^ 62 + 2 ^ 20)) [
    | inl below ↦ below
    | inr high ↦ absurd (all_member (λ (placed : Placed). 2 ^ 62 + 2 ^ 20 ≤ placed.header.seq → ⊥) (map placed_of marks) (record { place = place; header = h }) (none_high marks none)
        (member place h e) high)
  ]

  repeats : (first second : Place) → first_repeat marks ≡ Some (first, second) → RepeatsAt g cells first second
  repeats first second e =
      let found : FoundRepeat (map placed_of marks) first second = repeat_found marks first second e in
      record {
        header = found.a.header;
        other = found.b.header;
        repeat = subst (λ (p : Place). IsFirstRepeat (headers g cells) (record { place = p; header = found.a.header }) (record { place = second; header = found.b.header })) found.a_there
            (subst (λ (p : Place). IsFirstRepeat (headers g cells) found.a (record { place = p; header = found.b.header })) found.b_there
            (subst (λ (hs : List Placed). IsFirstRepeat hs found.a found.b) are_headers found.repeat));
      }

  high_at : (place : Place) → HighAt marks place → IsHighAt g cells place
  high_at place high = record {
    header = high.mark.header;
    first = subst (λ (p : Place). IsFirst (λ placed. 2 ^ 62 + 2 ^ 20 ≤ placed.header.seq) (headers g cells) (record { place = p; header = high.mark.header })) high.there
        (subst (λ (hs : List Placed). IsFirst (λ placed. 2 ^ 62 + 2 ^ 20 ≤ placed.header.seq) hs (placed_of high.mark)) are_headers (high_found marks high.mark high.first));
  }

  -- the verdict by the marks is the one on the cells
  pub verdict_is : (v : Verdict) → MarksSay g marks live v → IsVerdict g cells v
  verdict_is Sound says = record {
    below_valid = headers_below g cells read.below;
    seqs_differ = seqs_differ says.0;
    one_free = some_free says.1;
    small_seqs = small_seqs says.2;
  }
  verdict_is (BadHeader page slot) says = absurd says
  verdict_is (SameSeq page slot other_page other_slot) says = (headers_below g cells read.below, repeats (at_place page slot) (at_place other_page other_slot) says)
  verdict_is NoSpare says = (headers_below g cells read.below, seqs_differ says.0, λ block within none. taken_counts g cells live block are_live (says.1 block within) none)
  verdict_is (Number page slot) says = (headers_below g cells read.below, seqs_differ says.0, some_free says.1, high_at (at_place page slot) says.2)

-- sound cells have no other verdict
pub only_sound : (g : Geometry) (cells : List (List ℕ)) (v : Verdict) → IsVerdict g cells v → IsSound g cells → v ≡ Sound
only_sound g cells Sound verdict sound = refl
only_sound g cells (BadHeader page slot) verdict sound =
    let w = listed_within g (at_place page slot) (first_member (LiesBelowNone g cells) (places g) (at_place page slot) verdict) in
    absurd (verdict.holds (sound.below_valid page slot w.0 w.1))
only_sound g cells (SameSeq page slot other_page other_slot) verdict sound =
    let r : RepeatsAt g cells (at_place page slot) (at_place other_page other_slot) = verdict.1 in
    let a : Placed = record { place = at_place page slot; header = r.header } in
    let b : Placed = record { place = at_place other_page other_slot; header = r.other } in
    let f : IsFirstRepeat (headers g cells) a b = r.repeat in
    let later : Member b f.after = first_member (SameSeqAs a) f.after b f.repeated in
    let there : Member b (headers g cells) = subst (Member b) (sym f.split) (after_member f.before a f.after b later) in
    absurd (headers_apart g cells f.before a b f.after f.split later
    (sound.seqs_differ a.place b.place r.header r.other (header_listed g cells a (subst (Member a) (sym f.split) (in_middle f.before f.after a))) (header_listed g cells b there)
    (sym f.repeated.holds)))
  where
    after_member : {X : Type 0} (before : List X) (a : X) (after : List X) (b : X) → Member b after → Member b (before ++ a ∷ after)
    after_member [] a after b m = inr m
    after_member (x ∷ before) a after b m = inr (after_member before a after b m)
only_sound g cells NoSpare verdict sound = absurd (verdict.2 sound.one_free.0 sound.one_free.1 sound.one_free.2)
only_sound g cells (Number page slot) verdict sound =
    let h : IsHighAt g cells (at_place page slot) = verdict.3 in
    let x : Placed = record { place = at_place page slot; header = h.header } in
    let low : h.header.seq < 2 ^ 62 + 2 ^ 20 =
    sound.small_seqs (at_place page slot) h.header (header_listed g cells x (first_member (λ (placed : Placed). 2 ^ 62 + 2 ^ 20 ≤ placed.header.seq) (headers g cells) x h.first)) in
    let high : 2 ^ 62 + 2 ^ 20 ≤ h.header.seq = h.first.holds in
    absurd (omega arith)

-- so the verdict is that they are sound exactly where they are
pub sound_exactly : (g : Geometry) (cells : List (List ℕ)) (v : Verdict) → IsVerdict g cells v → (v ≡ Sound) ↔ IsSound g cells
sound_exactly g cells v verdict = (λ e. subst (IsVerdict g cells) e verdict, only_sound g cells v verdict)

-- ---- what is told

pub unsound_audit : (g : Geometry) (d : Decoding) (cells : List (List ℕ)) (v : Verdict) → IsVerdict g cells v → (v ≡ Sound → ⊥) → IsAudit g d cells v []
unsound_audit g d cells v verdict other = record {
  verdict = verdict;
  sound = sound_exactly g cells v verdict;
  tells = λ e. absurd (other e);
  array = λ e. absurd (other e);
  nothing = λ apart. refl;
}

pub sound_audit : (g : Geometry) (d : Decoding) (cells : List (List ℕ)) (marks live : List Mark) (told : List (ℕ × List ℕ)) → HasShape (shape_of g) cells → ReadTo g cells (places g) marks
    → AreLive marks live
    → MarksSay g marks live Sound → told ≡ map (told_by g d cells) live → All (IsWhole g d cells) live → IsAudit g d cells Sound told
sound_audit g d cells marks live told shape read are says tells whole =
    let verdict : IsSound g cells = verdict_is g cells marks live shape read are Sound says in
    let listed_live : AreLive (marks_in g cells (places g)) live = subst (λ (ms : List Mark). AreLive ms live) read.marked are in
    let is_held : told ≡ held g d cells = tells ∙ told_held g d cells live listed_live in
    record {
      verdict = verdict;
      sound = sound_exactly g cells Sound verdict;
      tells = λ e. is_held;
      array = λ e. ap (array_told g) is_held ∙ told_stored g d cells live listed_live whole;
      nothing = λ apart. absurd (apart refl);
    }

-- ---- where live records stand

pub live_holds : (g : Geometry) (cells : List (List ℕ)) (marks live : List Mark) → ReadTo g cells (places g) marks → AreLive marks live → All (λ mark. may_hold g mark.place ≡ true) live
live_holds g cells marks live read are =
    All-weaker (IsLiveMark g cells) (λ mark. may_hold g mark.place ≡ true) (λ mark l. l.holds) live
    (live_marks g cells live (subst (λ (ms : List Mark). All (λ mark. newest_of ms mark.header.sector ≡ Some (placed_of mark)) live) read.marked are.newest))

pub live_pages : (g : Geometry) (cells : List (List ℕ)) (marks live : List Mark) → 1 ≤ g.generations → ReadTo g cells (places g) marks → AreLive marks live
    → All (λ mark. mark.place.page < page_count g) live
live_pages g cells marks live some read are =
    All-weaker (λ mark. may_hold g mark.place ≡ true) (λ mark. mark.place.page < page_count g) (λ mark h. (holds_within g mark.place some h).0) live (live_holds g cells marks live read are)
