-- A put after calls that change no cell is a put from the cells before them.
use Rattle.std.proofs.Common.{◌≡◌, inl, inr, ℕ, ◌+◌, Bool, false, if◌then◌else◌, List, drop, sym, ap, ◌∙◌, arith, subst}
use Rattle.zero_count.specs.declared.Header.{Header}
use Rattle.cell_die.specs.Cells.{IsAbove, page_at}
use Rattle.cell_die.specs.declared.shape.Shape.{Shape}
use Rattle.cell_die.specs.DieState.{DieState, page_of}
use Rattle.cell_die.specs.Changes.{SameCells}
use Rattle.cell_die.specs.Calls.{Passed, ChangeFailed, ReadFailed}
use Rattle.cell_die.proofs.Sequences.{passed_trans, change_failed_after}
use Rattle.striped.specs.Meaning.{Meaning, IsSector}
use Rattle.spare_gate.specs.Slots.{with_record}
use Rattle.page_codec.specs.declared.place.Place.{Place}
use Rattle.page_codec.specs.Puts.{Puts, FirstGives, first_slot}
use Rattle.page_codec.specs.Sectors.{says_zeros}
use Rattle.page_codec.specs.Units.{reads_of, decoded_at}
use Rattle.collector.specs.declared.live.LiveRecord.{LiveRecord}
use Rattle.collector.specs.Again.{again, again_reads, PutsAgain}
use Rattle.collector.proofs.Says.{says_bytes}

pub puts_after : {A B : (ℕ → List ℕ) → Type 0} {span : ℕ} (place : Place) (h : Header) (old mid new : DieState) → SameCells old mid → mid.shape ≡ old.shape
    → (p : Puts A span place h mid new) → B p.done → Puts B span place h old new
puts_after place h old mid new same shape p content = record {
  erases = p.erases ∙ same.erases;
  others = λ page outside. p.others page outside ∙ row page;
  done = p.done;
  record_there = ap (λ (m : ℕ). drop m (p.done place.page)) (sym main) ∙ (p.record_there ∙ spares place.page);
  other_spares = λ page apart. ap (λ (m : ℕ). drop m (p.done page)) (sym main) ∙ (p.other_spares page apart ∙ spare page);
  content = content;
  above = λ page. subst (IsAbove (page_of new page)) (row page) (p.above page);
  below = p.below;
  whole = p.whole;
  order = elim p.order [ inl first ↦ inl (first ∙ row place.page) | inr further ↦ inr further ];
}
  where
    main : mid.shape.main_bytes ≡ old.shape.main_bytes
    main = ap (λ (s : Shape). s.main_bytes) shape

    row : (page : ℕ) → page_of mid page ≡ page_of old page
    row page = ap (λ (cells : List (List ℕ)). page_at cells page) same.cells

    spare : (page : ℕ) → drop mid.shape.main_bytes (page_of mid page) ≡ drop old.shape.main_bytes (page_of old page)
    spare page = λ i. drop (main i) (row page i)

    spares : (page : ℕ) → with_record (drop mid.shape.main_bytes (page_of mid page)) place.slot h ≡ with_record (drop old.shape.main_bytes (page_of old page)) place.slot h
    spares page = ap (λ (bytes : List ℕ). with_record bytes place.slot h) (spare page)

-- the bytes of a record were read and put again
pub bytes_puts : (meaning : Meaning) (live : LiveRecord) (page : ℕ) (sector : List ℕ) (old mid new : DieState) (seq : ℕ) → SameCells old mid → mid.shape ≡ old.shape
    → says_zeros live.header ≡ false → Puts (FirstGives meaning page sector) 1 (first_slot page) (again live.header seq) mid new → sector ≡ decoded_at meaning old live.place → IsSector meaning sector
    → PutsAgain meaning live page old seq new
bytes_puts meaning live page sector old mid new seq same shape bytes p got is =
    puts_after (first_slot page) (again live.header seq) old mid new same shape p (says_bytes meaning page live.place live.header sector old p.done bytes got is p.content)

reads_for_bytes : (meaning : Meaning) (live : LiveRecord) → says_zeros live.header ≡ false → reads_of meaning live.place ≡ again_reads meaning live
reads_for_bytes meaning live bytes = sym (ap (λ (t : Bool). if t then 0 else reads_of meaning live.place) bytes)

pub bytes_passed : (meaning : Meaning) (live : LiveRecord) (old mid new : DieState) → says_zeros live.header ≡ false → Passed 0 (reads_of meaning live.place) old mid → Passed 2 0 mid new
    → Passed 2 (again_reads meaning live) old new
bytes_passed meaning live old mid new bytes first second =
    subst (λ (n : ℕ). Passed 2 n old new) (sum (reads_of meaning live.place) (again_reads meaning live) (reads_for_bytes meaning live bytes)) (passed_trans first second)
  where
    sum : (a b : ℕ) → a ≡ b → a + 0 ≡ b
    sum a b e = omega arith

pub bytes_failed : (meaning : Meaning) (live : LiveRecord) (old mid new : DieState) → says_zeros live.header ≡ false → Passed 0 (reads_of meaning live.place) old mid → ChangeFailed 2 0 mid new
    → ChangeFailed 2 (again_reads meaning live) old new
bytes_failed meaning live old mid new bytes first second =
    subst (λ (n : ℕ). ChangeFailed 2 n old new) (sum (reads_of meaning live.place) (again_reads meaning live) (reads_for_bytes meaning live bytes)) (change_failed_after first second)
  where
    sum : (a b : ℕ) → a ≡ b → a + 0 ≡ b
    sum a b e = omega arith

pub bytes_read_failed : (meaning : Meaning) (live : LiveRecord) (old new : DieState) → says_zeros live.header ≡ false → ReadFailed 0 (reads_of meaning live.place) old new
    → ReadFailed 0 (again_reads meaning live) old new
bytes_read_failed meaning live old new bytes failed = subst (λ (n : ℕ). ReadFailed 0 n old new) (reads_for_bytes meaning live bytes) failed
