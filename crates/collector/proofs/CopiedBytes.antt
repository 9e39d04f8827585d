-- A copy of a record of bytes: its sector is read, and put on the page.
use Rattle.std.proofs.Common.{◌≡◌, ℕ, ◌+◌, Bool, false, List, if◌then◌else◌, Result, Ok, Err, is_err, OnOk, sym, ap, ◌∙◌, subst, add-zero}
use Rattle.std.proofs.lemmas.Bool.{false≢true, cond-false}
use Rattle.zero_count.specs.declared.Header.{Header}
use Rattle.cell_die.specs.DieState.{DieState}
use Rattle.cell_die.specs.Changes.{SameCells}
use Rattle.cell_die.specs.Calls.{Passed, ChangeFailed}
use Rattle.cell_die.proofs.Sequences.{passed_trans, change_failed_after}
use Rattle.striped.specs.Meaning.{Meaning, IsSector}
use Rattle.block_state.specs.Book.{BookValue}
use Rattle.page_codec.specs.declared.place.Place.{Place}
use Rattle.page_codec.specs.Promises.{Keeps, KeepsRecords}
use Rattle.page_codec.specs.Puts.{Puts, FirstGives, first_slot}
use Rattle.page_codec.specs.Sectors.{says_zeros}
use Rattle.page_codec.specs.Units.{decoded_at, reads_of}
use Rattle.collector.specs.Says.{SaysSame}
use Rattle.collector.specs.Steps.{copied_header, copy_reads, PutsDrawn}
use Rattle.collector.proofs.Says.{says_bytes}
use Rattle.collector.proofs.PutAfter.{puts_after}

-- what a put keeps, after reads alone
pub keeps_after : (place : Place) (h : Header) (old mid new : DieState) → SameCells old mid → mid.shape ≡ old.shape → KeepsRecords place h mid new → KeepsRecords place h old new
keeps_after place h old mid new same shape keeps g s header =
    subst (λ (cells : List (List ℕ)). Keeps g place h cells new.cells) same.cells (keeps g (record { shape = shape ∙ s.shape; page = s.page; slot = s.slot }) header)

-- The put of the sector that was got.
pub bytes_put : (meaning : Meaning) (spare page : ℕ) (place : Place) (header : Header) (sector : List ℕ) (old mid new : DieState) (book after : BookValue) (seq next : ℕ)
    → SameCells old mid → mid.shape ≡ old.shape → says_zeros header ≡ false → sector ≡ decoded_at meaning old place → IsSector meaning sector
    → PutsDrawn (FirstGives meaning page sector) spare page (record { sector = header.sector; seq = seq; kind = 2 }) mid book seq new after next
    → PutsDrawn (SaysSame meaning old place header page) spare page (copied_header header seq) old book seq new after next
bytes_put meaning spare page place header sector old mid new book after seq next same shape bytes got is p = record {
  put = subst (λ (h : Header). Puts (SaysSame meaning old place header page) 1 (first_slot page) h old new) is_copy
      (puts_after (first_slot page) _ old mid new same shape p.put (says_bytes meaning page place header sector old p.put.done bytes got is p.put.content));
  records = subst (λ (h : Header). KeepsRecords (first_slot page) h old new) is_copy (keeps_after (first_slot page) _ old mid new same shape p.records);
  marked = p.marked;
  drawn = p.drawn;
}
  where
    is_copy : record { sector = header.sector; seq = seq; kind = 2 } ≡ copied_header header seq
    is_copy = ap (λ (t : Bool). let h : Header = record { sector = header.sector; seq = seq; kind = if t then 4 else 2 } in h) (sym bytes)

-- what holds of an Ok, where there was no error
pub when_ok : {T E : Type 0} (P : Type 0) (result : Result T E) → is_err result ≡ false → OnOk result P → P
when_ok P (Ok x) e p = p
when_ok P (Err x) e p = absurd (false≢true (sym e))

reads_are : (meaning : Meaning) (place : Place) (header : Header) → says_zeros header ≡ false → reads_of meaning place + 0 ≡ copy_reads meaning place header
reads_are meaning place header bytes = add-zero (reads_of meaning place) ∙ sym (cond-false (says_zeros header) 0 (reads_of meaning place) bytes)

-- the reads come first, and then the two change calls
pub passed_after_get : (meaning : Meaning) (place : Place) (header : Header) (old mid new : DieState) → says_zeros header ≡ false → Passed 0 (reads_of meaning place) old mid → Passed 2 0 mid new
    → Passed 2 (copy_reads meaning place header) old new
passed_after_get meaning place header old mid new bytes first second = subst (λ (r : ℕ). Passed 2 r old new) (reads_are meaning place header bytes) (passed_trans first second)

pub failed_after_get : (meaning : Meaning) (place : Place) (header : Header) (old mid new : DieState) → says_zeros header ≡ false → Passed 0 (reads_of meaning place) old mid
    → ChangeFailed 2 0 mid new → ChangeFailed 2 (copy_reads meaning place header) old new
failed_after_get meaning place header old mid new bytes first second = subst (λ (r : ℕ). ChangeFailed 2 r old new) (reads_are meaning place header bytes) (change_failed_after first second)
