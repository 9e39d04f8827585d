-- A code whose rows are one word: what its table says of numbers holds of the rows.
use Rattle.std.proofs.Common.{◌≡◌, ℕ, ◌^◌, ◌<◌, ◌≤◌, List, [], ◌∷◌, Bool, true, length, get_or, set, sym, subst}
use Rattle.wom_code.specs.Cells.{Carries, NoneCarries}
use Rattle.wom_code.specs.Packed.{IsRow, cells_of}
use Rattle.wom_code.proofs.OneWord.{word_alone, set_alone, row_alone}

-- the word that a table has over an old word for a message
pub record IsEntry (decode : List Bool → List Bool) (gives : List Bool → List Bool → List Bool → Bool) (k n old message next : ℕ) : Type 0 where
  pub word : next < 2 ^ n
  pub carries : Carries decode (cells_of n (old ∷ [])) (cells_of k (message ∷ [])) (cells_of n (next ∷ []))
  pub given : gives (cells_of n (old ∷ [])) (cells_of k (message ∷ [])) (cells_of n (next ∷ [])) ≡ true

-- the row that the table's word makes
pub record IsWritten (decode : List Bool → List Bool) (gives : List Bool → List Bool → List Bool → Bool) (k n : ℕ) (old message new : List ℕ) : Type 0 where
  pub row : IsRow n new
  pub carries : Carries decode (cells_of n old) (cells_of k message) (cells_of n new)
  pub given : gives (cells_of n old) (cells_of k message) (cells_of n new) ≡ true

pub entry_written : (decode : List Bool → List Bool) (gives : List Bool → List Bool → List Bool → Bool) (k n : ℕ) (old message out : List ℕ) (next : ℕ) →
    0 < n → n ≤ 64 → length old ≡ 1 → length message ≡ 1 → length out ≡ 1 → IsEntry decode gives k n (get_or old 0 0) (get_or message 0 0) next →
    IsWritten decode gives k n old message (set out 0 next)
entry_written decode gives k n old message out next some fits o m len e =
    let row : IsWritten decode gives k n (get_or old 0 0 ∷ []) (get_or message 0 0 ∷ []) (next ∷ []) =
    record { row = row_alone n next some fits e.word; carries = e.carries; given = e.given } in
    let W : List ℕ → List ℕ → List ℕ → Type 0 = IsWritten decode gives k n in
    subst (λ a. W a message (set out 0 next)) (sym (word_alone old o))
    (subst (λ b. W (get_or old 0 0 ∷ []) b (set out 0 next)) (sym (word_alone message m))
    (subst (W (get_or old 0 0 ∷ []) (get_or message 0 0 ∷ [])) (sym (set_alone out next len)) row))

pub none_written : (decode : List Bool → List Bool) (k n : ℕ) (old message : List ℕ) → length old ≡ 1 → length message ≡ 1 →
    NoneCarries decode n (cells_of n (get_or old 0 0 ∷ [])) (cells_of k (get_or message 0 0 ∷ [])) → NoneCarries decode n (cells_of n old) (cells_of k message)
none_written decode k n old message o m none =
    subst (λ a. NoneCarries decode n (cells_of n a) (cells_of k message)) (sym (word_alone old o))
    (subst (λ b. NoneCarries decode n (cells_of n (get_or old 0 0 ∷ [])) (cells_of k b)) (sym (word_alone message m)) none)
