-- The two tables against the definitions: every entry is tested over all words of three cells.
use Rattle.std.proofs.Common.{◌≡◌, ℕ, ◌<◌, Bool, true, not, ◌&&◌, cond, List, [], ◌∷◌, get_or, eqb, ltb, sym, ◌∙◌, ap, refl}
use Rattle.std.proofs.lemmas.Bool.{agree_below, agree_below_at, and_parts, not-true, true≢false, ltb-true, ne_eqb}
use Rattle.wom_code.specs.Cells.{NoneCarries}
use Rattle.wom_code.specs.Packed.{cells_of}
use Rattle.wom_code.proofs.WordTests.{same, same_to, carries_test, carries_from, carries_to, all_rows, all_rows_at}
use Rattle.wom_code.proofs.TableCodes.{IsEntry}
use Rattle.rivest_shamir.specs.declared.TheConstants.{MESSAGE, NEXT}
use Rattle.rivest_shamir.specs.Words.{message_of, is_least}

-- ---- the tables

word3 : ℕ → List Bool
word3 w = cells_of 3 (w ∷ [])

message2 : ℕ → List Bool
message2 m = cells_of 2 (m ∷ [])

next_at : ℕ → ℕ → ℕ
next_at w m = get_or (get_or NEXT m []) w 0

none_test : ℕ → ℕ → Bool
none_test w m = all_rows 3 (λ new. not (carries_test message_of (word3 w) (message2 m) new))

-- a word of the table carries the message, and is the least
given_test : ℕ → ℕ → ℕ → Bool
given_test w m next = ltb next 8 && (carries_test message_of (word3 w) (message2 m) (word3 next) && is_least (word3 w) (message2 m) (word3 next))

-- where the table has 8 there is no word, and elsewhere its word is the least
entry_test : ℕ → ℕ → ℕ → Bool
entry_test w m next = cond (eqb next 8) (none_test w m) (given_test w m next)

all_entries : agree_below (λ m. agree_below (λ w. entry_test w m (next_at w m)) (λ _. true) 8) (λ _. true) 4 ≡ true
unfolding word3 message2 cells_of next_at none_test is_least given_test entry_test
all_entries = refl

entry : (w m : ℕ) → w < 8 → m < 4 → entry_test w m (next_at w m) ≡ true
entry w m h i =
    agree_below_at (λ v. entry_test v m (next_at v m)) (λ _. true) 8 w
    (agree_below_at (λ k. agree_below (λ v. entry_test v k (next_at v k)) (λ _. true) 8) (λ _. true) 4 m all_entries i) h

message_test : ℕ → Bool
message_test w = ltb (get_or MESSAGE w 0) 4 && same (message2 (get_or MESSAGE w 0)) (message_of (word3 w))

all_messages : agree_below message_test (λ _. true) 8 ≡ true
unfolding word3 message2 cells_of message_test
all_messages = refl

-- ---- what the tables say

pub message_at : (w : ℕ) → w < 8 → (get_or MESSAGE w 0 < 4) × (cells_of 2 (get_or MESSAGE w 0 ∷ []) ≡ message_of (cells_of 3 (w ∷ [])))
unfolding word3 message2 message_test
message_at w h =
    let t = and_parts _ _ (agree_below_at message_test (λ _. true) 8 w all_messages h) in
    (ltb-true _ _ t.0, same_to _ _ t.1)

pub none_at : (w m : ℕ) → w < 8 → m < 4 → get_or (get_or NEXT m []) w 0 ≡ 8 → NoneCarries message_of 3 (cells_of 3 (w ∷ [])) (cells_of 2 (m ∷ []))
unfolding word3 message2 next_at none_test entry_test
none_at w m h i e new len c =
    let t : none_test w m ≡ true = sym (ap (entry_test w m) e) ∙ entry w m h i in
    let f = not-true _ (all_rows_at 3 (λ n. not (carries_test message_of (word3 w) (message2 m) n)) t new len) in
    true≢false (sym (carries_from message_of _ _ new c) ∙ f)

pub entry_at : (w m : ℕ) → w < 8 → m < 4 → (get_or (get_or NEXT m []) w 0 ≡ 8 → ⊥) → IsEntry message_of is_least 2 3 w m (get_or (get_or NEXT m []) w 0)
unfolding word3 message2 next_at given_test entry_test
entry_at w m h i n =
    let next : ℕ = next_at w m in
    let t : given_test w m next ≡ true = sym (ap (λ b. cond b (none_test w m) (given_test w m next)) (ne_eqb next 8 n)) ∙ entry w m h i in
    let parts = and_parts _ _ t in
    let rest = and_parts _ _ parts.1 in
    record {
      word = ltb-true next 8 parts.0;
      carries = carries_to message_of _ _ _ rest.0;
      given = rest.1;
    }
