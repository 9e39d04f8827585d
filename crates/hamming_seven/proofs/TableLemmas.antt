-- The two tables against the definitions: every entry is tested over all words of seven cells.
use Rattle.std.proofs.Common.{◌≡◌, ℕ, zero, suc, ◌<◌, Bool, true, not, ◌&&◌, cond, List, [], ◌∷◌, get_or, eqb, ltb, sym, ◌∙◌, ap, refl, arith}
use Rattle.std.proofs.lemmas.Bool.{agree_below, agree_below_at, and_parts, not-true, true≢false, ltb-true, ne_eqb}
use Rattle.wom_code.specs.Cells.{NoneCarries}
use Rattle.wom_code.specs.Packed.{cells_of}
use Rattle.wom_code.proofs.WordTests.{same, same_to, carries_test, carries_from, carries_to, all_rows, all_rows_at}
use Rattle.wom_code.proofs.TableCodes.{IsEntry}
use Rattle.hamming_seven.specs.declared.tables.TheConstants.{MESSAGE, NEXT}
use Rattle.hamming_seven.specs.Words.{message_of, is_first}

-- ---- the tables

unfoldable pub word7 : ℕ → List Bool
word7 w = cells_of 7 (w ∷ [])

unfoldable pub message3 : ℕ → List Bool
message3 m = cells_of 3 (m ∷ [])

unfoldable pub next_at : ℕ → ℕ → ℕ
next_at w m = get_or (get_or NEXT m []) w 0

none_test : ℕ → ℕ → Bool
none_test w m = all_rows 7 (λ new. not (carries_test message_of (word7 w) (message3 m) new))

-- a word of the table carries the message, and comes before all others
given_test : ℕ → ℕ → ℕ → Bool
given_test w m next = ltb next 128 && (carries_test message_of (word7 w) (message3 m) (word7 next) && is_first (word7 w) (message3 m) (word7 next))

-- where the table has 128 there is no word, and elsewhere its word comes before all others
entry_test : ℕ → ℕ → ℕ → Bool
entry_test w m next = cond (eqb next 128) (none_test w m) (given_test w m next)

row_test : ℕ → Bool
row_test m = agree_below (λ w. entry_test w m (next_at w m)) (λ _. true) 128

row_0 : row_test 0 ≡ true
unfolding word7 message3 cells_of next_at none_test is_first given_test entry_test row_test
row_0 = refl

row_1 : row_test 1 ≡ true
unfolding word7 message3 cells_of next_at none_test is_first given_test entry_test row_test
row_1 = refl

row_2 : row_test 2 ≡ true
unfolding word7 message3 cells_of next_at none_test is_first given_test entry_test row_test
row_2 = refl

row_3 : row_test 3 ≡ true
unfolding word7 message3 cells_of next_at none_test is_first given_test entry_test row_test
row_3 = refl

row_4 : row_test 4 ≡ true
unfolding word7 message3 cells_of next_at none_test is_first given_test entry_test row_test
row_4 = refl

row_5 : row_test 5 ≡ true
unfolding word7 message3 cells_of next_at none_test is_first given_test entry_test row_test
row_5 = refl

row_6 : row_test 6 ≡ true
unfolding word7 message3 cells_of next_at none_test is_first given_test entry_test row_test
row_6 = refl

row_7 : row_test 7 ≡ true
unfolding word7 message3 cells_of next_at none_test is_first given_test entry_test row_test
row_7 = refl

row : (m : ℕ) → m < 8 → agree_below (λ w. entry_test w m (next_at w m)) (λ _. true) 128 ≡ true
unfolding row_test
row zero h = row_0
row (suc zero) h = row_1
row (suc (suc zero)) h = row_2
row (suc (suc (suc zero))) h = row_3
row (suc (suc (suc (suc zero)))) h = row_4
row (suc (suc (suc (suc (suc zero))))) h = row_5
row (suc (suc (suc (suc (suc (suc zero)))))) h = row_6
row (suc (suc (suc (suc (suc (suc (suc zero))))))) h = row_7
row (suc (suc (suc (suc (suc (suc (suc (suc m)))))))) h = absurd (omega arith)

entry : (w m : ℕ) → w < 128 → m < 8 → entry_test w m (next_at w m) ≡ true
entry w m h i = agree_below_at (λ v. entry_test v m (next_at v m)) (λ _. true) 128 w (row m i) h

message_test : ℕ → Bool
message_test w = ltb (get_or MESSAGE w 0) 8 && same (message3 (get_or MESSAGE w 0)) (message_of (word7 w))

all_messages : agree_below message_test (λ _. true) 128 ≡ true
unfolding word7 message3 cells_of message_test
all_messages = refl

-- what the tables say
pub message_at : (w : ℕ) → w < 128 → (get_or MESSAGE w 0 < 8) × (cells_of 3 (get_or MESSAGE w 0 ∷ []) ≡ message_of (cells_of 7 (w ∷ [])))
unfolding word7 message3 message_test
message_at w h =
    let t = and_parts _ _ (agree_below_at message_test (λ _. true) 128 w all_messages h) in
    (ltb-true _ _ t.0, same_to _ _ t.1)

pub none_at : (w m : ℕ) → w < 128 → m < 8 → get_or (get_or NEXT m []) w 0 ≡ 128 → NoneCarries message_of 7 (cells_of 7 (w ∷ [])) (cells_of 3 (m ∷ []))
unfolding word7 message3 next_at none_test entry_test
none_at w m h i e new len c =
    let t : none_test w m ≡ true = sym (ap (entry_test w m) e) ∙ entry w m h i in
    let f = not-true _ (all_rows_at 7 (λ n. not (carries_test message_of (word7 w) (message3 m) n)) t new len) in
    true≢false (sym (carries_from message_of _ _ new c) ∙ f)

pub entry_at : (w m : ℕ) → w < 128 → m < 8 → (get_or (get_or NEXT m []) w 0 ≡ 128 → ⊥) → IsEntry message_of is_first 3 7 w m (get_or (get_or NEXT m []) w 0)
unfolding word7 message3 next_at given_test entry_test
entry_at w m h i n =
    let next : ℕ = next_at w m in
    let t : given_test w m next ≡ true = sym (ap (λ b. cond b (none_test w m) (given_test w m next)) (ne_eqb next 128 n)) ∙ entry w m h i in
    let parts = and_parts _ _ t in
    let rest = and_parts _ _ parts.1 in
    record {
      word = ltb-true next 128 parts.0;
      carries = carries_to message_of _ _ _ rest.0;
      given = rest.1;
    }
